-- The leading rows of arrangements: how the next row decides.
--
--   leading-cells, leading-is  ==  equal leading rows are equal cell by cell
--   leading-fewer              ==  fewer rows of equal ones are equal
--   leading-more, leading-row  ==  one row more is equal where that row is
--   leading-lower              ==  of equal rows with one more, the lower next row comes first
--   leading-decides            ==  leading rows that differ decide the order of the arrangements
--   best-whole                 ==  sorted columns give the least leading rows, for the row order at hand
use mathlib.Core.Path.{◌≡◌, sym, ap, ◌∙◌}
use mathlib.Core.List.{List}
use Prim.Native.Nat.{ℕ, suc, ◌+◌, ◌*◌, ◌/◌, ◌%◌, ◌≤◌, ◌<◌}
use native.Mathlib.Nat.{mul-le-mul_right}
use native.Mathlib.Decide.{ℕ_discrete}
use native.Mathlib.Omega.{arith}
use lib.ListN.{get_or, take}
use lib.Seq.{get_or-take}
use Rattle.permutations.specs.Lists.{tabulate}
use Rattle.permutations.specs.Permutations.{IsPermutation}
use Rattle.permutations.specs.Padded.{IsPadded}
use Rattle.permutations.proofs.ListLaws.{at-tabulate, tabulate-ext, tabulate-get_or}
use Rattle.grids.specs.Order.{rank, ◌≼◌}
use Rattle.grids.specs.Grids.{cell, permuted_row, arrangement}
use Rattle.grids.specs.Sorted.{Ascending}
use Rattle.grids.proofs.OrderLaws.{≼-by-index, ≼-lead, tabulate-at}
use Rattle.grids.proofs.GridLaws.{row-column, grid-ext, first_rows, length-arrangement, cell-arrangement}
use Rattle.grids.proofs.SortedColumns.{best-columns}

leading : (m k n : ℕ) (g p q : List ℕ) → k ≤ m → tabulate 0 (k * n) (λ t. get_or (arrangement m n p q g) t 0) ≡ arrangement k n p q g
unfolding arrangement
leading m k n g p q km = first_rows m k n _ km

module _ (n : ℕ) (g p q p' q' : List ℕ) where
  pub leading-cells : (k : ℕ) → arrangement k n p q g ≡ arrangement k n p' q' g →
      (i j : ℕ) → i < k → j < n → cell n g (get_or p i 0) (get_or q j 0) ≡ cell n g (get_or p' i 0) (get_or q' j 0)
  leading-cells k e i j ik jn =
      sym (cell-arrangement k n p q g i j ik jn) ∙ ap (λ (a : List ℕ). cell n a i j) e ∙ cell-arrangement k n p' q' g i j ik jn

  pub leading-is : (k : ℕ) → ((i j : ℕ) → i < k → j < n → cell n g (get_or p i 0) (get_or q j 0) ≡ cell n g (get_or p' i 0) (get_or q' j 0)) →
      arrangement k n p q g ≡ arrangement k n p' q' g
  unfolding arrangement
  leading-is k h = grid-ext k n _ _ h

  pub leading-fewer : (k l : ℕ) → k ≤ l → arrangement l n p q g ≡ arrangement l n p' q' g → arrangement k n p q g ≡ arrangement k n p' q' g
  leading-fewer k l kl e = leading-is k (λ i j ik jn. leading-cells l e i j (omega arith) jn)

  -- the next rows, cell by cell
  row-cells : (k : ℕ) → permuted_row n g (get_or p k 0) q ≡ permuted_row n g (get_or p' k 0) q' →
      (j : ℕ) → j < n → cell n g (get_or p k 0) (get_or q j 0) ≡ cell n g (get_or p' k 0) (get_or q' j 0)
  unfolding permuted_row
  row-cells k e j jn =
      sym (at-tabulate n (λ t. cell n g (get_or p k 0) (get_or q t 0)) j 0 jn)
      ∙ ap (λ (l : List ℕ). get_or l j 0) e
      ∙ at-tabulate n (λ t. cell n g (get_or p' k 0) (get_or q' t 0)) j 0 jn

  pub leading-more : (k : ℕ) → arrangement k n p q g ≡ arrangement k n p' q' g → permuted_row n g (get_or p k 0) q ≡ permuted_row n g (get_or p' k 0) q' →
      arrangement (suc k) n p q g ≡ arrangement (suc k) n p' q' g
  leading-more k e f = leading-is (suc k) λ i j ik jn. go i j ik jn (ℕ_discrete i k)
    where
      go : (i j : ℕ) → i < suc k → j < n → Dec (i ≡ k) → cell n g (get_or p i 0) (get_or q j 0) ≡ cell n g (get_or p' i 0) (get_or q' j 0)
      go i j ik jn (yes z) = rw z (row-cells k f j jn)
      go i j ik jn (no nz) = leading-cells k e i j (omega arith) jn

  pub leading-row : (k : ℕ) → arrangement (suc k) n p q g ≡ arrangement (suc k) n p' q' g → permuted_row n g (get_or p k 0) q ≡ permuted_row n g (get_or p' k 0) q'
  unfolding permuted_row
  leading-row k e = tabulate-ext 0 n _ _ (λ j jn. leading-cells (suc k) e k j (omega arith) jn)

  pub leading-lower : (k : ℕ) → arrangement k n p q g ≡ arrangement k n p' q' g → permuted_row n g (get_or p k 0) q ≼ permuted_row n g (get_or p' k 0) q' →
      arrangement (suc k) n p q g ≼ arrangement (suc k) n p' q' g
  unfolding permuted_row
  leading-lower k e h =
      ≼-by-index a b (length-arrangement (suc k) n p q g ∙ sym (length-arrangement (suc k) n p' q' g)) λ t tl same.
      let r = row-column (suc k) n t (omega (arith, length-arrangement (suc k) n p q g)) in
      step t (t / n) (t % n) r.0 r.1 r.2 same (ℕ_discrete (t / n) k)
    where
      a : List ℕ
      a = arrangement (suc k) n p q g

      b : List ℕ
      b = arrangement (suc k) n p' q' g

      step : (t i j : ℕ) → i < suc k → j < n → i * n + j ≡ t → ((s : ℕ) → s < t → get_or a s 0 ≡ get_or b s 0) → Dec (i ≡ k) → rank (get_or a t 0) ≤ rank (get_or b t 0)
      step t i j ik jn f same (no ne) =
          let z : rank (get_or a t 0) ≡ rank (get_or b t 0) =
          ap rank (rw (← f) (cell-arrangement (suc k) n p q g i j ik jn ∙ leading-cells k e i j (omega arith) jn ∙ sym (cell-arrangement (suc k) n p' q' g i j ik jn))) in
          omega arith
      step t i j ik jn f same (yes z) =
          rw (← f) (rw (cell-arrangement (suc k) n p q g i j ik jn, cell-arrangement (suc k) n p' q' g i j ik jn, z)
          (tabulate-at n (λ c. cell n g (get_or p k 0) (get_or q c 0)) (λ c. cell n g (get_or p' k 0) (get_or q' c 0)) h j jn λ c cj.
          sym (cell-arrangement (suc k) n p q g k c (omega arith) (omega arith)) ∙ same (k * n + c) (rw (← f, z) (omega arith)) ∙ cell-arrangement (suc k) n p' q' g k c (omega arith) (omega arith)))

  pub leading-decides : (m k : ℕ) → k ≤ m → arrangement k n p q g ≼ arrangement k n p' q' g → (arrangement k n p q g ≡ arrangement k n p' q' g → ⊥) →
      arrangement m n p q g ≼ arrangement m n p' q' g
  leading-decides m k km h ne =
      rw (← (tabulate-get_or 0 (arrangement m n p q g) (m * n) (length-arrangement m n p q g)), ← (tabulate-get_or 0 (arrangement m n p' q' g) (m * n) (length-arrangement m n p' q' g)))
      (≼-lead (m * n) (k * n) (λ t. get_or (arrangement m n p q g) t 0) (λ t. get_or (arrangement m n p' q' g) t 0) (mul-le-mul_right n km)
      (rw (leading m k n g p q km, leading m k n g p' q' km) h) (λ e. ne (sym (leading m k n g p q km) ∙ e ∙ leading m k n g p' q' km)))

pub best-whole : (k n : ℕ) (g p q : List ℕ) → IsPadded 16 n q → Ascending k n g p q → (r : List ℕ) → IsPermutation n r → arrangement k n p q g ≼ arrangement k n p r g
unfolding arrangement Ascending
best-whole k n g p q o up r or =
    rw (leading-is n g p q p (take n q) k (λ i j ik jn. ap (λ (c : ℕ). cell n g (get_or p i 0) c) (sym (get_or-take n q j 0 jn))))
    (best-columns k n g p (take n q) o.permutation (λ a b ab bn. rw (get_or-take n q a 0 (omega arith), get_or-take n q b 0 bn) (up a b ab bn)) r or)
