-- The rows that give the least next row, and the keys of rows in sorted columns.
--
--   digits_are     ==  a row's levels in columns sorted by it and the rows before, and perhaps more, are the digits of its key
--   next-rows      ==  of two orders with the same rows placed, the levels of the next rows are in the order of the sorted rows
--   sifted-within  ==  sifting leaves rows of those that are sifted
--   sifted-next    ==  the rows that sifting leaves are those that give the least next row
use mathlib.Core.Path.{◌≡◌, sym, ap, ◌∙◌}
use mathlib.Core.List.{List}
use mathlib.Core.Logic.{◌↔◌}
use Prim.Native.Nat.{ℕ, suc, ◌+◌, ◌-◌, ◌*◌, ◌≤◌, ◌<◌}
use native.Mathlib.Decide.{ℕ_discrete}
use native.Mathlib.Omega.{arith}
use lib.ListN.{length, get_or, set}
use lib.Seq.{get_or-set_same, get_or-set_other}
use Rattle.permutations.specs.Lists.{tabulate}
use Rattle.permutations.specs.Permutations.{swapped}
use Rattle.permutations.specs.Padded.{IsPadded}
use Rattle.permutations.proofs.SwapLaws.{at-whole, length_whole}
use Rattle.grids.specs.Order.{◌≼◌}
use Rattle.grids.specs.Grids.{cell, permuted_row, arrangement}
use Rattle.grids.specs.Sorted.{Ascending}
use Rattle.grids.proofs.OrderLaws.{≼-dec, tabulate-at, tabulate-by-index}
use Rattle.branches.specs.Branches.{IsNext}
use Rattle.branches.specs.SortedRows.{PlacesBy, Sorts, column_order, sorted_rows}
use Rattle.branches.specs.Keys.{level, Small, number, digit_key}
use Rattle.branches.specs.Sifting.{NoLater, Leads, SortedBlock, Starts, Sifts}
use Rattle.branches.proofs.LeadingRows.{leading-cells, leading-fewer, leading-lower}
use Rattle.branches.proofs.BranchLaws.{placed-stay, placed-next}
use Rattle.branches.proofs.BitLaws.{cell-inside}
use Rattle.branches.proofs.LevelLaws.{level-same, level-ascends, level-no-higher}
use Rattle.branches.proofs.DigitLaws.{number-ext}
use Rattle.branches.proofs.SortedRows.{order-permutation, order-ascending, sorted-fewer, sorted-any, sorted-agree, sorted-lower}
use Rattle.branches.proofs.RefinedLaws.{places-agree, sorts-ascending}
use Rattle.branches.proofs.BlockLaws.{block-sorted}

-- ---- keys

pub digits_are : (j n : ℕ) (g p a q : List ℕ) → n ≤ 16 → PlacesBy j n g p a → Sorts n a q → (i : ℕ) → i < j → (f : ℕ → ℕ) →
    ((t : ℕ) → t < n → f t ≡ level (cell n g (get_or p i 0) (get_or q t 0))) → number n f ≡ digit_key n g i p
unfolding digit_key
digits_are j n g p a q n16 by sorts i ij f is =
    number-ext n f (λ t. level (cell n g (get_or p i 0) (get_or (column_order (suc i) n g p) t 0)))
    (λ t tn. is t tn ∙ ap level (leading-cells n g p q p (column_order (suc i) n g p) (suc i) lead i t (omega arith) tn))
  where
    up : Ascending j n g p q
    up = sorts-ascending j n g p a q n16 by.holds sorts

    -- the rows up to i, sorted by more rows
    whole : arrangement j n p q g ≡ arrangement j n p (column_order j n g p) g
    whole = sorted-any j n g p q sorts.columns up ∙ sym (sorted-any j n g p (column_order j n g p) (order-permutation j n g p) (order-ascending j n g p))

    lead : arrangement (suc i) n p q g ≡ arrangement (suc i) n p (column_order (suc i) n g p) g
    lead =
        leading-fewer n g p q p (column_order j n g p) (suc i) j ij whole
        ∙ sorted-fewer (suc i) j n g p ij
        ∙ sym (sorted-any (suc i) n g p (column_order (suc i) n g p) (order-permutation (suc i) n g p) (order-ascending (suc i) n g p))

-- ---- next rows

-- the cells of the row at position k, in columns sorted by it and the rows before
abbrev cells : ℕ → List ℕ → ℕ → List ℕ → ℕ → ℕ
cells n g k p j = cell n g (get_or p k 0) (get_or (column_order (suc k) n g p) j 0)

module _ (m n : ℕ) (g : List ℕ) (k : ℕ) (size : length g ≡ m * n) (small : Small g) where
  cells-small : (p : List ℕ) → get_or p k 0 < m → (j : ℕ) → j < n → cells n g k p j ≤ 15
  unfolding Small
  cells-small p pm j jn = small _ (cell-inside m n g size (get_or p k 0) (get_or (column_order (suc k) n g p) j 0) pm ((order-permutation (suc k) n g p).within j jn))

  row_small : (p : List ℕ) → get_or p k 0 < m → (d : ℕ) → d < n → cell n g (get_or p k 0) d ≤ 15
  unfolding Small
  row_small p pm d dn = small _ (cell-inside m n g size (get_or p k 0) d pm dn)

  module _ (p p' : List ℕ) (pm : get_or p k 0 < m) (pm' : get_or p' k 0 < m) (same : sorted_rows k n g p ≡ sorted_rows k n g p') where
    abbrev u : ℕ → ℕ
    u j = cells n g k p j

    abbrev v : ℕ → ℕ
    v j = cells n g k p' j

    us : (j : ℕ) → j < n → u j ≤ 15
    us = cells-small p pm

    vs : (j : ℕ) → j < n → v j ≤ 15
    vs = cells-small p' pm'

    lead : arrangement k n p (column_order (suc k) n g p) g ≡ arrangement k n p' (column_order (suc k) n g p') g
    lead = sorted-fewer k (suc k) n g p (omega arith) ∙ same ∙ sym (sorted-fewer k (suc k) n g p' (omega arith))

    rows-cells : sorted_rows (suc k) n g p ≼ sorted_rows (suc k) n g p' → tabulate 0 n u ≼ tabulate 0 n v
    unfolding permuted_row
    rows-cells h = go (≼-dec (tabulate 0 n u) (tabulate 0 n v))
      where
        go : Dec (tabulate 0 n u ≼ tabulate 0 n v) → tabulate 0 n u ≼ tabulate 0 n v
        go (yes l) = l
        go (no l) = absurd (sorted-lower k n g p' p (sym same) l h)

    cells-rows : tabulate 0 n u ≼ tabulate 0 n v → sorted_rows (suc k) n g p ≼ sorted_rows (suc k) n g p'
    unfolding sorted_rows permuted_row
    cells-rows h = leading-lower n g p (column_order (suc k) n g p) p' (column_order (suc k) n g p') k lead h

    pub next-rows : NoLater n (λ j. level (u j)) (λ j. level (v j)) ↔ (sorted_rows (suc k) n g p ≼ sorted_rows (suc k) n g p')
    unfolding NoLater
    next-rows = (
      (λ l. cells-rows (tabulate-by-index n u v (λ t tn e. level-no-higher (u t) (v t) (us t tn) (vs t tn) (l t tn (λ j jt. ap level (e j jt)))))),
      (λ h t tn e. level-ascends (u t) (v t) (us t tn) (vs t tn) (tabulate-at n u v (rows-cells h) t tn (λ j jt. level-same (u j) (v j) (us j (omega arith)) (vs j (omega arith)) (e j jt)))),
    )

-- ---- sifting

module _ (m n : ℕ) (g : List ℕ) (k : ℕ) (p a q : List ℕ) (n16 : n ≤ 16) (m8 : m ≤ 8) (size : length g ≡ m * n) (small : Small g) (km : k < m) (o : IsPadded 8 m p) (by : PlacesBy k n g p a) (sorts : Sorts n a q)
    (R S : ℕ → Type 0) (has : (t : ℕ) → k ≤ t → t < m → R (get_or p t 0)) (only : (x : ℕ) → R x → (t : ℕ) × (k ≤ t) × (t < m) × (get_or p t 0 ≡ x)) (c : ℕ → ℕ → ℕ → ℕ)
    (is : (i x j : ℕ) → R x → i + j < n → c i x j ≡ level (cell n g x (get_or q (i + j) 0))) (sifts : Sifts n (λ i. 16 - get_or a (get_or q i 0) 0) c R n S) where
  -- the order with row x placed next
  next : ℕ → List ℕ
  next x = set p k x

  next_row : (x : ℕ) → get_or (next x) k 0 ≡ x
  unfolding next
  next_row x = get_or-set_same p k x 0 (rw (length_whole 8 m p o) (omega arith))

  next-stays : (x i : ℕ) → i < k → get_or (next x) i 0 ≡ get_or p i 0
  unfolding next
  next-stays x i ik = get_or-set_other p k i x 0 (omega arith)

  row_within : (x : ℕ) → R x → x < m
  row_within x r = let t = only x r in rw (← t.3) (at-whole 8 m p o t.0 t.2)

  next-within : (x : ℕ) → R x → get_or (next x) k 0 < m
  next-within x r = rw (next_row x) (row_within x r)

  K : ℕ → ℕ → ℕ
  K x j = level (cells n g k (next x) j)

  next-places : (x : ℕ) → PlacesBy k n g (next x) a
  next-places x = record { size = by.size; holds = λ d d16. by.holds d d16 ∙ places-agree k n g p (next x) (λ i ik. sym (next-stays x i ik)) d }

  blocks : (i : ℕ) → i < n → Starts (λ i. 16 - get_or a (get_or q i 0) 0) i → (x : ℕ) → R x → SortedBlock i (16 - get_or a (get_or q i 0) 0 - i) (c i x) (K x)
  unfolding K
  blocks i h starts x r =
      block-sorted k n g (next x) a q n16 (next-places x) sorts i h starts (c i x)
      (λ j ij. is i x j r ij ∙ ap (λ (y : ℕ). level (cell n g y (get_or q (i + j) 0))) (sym (next_row x)))
      (row_small m n g k size small (next x) (next-within x r))

  -- the order with the row at position t placed next agrees with that up to there
  agrees : (t : ℕ) → k ≤ t → t < m → (i : ℕ) → i < suc k → get_or (next (get_or p t 0)) i 0 ≡ get_or (swapped p k t) i 0
  agrees t kt tm i ik = go (ℕ_discrete i k)
    where
      go : Dec (i ≡ k) → get_or (next (get_or p t 0)) i 0 ≡ get_or (swapped p k t) i 0
      go (yes e) = rw e (next_row (get_or p t 0) ∙ sym (placed-next m n g k p m8 km o t tm))
      go (no ne) = next-stays (get_or p t 0) i (omega arith) ∙ sym (placed-stay m n g k p m8 km o t kt i (omega arith))

  sorted-as : (t : ℕ) → k ≤ t → t < m → sorted_rows (suc k) n g (next (get_or p t 0)) ≡ sorted_rows (suc k) n g (swapped p k t)
  sorted-as t kt tm = sorted-agree (suc k) n g (next (get_or p t 0)) (swapped p k t) (agrees t kt tm)

  same-lead : (x y : ℕ) → sorted_rows k n g (next x) ≡ sorted_rows k n g (next y)
  same-lead x y = sorted-agree k n g (next x) (next y) (λ i ik. next-stays x i ik ∙ sym (next-stays y i ik))

  compares : (x y : ℕ) → R x → R y → NoLater n (K x) (K y) ↔ (sorted_rows (suc k) n g (next x) ≼ sorted_rows (suc k) n g (next y))
  unfolding K
  compares x y rx ry = next-rows m n g k size small (next x) (next y) (next-within x rx) (next-within y ry) (same-lead x y)

  pub sifted-within : (x : ℕ) → S x → R x
  unfolding Sifts
  sifted-within x h = ((sifts K blocks x).0 h).of

  pub sifted-next : (t : ℕ) → k ≤ t → t < m → S (get_or p t 0) ↔ IsNext m n g k p t
  unfolding Sifts
  sifted-next t kt tm = (λ s. to (leads.0 s), λ h. leads.1 (from h))
    where
      x : ℕ
      x = get_or p t 0

      leads : S x ↔ Leads n R K x
      leads = sifts K blocks x

      to : Leads n R K x → IsNext m n g k p t
      to l = record {
        left = kt;
        within = tm;
        least = λ u ku um. rw (sorted-as t kt tm, sorted-as u ku um) at ((compares x (get_or p u 0) (has t kt tm) (has u ku um)).0 (l.least (get_or p u 0) (has u ku um)));
      }

      by_row : IsNext m n g k p t → (y : ℕ) → R y → (u : ℕ) → k ≤ u → u < m → get_or p u 0 ≡ y → NoLater n (K x) (K y)
      by_row h y r u ku um e = rw (← e) ((compares x (get_or p u 0) (has t kt tm) (has u ku um)).1 (rw (sorted-as t kt tm, sorted-as u ku um) (h.least u ku um)))

      from : IsNext m n g k p t → Leads n R K x
      from h = record { of = has t kt tm; least = λ y r. let u = only y r in by_row h y r u.0 u.1 u.2 u.3 }
