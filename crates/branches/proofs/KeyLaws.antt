-- Laws of the numbers of rows: they are in the order of the next rows.
--
--   places_is             ==  the place of a column below n
--   bits_key              ==  the key of a row by numbers that stand for its cells
--   after-count           ==  how many columns come after one, counted in sorted order
--   after-room            ==  a column's number leaves room for those before it
--   same_block            ==  columns with equal numbers are equal
--   block-after           ==  columns with another number come after all of a block
--   row-ascends           ==  in a block the next row's cells ascend
--   key-sorted            ==  the number of a row, summed in sorted order
--   key-order, key-equal  ==  of equal leading rows with one more, the lesser next row has the lesser number, and equal ones have equal numbers
use mathlib.Core.Path.{◌≡◌, sym, ap, ap₂, ◌∙◌}
use mathlib.Core.List.{List}
use mathlib.Core.Bool.{true, false, true≢false}
use mathlib.Core.Logic.{◌⊎◌, inl, inr}
use Prim.Native.Nat.{ℕ, suc, ◌+◌, ◌-◌, ◌*◌, ◌^◌, ◌≤◌, ◌<◌}
use native.Mathlib.Nat.{zero-mul}
use native.Mathlib.Omega.{arith}
use lib.ListN.{length, get_or}
use borrow.Author.Tests.{lt-ltb}
use Rattle.permutations.specs.Lists.{tabulate}
use Rattle.permutations.specs.Permutations.{IsPermutation}
use Rattle.permutations.proofs.BoolLaws.{yes_or_no, refuted}
use Rattle.permutations.proofs.ListLaws.{length-tabulate, at-tabulate, tabulate-ext}
use Rattle.grids.specs.Order.{rank, ◌≼◌, ◌≺◌, FirstUnequal, less, equal}
use Rattle.grids.specs.Grids.{cell, permuted_row, arrangement}
use Rattle.grids.specs.Sorted.{permuted_column, Ascending}
use Rattle.grids.proofs.OrderLaws.{≼_refl, ≼_trans, ≺-≼, ≼-≺, ≺-trans, first-unequal, tabulate-at, less-decides, equal-eq, eq-equal}
use Rattle.branches.proofs.LeadingRows.{leading-cells, leading-more}
use Rattle.permutations.specs.Sums.{sum_to, count}
use Rattle.branches.specs.SortedRows.{columns_after, places_after}
use Rattle.grids.specs.Values.{TwoValued}
use Rattle.branches.specs.Keys.{bit, bit_key}
use Rattle.branches.proofs.BitLaws.{bit-most, bit-lower, bit-ascends, cell-inside}
use Rattle.branches.proofs.SortedRows.{fewer-ascend}
use Rattle.branches.proofs.CountLaws.{count-ext, count_less, count-after, count-from}
use Rattle.permutations.proofs.SumLaws.{sum-ext, sum-none-past, sum-permuted, count-permuted, weighted-less}

-- ---- the numbers that an array holds

pub places_is : (k n : ℕ) (g p : List ℕ) (c : ℕ) → c < n → places_after k n g p c ≡ columns_after k n g p c
unfolding places_after
places_is k n g p c h = rw (lt-ltb c n h, places_after)

pub bits_key : (n : ℕ) (g : List ℕ) (low k : ℕ) (p a : List ℕ) (x : ℕ → ℕ) → n ≤ 16 → ((c : ℕ) → c < n → x c ≡ bit low (cell n g (get_or p k 0) c)) → ((c : ℕ) → n ≤ c → c < 16 → x c ≡ 0) →
    ((c : ℕ) → c < 16 → get_or a c 0 ≡ places_after k n g p c) → sum_to 16 (λ c. x c * 2 ^ get_or a c 0) ≡ bit_key n g low k p
unfolding bit_key
bits_key n g low k p a x n16 bits none after = sum-none-past n 16 (λ c. x c * 2 ^ get_or a c 0) n16 past ∙ sum-ext n _ _ inside
  where
    past : (c : ℕ) → n ≤ c → c < 16 → x c * 2 ^ get_or a c 0 ≡ 0
    past c nc cw = ap (λ (y : ℕ). y * 2 ^ get_or a c 0) (none c nc cw) ∙ zero-mul (2 ^ get_or a c 0)

    inside : (c : ℕ) → c < n → x c * 2 ^ get_or a c 0 ≡ bit low (cell n g (get_or p k 0) c) * 2 ^ columns_after k n g p c
    inside c cn = ap₂ (λ (y z : ℕ). y * 2 ^ z) (bits c cn) (after c (omega arith) ∙ places_is k n g p c cn)

-- ---- columns in sorted order

≺-≼-trans : (a b c : List ℕ) → a ≺ b → b ≼ c → a ≺ c
≺-≼-trans a b c h bc l = h (≼_trans b c a bc l)

not-less : (a b : List ℕ) → b ≼ a → less a b ≡ false
not-less a b h = refuted (less a b) (less-decides a b) (λ l. l h)

is-less : (a b : List ℕ) → a ≺ b → less a b ≡ true
is-less a b h = (less-decides a b).1 h

module _ (k n : ℕ) (g p q : List ℕ) (n16 : n ≤ 16) (columns : IsPermutation n q) (up : Ascending k n g p q) where
  -- the column at a position, down the first k rows
  abbrev K : ℕ → List ℕ
  K i = permuted_column k n g p (get_or q i 0)

  -- how many columns come after it
  abbrev w : ℕ → ℕ
  w i = columns_after k n g p (get_or q i 0)

  columns-ascend : (i j : ℕ) → i ≤ j → j < n → K i ≼ K j
  unfolding Ascending
  columns-ascend i j ij jn = up i j ij jn

  pub after-count : (i : ℕ) → w i ≡ (16 - n) + count n (λ j. less (K i) (K j))
  unfolding columns_after
  after-count i = ap (λ (c : ℕ). (16 - n) + c) (count-permuted n q columns (λ d. less (K i) (permuted_column k n g p d)))

  after_equal : (i j : ℕ) → K i ≡ K j → w i ≡ w j
  unfolding columns_after
  after_equal i j e = ap (λ (a : List ℕ). (16 - n) + count n (λ d. less a (permuted_column k n g p d))) e

  pub after-room : (i : ℕ) → i < n → w i + i ≤ 15
  after-room i h =
      omega
      (arith, after-count i, count-after n (λ j. less (K i) (K j)) i h (λ j ji. not-less (K i) (K j) (columns-ascend j i ji h)))

  -- a column that comes before another has more after it
  after-falls : (i j : ℕ) → j < n → K i ≺ K j → w j < w i
  after-falls i j jn h =
      omega (
        arith,
        after-count i,
        after-count j,
        count_less n (λ l. less (K j) (K l)) (λ l. less (K i) (K l))
            (λ l ln e. is-less (K i) (K l) (≺-trans (K i) (K j) (K l) h ((less-decides (K j) (K l)).0 e)))
            j jn (not-less (K j) (K j) (≼_refl (K j))) (is-less (K i) (K j) h),
      )

  pub same_block : (i j : ℕ) → i ≤ j → j < n → w i ≡ w j → K i ≡ K j
  same_block i j ij jn e = go (yes_or_no (equal (K i) (K j)))
    where
      go : (equal (K i) (K j) ≡ true) ⊎ (equal (K i) (K j) ≡ false) → K i ≡ K j
      go (inl y) = equal-eq (K i) (K j) y
      go (inr z) =
          absurd
          (let l : w j < w i = after-falls i j jn (≼-≺ (K i) (K j) (columns-ascend i j ij jn) (λ y. true≢false (sym (eq-equal (K i) (K j) y) ∙ z))) in
          omega arith)

  pub block-after : (i j : ℕ) → i < j → j < n → (w j ≡ w i → ⊥) → 16 ≤ w i + j
  block-after i j ij jn ne =
      omega (
        arith,
        after-count i,
        count-from n (λ l. less (K i) (K l)) j (omega arith)
            (λ l jl ln. is-less (K i) (K l) (≺-≼-trans (K i) (K j) (K l) before (columns-ascend j l jl ln))),
      )
    where
      before : K i ≺ K j
      before = ≼-≺ (K i) (K j) (columns-ascend i j (omega arith) jn) (λ e. ne (sym (after_equal i j e)))

  pub row-ascends : Ascending (suc k) n g p q → (i j : ℕ) → i ≤ j → j < n → K i ≡ K j → rank (cell n g (get_or p k 0) (get_or q i 0)) ≤ rank (cell n g (get_or p k 0) (get_or q j 0))
  unfolding Ascending permuted_column
  row-ascends more i j ij jn e =
      tabulate-at (suc k) (λ t. cell n g (get_or p t 0) (get_or q i 0)) (λ t. cell n g (get_or p t 0) (get_or q j 0)) (more i j ij jn) k (omega arith) λ t tk.
      sym (at-tabulate k (λ t. cell n g (get_or p t 0) (get_or q i 0)) t 0 tk)
      ∙ ap (λ (l : List ℕ). get_or l t 0) e
      ∙ at-tabulate k (λ t. cell n g (get_or p t 0) (get_or q j 0)) t 0 tk

  pub key-sorted : (low : ℕ) → bit_key n g low k p ≡ sum_to n (λ i. bit low (cell n g (get_or p k 0) (get_or q i 0)) * 2 ^ w i)
  unfolding bit_key
  key-sorted low = sum-permuted n q columns (λ c. bit low (cell n g (get_or p k 0) c) * 2 ^ columns_after k n g p c)

-- ---- two orders with equal leading rows

module _ (m n : ℕ) (g : List ℕ) (low k : ℕ) (p q p' q' : List ℕ) (n16 : n ≤ 16) (size : length g ≡ m * n) (two : TwoValued g low) (rm : get_or p k 0 < m) (rm' : get_or p' k 0 < m)
    (columns : IsPermutation n q) (columns' : IsPermutation n q') (up : Ascending (suc k) n g p q) (up' : Ascending (suc k) n g p' q')
    (leading : arrangement k n p q g ≡ arrangement k n p' q' g) where
  here : Ascending k n g p q
  here = fewer-ascend k (suc k) n g p q (omega arith) up

  here' : Ascending k n g p' q'
  here' = fewer-ascend k (suc k) n g p' q' (omega arith) up'

  -- the weight of a position
  abbrev weight : ℕ → ℕ
  weight i = columns_after k n g p (get_or q i 0)

  -- the numbers of the two next rows
  abbrev first : ℕ → ℕ
  first i = bit low (cell n g (get_or p k 0) (get_or q i 0))

  abbrev second : ℕ → ℕ
  second i = bit low (cell n g (get_or p' k 0) (get_or q' i 0))

  same-columns : (j : ℕ) → j < n → permuted_column k n g p (get_or q j 0) ≡ permuted_column k n g p' (get_or q' j 0)
  unfolding permuted_column
  same-columns j jn = tabulate-ext 0 k _ _ (λ i ik. leading-cells n g p q p' q' k leading i j ik jn)

  same-weights : (i : ℕ) → i < n → columns_after k n g p' (get_or q' i 0) ≡ weight i
  same-weights i h =
      after-count k n g p' q' n16 columns' here' i
      ∙ ap (λ (c : ℕ). (16 - n) + c) (count-ext n _ _ (λ j jn. sym (ap₂ less (same-columns i h) (same-columns j jn))))
      ∙ sym (after-count k n g p q n16 columns here i)

  first_key : bit_key n g low k p ≡ sum_to n (λ i. first i * 2 ^ weight i)
  first_key = key-sorted k n g p q n16 columns here low

  second_key : bit_key n g low k p' ≡ sum_to n (λ i. second i * 2 ^ weight i)
  second_key = key-sorted k n g p' q' n16 columns' here' low ∙ sum-ext n _ _ (λ i h. ap (λ (x : ℕ). second i * 2 ^ x) (same-weights i h))

  inside : (j : ℕ) → j < n → get_or p k 0 * n + get_or q j 0 < length g
  inside j jn = cell-inside m n g size (get_or p k 0) (get_or q j 0) rm (columns.within j jn)

  inside' : (j : ℕ) → j < n → get_or p' k 0 * n + get_or q' j 0 < length g
  inside' j jn = cell-inside m n g size (get_or p' k 0) (get_or q' j 0) rm' (columns'.within j jn)

  pub key-equal : permuted_row n g (get_or p k 0) q ≡ permuted_row n g (get_or p' k 0) q' → bit_key n g low k p ≡ bit_key n g low k p'
  key-equal e = first_key ∙ sum-ext n _ _ (λ i h. ap (λ (x : ℕ). bit low x * 2 ^ weight i) (same-cells i h)) ∙ sym second_key
    where
      same-cells : (i : ℕ) → i < n → cell n g (get_or p k 0) (get_or q i 0) ≡ cell n g (get_or p' k 0) (get_or q' i 0)
      same-cells i h = leading-cells n g p q p' q' (suc k) (leading-more n g p q p' q' k leading e) k i (omega arith) h

  -- the next rows first differ at j
  module _ (j : ℕ) (jn : j < n) (same : (i : ℕ) → i < j → cell n g (get_or p k 0) (get_or q i 0) ≡ cell n g (get_or p' k 0) (get_or q' i 0))
      (lower : rank (cell n g (get_or p k 0) (get_or q j 0)) < rank (cell n g (get_or p' k 0) (get_or q' j 0))) where
    lower-bit : first j < second j
    lower-bit = bit-lower g low two _ _ (inside j jn) (inside' j jn) lower

    -- from there on the other row has the higher value in the rest of the block
    block : (i : ℕ) → j < i → i < n → weight i ≡ weight j → first i ≤ second i
    block i ji h e =
        let s = same_block k n g p q n16 columns here j i (omega arith) h (sym e) in
        let z : second j ≤ second i = bit-ascends g low two _ _ (inside' j jn) (inside' i h) (row-ascends k n g p' q' n16 columns' here' up' j i (omega arith) h (sym (same-columns j jn) ∙ s ∙ same-columns i h)) in
        omega (arith, lower-bit, bit-most low (cell n g (get_or p k 0) (get_or q i 0)))

    differ : bit_key n g low k p < bit_key n g low k p'
    differ =
        rw (first_key, second_key)
        (weighted-less n weight first second n16 (after-room k n g p q n16 columns here) (λ i h. bit-most low _) j jn (λ i h. ap (bit low) (same i h)) lower-bit block
        (block-after k n g p q n16 columns here j))

  pub key-order : permuted_row n g (get_or p k 0) q ≺ permuted_row n g (get_or p' k 0) q' → bit_key n g low k p < bit_key n g low k p'
  unfolding permuted_row
  key-order h = go ((first-unequal (tabulate 0 n u) (tabulate 0 n v) (length-tabulate 0 n u ∙ sym (length-tabulate 0 n v))).0 (≺-≼ (tabulate 0 n u) (tabulate 0 n v) h))
    where
      u : ℕ → ℕ
      u j = cell n g (get_or p k 0) (get_or q j 0)

      v : ℕ → ℕ
      v j = cell n g (get_or p' k 0) (get_or q' j 0)

      at : (f : FirstUnequal (tabulate 0 n u) (tabulate 0 n v)) → f.index < n → bit_key n g low k p < bit_key n g low k p'
      at f jn =
          differ f.index jn
          (λ i b. sym (at-tabulate n u i 0 (omega arith)) ∙ f.before i b ∙ at-tabulate n v i 0 (omega arith))
          (rw (at-tabulate n u f.index 0 jn, at-tabulate n v f.index 0 jn) at f.lower)

      go : (tabulate 0 n u ≡ tabulate 0 n v) ⊎ FirstUnequal (tabulate 0 n u) (tabulate 0 n v) → bit_key n g low k p < bit_key n g low k p'
      go (inl e) = absurd (h (rw e (≼_refl (tabulate 0 n v))))
      go (inr f) = at f (omega (arith, f.inside, length-tabulate 0 n u))
