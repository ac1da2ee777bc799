-- Keys stand for rows: of two row orders with the same leading rows, the one with the lesser key has the lesser next row.
--
--   key-agree     ==  the key of row k depends on the first k + 1 rows of the order alone
--   key-lower     ==  a lesser key gives lesser leading rows, one more of them
--   key-same      ==  equal keys give equal ones
--   same_key      ==  and the other way round
--   rows-fewer    ==  fewer of equal leading rows are equal
--   rows-swapped  ==  the rows placed stay, whichever row comes next
use mathlib.Core.Path.{◌≡◌, refl, sym, ap, ◌∙◌}
use mathlib.Core.List.{List}
use mathlib.Core.Bool.{Bool, true, false}
use Prim.Native.Nat.{ℕ, suc, ◌+◌, ◌-◌, ◌*◌, ◌^◌, ◌≤◌, ◌<◌}
use native.Mathlib.Omega.{arith}
use lib.ListN.{length, get_or}
use Rattle.permutations.specs.Padded.{IsPadded}
use Rattle.permutations.specs.Permutations.{swapped}
use Rattle.grids.specs.Order.{◌≼◌, ◌≺◌}
use Rattle.grids.specs.Grids.{cell, permuted_row, arrangement}
use Rattle.grids.specs.Sorted.{permuted_column}
use Rattle.grids.proofs.OrderLaws.{≼-dec, ≼-antisymm}
use Rattle.branches.proofs.LeadingRows.{leading-fewer, leading-row}
use Rattle.branches.proofs.BranchLaws.{placed-stay}
use Rattle.branches.specs.SortedRows.{columns_after, column_order, sorted_rows}
use Rattle.branches.specs.Keys.{Small, bit, bit_key, digit_key, key, Valued}
use Rattle.branches.proofs.CountLaws.{count-ext}
use Rattle.permutations.proofs.SumLaws.{sum-ext}
use Rattle.branches.proofs.SortedRows.{order-permutation, order-ascending, sorted-fewer, sorted-agree, sorted-next, sorted-lower, columns-agree, order-agree}
use Rattle.branches.proofs.KeyLaws.{key-order, key-equal}
use Rattle.branches.proofs.BitLaws.{cell-inside}
use Rattle.branches.proofs.DigitLaws.{digits-order, digits-equal}

-- the keys of the two kinds
bits-agree : (n : ℕ) (g : List ℕ) (low k : ℕ) (p p' : List ℕ) → ((i : ℕ) → i < suc k → get_or p i 0 ≡ get_or p' i 0) → bit_key n g low k p ≡ bit_key n g low k p'
unfolding bit_key columns_after
bits-agree n g low k p p' same =
    rw (same k (omega arith))
    (sum-ext n _ _ λ c cn.
    ap (λ (w : ℕ). bit low (cell n g (get_or p' k 0) c) * 2 ^ w) (ap (λ (w : ℕ). (16 - n) + w) (count-ext n _ _ λ d dn. rw (columns c, columns d))))
  where
    columns : (c : ℕ) → permuted_column k n g p c ≡ permuted_column k n g p' c
    columns c = columns-agree k n g p p' (λ i ik. same i (omega arith)) c

digits-agree : (n : ℕ) (g : List ℕ) (k : ℕ) (p p' : List ℕ) → ((i : ℕ) → i < suc k → get_or p i 0 ≡ get_or p' i 0) → digit_key n g k p ≡ digit_key n g k p'
unfolding digit_key
digits-agree n g k p p' same = rw (same k (omega arith), order-agree (suc k) n g p p' same)

pub key-agree : (two : Bool) (n : ℕ) (g : List ℕ) (low k : ℕ) (p p' : List ℕ) → ((i : ℕ) → i < suc k → get_or p i 0 ≡ get_or p' i 0) → key two n g low k p ≡ key two n g low k p'
unfolding key
key-agree true n g low k p p' same = bits-agree n g low k p p' same
key-agree false n g low k p p' same = digits-agree n g k p p' same

pub rows-fewer : (n : ℕ) (g p p' : List ℕ) (j k : ℕ) → j ≤ k → sorted_rows k n g p ≡ sorted_rows k n g p' → sorted_rows j n g p ≡ sorted_rows j n g p'
unfolding sorted_rows
rows-fewer n g p p' j k jk e =
    sym (sorted-fewer j k n g p jk) ∙ leading-fewer n g p (column_order k n g p) p' (column_order k n g p') j k jk e ∙ sorted-fewer j k n g p' jk

pub rows-swapped : (m n : ℕ) (g : List ℕ) (k : ℕ) (p : List ℕ) (t : ℕ) → m ≤ 8 → k < m → IsPadded 8 m p → k ≤ t → sorted_rows k n g (swapped p k t) ≡ sorted_rows k n g p
rows-swapped m n g k p t m8 km o kt = sorted-agree k n g (swapped p k t) p (λ i ik. placed-stay m n g k p m8 km o t kt i ik)

-- the row at position k, its columns sorted by it and the rows before
abbrev next : ℕ → List ℕ → ℕ → List ℕ → List ℕ
next n g k p = permuted_row n g (get_or p k 0) (column_order (suc k) n g p)

small-cells : (m n : ℕ) (g : List ℕ) (k : ℕ) (p : List ℕ) → length g ≡ m * n → Small g → get_or p k 0 < m → (j : ℕ) → j < n → cell n g (get_or p k 0) (get_or (column_order (suc k) n g p) j 0) ≤ 15
unfolding Small
small-cells m n g k p size small pm j jn = small _ (cell-inside m n g size (get_or p k 0) (get_or (column_order (suc k) n g p) j 0) pm ((order-permutation (suc k) n g p).within j jn))

module _ (m n : ℕ) (g : List ℕ) (low k : ℕ) (p p' : List ℕ) (n16 : n ≤ 16) (size : length g ≡ m * n) (pm : get_or p k 0 < m) (pm' : get_or p' k 0 < m)
    (lead : arrangement k n p (column_order (suc k) n g p) g ≡ arrangement k n p' (column_order (suc k) n g p') g) where
  key-by : (two : Bool) → Valued two g low → next n g k p ≺ next n g k p' → key two n g low k p < key two n g low k p'
  unfolding key digit_key permuted_row
  key-by true v h =
      key-order m n g low k p (column_order (suc k) n g p) p' (column_order (suc k) n g p') n16 size (v.two-valued refl) pm pm' (order-permutation (suc k) n g p) (order-permutation (suc k) n g p')
      (order-ascending (suc k) n g p) (order-ascending (suc k) n g p') lead h
  key-by false v h = digits-order n _ _ (small-cells m n g k p size v.small pm) (small-cells m n g k p' size v.small pm') h

  key-alike : (two : Bool) → Valued two g low → next n g k p ≡ next n g k p' → key two n g low k p ≡ key two n g low k p'
  unfolding key digit_key permuted_row
  key-alike true v e =
      key-equal m n g low k p (column_order (suc k) n g p) p' (column_order (suc k) n g p') n16 size (v.two-valued refl) pm pm' (order-permutation (suc k) n g p) (order-permutation (suc k) n g p')
      (order-ascending (suc k) n g p) (order-ascending (suc k) n g p') lead e
  key-alike false v e = digits-equal n _ _ (small-cells m n g k p size v.small pm) (small-cells m n g k p' size v.small pm') e

module _ (two : Bool) (m n : ℕ) (g : List ℕ) (low k : ℕ) (p p' : List ℕ) (n16 : n ≤ 16) (size : length g ≡ m * n) (valued : Valued two g low) (pm : get_or p k 0 < m) (pm' : get_or p' k 0 < m) where
  abbrev A : List ℕ
  A = permuted_row n g (get_or p k 0) (column_order (suc k) n g p)

  abbrev B : List ℕ
  B = permuted_row n g (get_or p' k 0) (column_order (suc k) n g p')

  module _ (same : sorted_rows k n g p ≡ sorted_rows k n g p') where
    lead : arrangement k n p (column_order (suc k) n g p) g ≡ arrangement k n p' (column_order (suc k) n g p') g
    lead = sorted-fewer k (suc k) n g p (omega arith) ∙ same ∙ sym (sorted-fewer k (suc k) n g p' (omega arith))

    order : A ≺ B → key two n g low k p < key two n g low k p'
    order = key-by m n g low k p p' n16 size pm pm' lead two valued

    order-back : B ≺ A → key two n g low k p' < key two n g low k p
    order-back = key-by m n g low k p' p n16 size pm' pm (sym lead) two valued

    alike : A ≡ B → key two n g low k p ≡ key two n g low k p'
    alike = key-alike m n g low k p p' n16 size pm pm' lead two valued

    pub key-lower : key two n g low k p < key two n g low k p' → sorted_rows (suc k) n g p ≺ sorted_rows (suc k) n g p'
    key-lower h = sorted-lower k n g p p' same (λ l. go l (≼-dec A B))
      where
        go : B ≼ A → Dec (A ≼ B) → ⊥
        go l (yes r) = let e = alike (≼-antisymm A B r l) in omega arith
        go l (no r) = let z = order-back r in omega arith

    pub key-same : key two n g low k p ≡ key two n g low k p' → sorted_rows (suc k) n g p ≡ sorted_rows (suc k) n g p'
    key-same h = sorted-next k n g p p' same (go (≼-dec A B) (≼-dec B A))
      where
        go : Dec (A ≼ B) → Dec (B ≼ A) → A ≡ B
        go (yes l) (yes r) = ≼-antisymm A B l r
        go (no l) d = let z = order-back l in absurd (omega arith)
        go (yes l) (no r) = let z = order r in absurd (omega arith)

  pub same_key : sorted_rows (suc k) n g p ≡ sorted_rows (suc k) n g p' → key two n g low k p ≡ key two n g low k p'
  unfolding sorted_rows
  same_key e =
      alike (rows-fewer n g p p' k (suc k) (omega arith) e)
      (leading-row n g p (column_order (suc k) n g p) p' (column_order (suc k) n g p') k e)
