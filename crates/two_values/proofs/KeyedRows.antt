-- Keys stand for rows: of two row orders with the same leading rows, the one with the lesser key has the lesser next row.
--
--   key-agree     ==  the key of row k depends on the first k + 1 rows of the order alone
--   key-lower     ==  a lesser key gives lesser leading rows, one more of them
--   key-same      ==  equal keys give equal ones
--   same_key      ==  and the other way round
--   rows-fewer    ==  fewer of equal leading rows are equal
--   rows-swapped  ==  the rows placed stay, whichever row comes next
use mathlib.Core.Path.{◌≡◌, sym, ap, ◌∙◌}
use mathlib.Core.List.{List}
use Prim.Native.Nat.{ℕ, suc, ◌+◌, ◌-◌, ◌*◌, ◌^◌, ◌≤◌, ◌<◌}
use native.Mathlib.Omega.{arith}
use lib.ListN.{length, get_or}
use Rattle.permutations.specs.Padded.{IsPadded}
use Rattle.permutations.specs.Permutations.{swapped}
use Rattle.grids.specs.Order.{◌≼◌, ◌≺◌}
use Rattle.grids.specs.Grids.{cell, permuted_row, arrangement}
use Rattle.grids.specs.Sorted.{permuted_column}
use Rattle.grids.proofs.OrderLaws.{≼-dec, ≼-antisymm}
use Rattle.branches.proofs.LeadingRows.{leading-fewer, leading-row}
use Rattle.branches.proofs.BranchLaws.{placed-stay}
use Rattle.grids.specs.Values.{TwoValued}
use Rattle.two_values.specs.TwoValues.{bit, columns_after, key, column_order, sorted_rows}
use Rattle.two_values.proofs.CountLaws.{count-ext}
use Rattle.permutations.proofs.SumLaws.{sum-ext}
use Rattle.two_values.proofs.SortedRows.{order-permutation, order-ascending, sorted-fewer, sorted-agree, sorted-next, sorted-lower, columns-agree}
use Rattle.two_values.proofs.KeyLaws.{key-order, key-equal}

pub key-agree : (n : ℕ) (g : List ℕ) (low k : ℕ) (p p' : List ℕ) → ((i : ℕ) → i < suc k → get_or p i 0 ≡ get_or p' i 0) → key n g low k p ≡ key n g low k p'
unfolding key columns_after
key-agree n g low k p p' same =
    rw (same k (omega arith))
    (sum-ext n _ _ λ c cn.
    ap (λ (w : ℕ). bit low (cell n g (get_or p' k 0) c) * 2 ^ w) (ap (λ (w : ℕ). (16 - n) + w) (count-ext n _ _ λ d dn. rw (columns c, columns d))))
  where
    columns : (c : ℕ) → permuted_column k n g p c ≡ permuted_column k n g p' c
    columns c = columns-agree k n g p p' (λ i ik. same i (omega arith)) c

pub rows-fewer : (n : ℕ) (g p p' : List ℕ) (j k : ℕ) → j ≤ k → sorted_rows k n g p ≡ sorted_rows k n g p' → sorted_rows j n g p ≡ sorted_rows j n g p'
unfolding sorted_rows
rows-fewer n g p p' j k jk e =
    sym (sorted-fewer j k n g p jk) ∙ leading-fewer n g p (column_order k n g p) p' (column_order k n g p') j k jk e ∙ sorted-fewer j k n g p' jk

pub rows-swapped : (m n : ℕ) (g : List ℕ) (k : ℕ) (p : List ℕ) (t : ℕ) → m ≤ 8 → k < m → IsPadded 8 m p → k ≤ t → sorted_rows k n g (swapped p k t) ≡ sorted_rows k n g p
rows-swapped m n g k p t m8 km o kt = sorted-agree k n g (swapped p k t) p (λ i ik. placed-stay m n g k p m8 km o t kt i ik)

module _ (m n : ℕ) (g : List ℕ) (low k : ℕ) (p p' : List ℕ) (n16 : n ≤ 16) (size : length g ≡ m * n) (two : TwoValued g low) (pm : get_or p k 0 < m) (pm' : get_or p' k 0 < m) where
  A : List ℕ
  A = permuted_row n g (get_or p k 0) (column_order (suc k) n g p)

  B : List ℕ
  B = permuted_row n g (get_or p' k 0) (column_order (suc k) n g p')

  module _ (same : sorted_rows k n g p ≡ sorted_rows k n g p') where
    lead : arrangement k n p (column_order (suc k) n g p) g ≡ arrangement k n p' (column_order (suc k) n g p') g
    lead = sorted-fewer k (suc k) n g p (omega arith) ∙ same ∙ sym (sorted-fewer k (suc k) n g p' (omega arith))

    order : A ≺ B → key n g low k p < key n g low k p'
    unfolding A B
    order = key-order m n g low k p (column_order (suc k) n g p) p' (column_order (suc k) n g p') n16 size two pm pm' (order-permutation (suc k) n g p) (order-permutation (suc k) n g p')
        (order-ascending (suc k) n g p) (order-ascending (suc k) n g p') lead

    order-back : B ≺ A → key n g low k p' < key n g low k p
    unfolding A B
    order-back = key-order m n g low k p' (column_order (suc k) n g p') p (column_order (suc k) n g p) n16 size two pm' pm (order-permutation (suc k) n g p') (order-permutation (suc k) n g p)
        (order-ascending (suc k) n g p') (order-ascending (suc k) n g p) (sym lead)

    alike : A ≡ B → key n g low k p ≡ key n g low k p'
    unfolding A B
    alike = key-equal m n g low k p (column_order (suc k) n g p) p' (column_order (suc k) n g p') n16 size two pm pm' (order-permutation (suc k) n g p) (order-permutation (suc k) n g p')
        (order-ascending (suc k) n g p) (order-ascending (suc k) n g p') lead

    pub key-lower : key n g low k p < key n g low k p' → sorted_rows (suc k) n g p ≺ sorted_rows (suc k) n g p'
    unfolding A B
    key-lower h = sorted-lower k n g p p' same (λ l. go l (≼-dec A B))
      where
        go : B ≼ A → Dec (A ≼ B) → ⊥
        go l (yes r) = let e = alike (≼-antisymm A B r l) in omega arith
        go l (no r) = let z = order-back r in omega arith

    pub key-same : key n g low k p ≡ key n g low k p' → sorted_rows (suc k) n g p ≡ sorted_rows (suc k) n g p'
    unfolding A B
    key-same h = sorted-next k n g p p' same (go (≼-dec A B) (≼-dec B A))
      where
        go : Dec (A ≼ B) → Dec (B ≼ A) → A ≡ B
        go (yes l) (yes r) = ≼-antisymm A B l r
        go (no l) d = let z = order-back l in absurd (omega arith)
        go (yes l) (no r) = let z = order r in absurd (omega arith)

  pub same_key : sorted_rows (suc k) n g p ≡ sorted_rows (suc k) n g p' → key n g low k p ≡ key n g low k p'
  unfolding A B sorted_rows
  same_key e =
      alike (rows-fewer n g p p' k (suc k) (omega arith) e)
      (leading-row n g p (column_order (suc k) n g p) p' (column_order (suc k) n g p') k e)
