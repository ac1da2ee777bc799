-- The rows of an array after an exchange, and the columns before any row is placed.
--
--   rows-exchanged  ==  the numbers of an array's rows after the rows at two positions are exchanged
--   lists-own       ==  where all columns have the same number, each is listed at its own place
use Rattle.std.proofs.Common.{◌≡◌, ℕ, ◌-◌, ◌<◌, ◌≤◌, List, [], ◌∷◌, length, not-suc-le-zero, get_or, set, sym, ap, ◌∙◌, arith}
use Rattle.std.specs.List.{swap}
use Rattle.permutations.specs.declared.rows.RowNumber.{RowNumber}
use Rattle.permutations.specs.Rows.{row_number}
use Rattle.permutations.specs.Permutations.{swapped, identity}
use Rattle.permutations.proofs.ArrayLaws.{map-set, map_at}
use Rattle.permutations.proofs.ListLaws.{tabulate-is}
use Rattle.permutations.proofs.PermutationLaws.{at-identity, identity-permutation}
use Rattle.search.specs.ColumnLists.{column_at, columns_of, Lists}
use Rattle.search.specs.Search.{rows_of}

pub rows-exchanged : (l : List RowNumber) (k t : ℕ) → k < length l → t < length l → rows_of (swap l k t) ≡ swapped (rows_of l) k t
unfolding swapped
rows-exchanged [] k t kb tb = absurd (not-suc-le-zero kb)
rows-exchanged (d ∷ l) k t kb tb =
    map-set row_number (set (d ∷ l) k (get_or (d ∷ l) t d)) t (get_or (d ∷ l) k d)
    ∙ ap (λ (r : List ℕ). set r t (row_number (get_or (d ∷ l) k d))) (map-set row_number (d ∷ l) k (get_or (d ∷ l) t d))
    ∙ rw (map_at row_number (d ∷ l) k d kb, map_at row_number (d ∷ l) t d tb)

pub lists-own : (n : ℕ) (a : List ℕ) (l : ℕ) → n ≤ 16 → ((c : ℕ) → c < n → get_or a c 0 ≡ 16 - n) → ((j : ℕ) → j < 16 → column_at l j ≡ j) → Lists n a l
unfolding columns_of
lists-own n a l n16 same own = record {
  sorts = record {
    columns = rw columns-are (identity-permutation n);
    sorted = λ i j ij jn. rw columns-are (sorted i j ij jn);
  };
  past = λ j nj j16. own j j16;
}
  where
    columns-are : columns_of n l ≡ identity n
    columns-are = tabulate-is 0 (identity n) n (column_at l) (identity-permutation n).size (λ i h. at-identity n i h ∙ sym (own i (omega arith)))

    sorted : (i j : ℕ) → i < j → j < n → get_or a (get_or (identity n) j 0) 0 ≤ get_or a (get_or (identity n) i 0) 0
    sorted i j ij jn = rw (at-identity n j jn, at-identity n i (omega arith)) (omega (arith, same i (omega arith), same j jn))
