-- Steps of the functions of what the search has found.
--
--   CommonUpTo a b count i  ==  a and b begin with i entries in common, at most count
--   common-more     ==  one entry more
--   row-key         ==  a row's levels in the best's columns are the digits of its key
use Rattle.std.proofs.Common.{◌≡◌, ℕ, ◌+◌, ◌<◌, ◌≤◌, false, List, get_or, sym, ◌∙◌, arith}
use native.Mathlib.Decide.{ℕ_discrete}
use Rattle.permutations.specs.declared.rows.RowNumber.{RowNumber}
use Rattle.permutations.specs.Rows.{row_number}
use Rattle.permutations.specs.Padded.{IsPadded}
use Rattle.permutations.proofs.ListLaws.{at-tabulate}
use Rattle.permutations.proofs.SwapLaws.{at-whole}
use Rattle.grids.specs.Grids.{cell}
use Rattle.branches.specs.SortedRows.{PlacesBy}
use Rattle.branches.specs.Keys.{level, number, key}
use Rattle.branches.proofs.NextLaws.{digits_are}
use Rattle.search.specs.ColumnLists.{column_at, columns_of, Lists}
use Rattle.search.specs.Tables.{entry, ByRows}
use Rattle.search.specs.Search.{rows_of}
use Rattle.search.proofs.SymmetryLaws.{row_at}

-- ---- entries in common

pub record CommonUpTo (a b : List ℕ) (count i : ℕ) : Type 0 where
  pub up_to : i ≤ count
  pub same : (j : ℕ) → j < i → get_or a j 0 ≡ get_or b j 0

pub common-more : (a b : List ℕ) (count i x y : ℕ) → i < count → x ≡ get_or a i 0 → y ≡ get_or b i 0 → x ≡ y → CommonUpTo a b count i → CommonUpTo a b count (i + 1)
common-more a b count i x y ic e f g c = record { up_to = omega arith; same = λ j h. go j h (ℕ_discrete j i) }
  where
    go : (j : ℕ) → j < i + 1 → Dec (j ≡ i) → get_or a j 0 ≡ get_or b j 0
    go j h (yes w) = rw w (sym e ∙ g ∙ f)
    go j h (no ne) = c.same j (omega arith)

-- ---- keys of the best's rows

at-columns : (n l t : ℕ) → t < n → get_or (columns_of n l) t 0 ≡ column_at l t
unfolding columns_of
at-columns n l t tn = at-tabulate n (column_at l) t 0 tn

pub row-key : (m n : ℕ) (g y : List ℕ) (low : ℕ) (best : List RowNumber) (a : List ℕ) (l i v : ℕ) → n ≤ 16 → ByRows m n g y → IsPadded 8 m (rows_of best) → PlacesBy m n g (rows_of best) a → Lists n a l → i < m →
    v ≡ number n (λ j. entry y (row_number (get_or best i record { 0 = 0 })) (column_at l j)) → v ≡ key false n g low i (rows_of best)
unfolding key
row-key m n g y low best a l i v n16 by o places lists im e =
    e ∙ digits_are m n g (rows_of best) a (columns_of n l) n16 places lists.sorts i im (λ j. entry y (row_number (get_or best i record { 0 = 0 })) (column_at l j)) each
  where
    each : (t : ℕ) → t < n → entry y (row_number (get_or best i record { 0 = 0 })) (column_at l t) ≡ level (cell n g (get_or (rows_of best) i 0) (get_or (columns_of n l) t 0))
    each t tn =
        rw (row_at best i, at-columns n l t tn)
        (by.holds (get_or (rows_of best) i 0) (column_at l t) (at-whole 8 m (rows_of best) o i im) (omega (arith, at-columns n l t tn, lists.sorts.columns.within t tn)))
