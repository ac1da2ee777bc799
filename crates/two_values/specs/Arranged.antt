-- The least arrangement of a grid with two values, as it is handed on. Between functions: no answer of a call is defined here.
--
--   ArrangedLeast m n g r  ==  r holds permutations of m rows and of n columns that give the least arrangement
use Rattle.std.specs.Prelude.{◌≡◌, List, ℕ}
use Rattle.permutations.specs.Rows.{row_numbers, IsRowPermutation}
use Rattle.permutations.specs.Columns.{column_numbers, IsColumnPermutation}
use Rattle.grids.specs.Grids.{arrangement}
use Rattle.grids.specs.Least.{least}
use Rattle.permutations.specs.declared.orders.Orders.{Orders}

pub record ArrangedLeast (m n : ℕ) (g : List ℕ) (r : Orders 8) : Type 0 where
  pub rows : IsRowPermutation m r.rows
  pub columns : IsColumnPermutation n r.columns
  pub gives : arrangement m n (row_numbers r.rows) (column_numbers r.columns) g ≡ least m n g
