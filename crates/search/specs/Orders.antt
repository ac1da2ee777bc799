-- The orders of the least arrangement. Between functions: no answer of a call is defined here.
--
--   leading_rows k n g o  ==  the first k rows of the arrangement of g by the orders o
--   IsOrders m n o        ==  o holds a permutation of m rows and one of n columns
--   LeastOrders m n g o   ==  o gives the least arrangement
use Rattle.std.specs.Prelude.{◌≡◌, ℕ, List}
use Rattle.permutations.specs.Rows.{row_numbers, IsRowPermutation}
use Rattle.permutations.specs.Columns.{column_numbers, IsColumnPermutation}
use Rattle.grids.specs.Grids.{arrangement}
use Rattle.grids.specs.Least.{least}
use Rattle.permutations.specs.declared.orders.Orders.{Orders}

abbrev pub leading_rows : ℕ → ℕ → List ℕ → Orders 8 → List ℕ
leading_rows k n g o = arrangement k n (row_numbers o.rows) (column_numbers o.columns) g

pub record IsOrders (m n : ℕ) (o : Orders 8) : Type 0 where
  pub rows : IsRowPermutation m o.rows
  pub columns : IsColumnPermutation n o.columns

pub record LeastOrders (m n : ℕ) (g : List ℕ) (o : Orders 8) : Type 0 where
  pub orders : IsOrders m n o
  pub gives : leading_rows m n g o ≡ least m n g
