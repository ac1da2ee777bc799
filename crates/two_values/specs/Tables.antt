-- What the tables of a search hold. Between functions: no answer of a call is defined here.
-- The cells of a grid with two values are kept twice as 0 and 1: by columns, eight numbers for each of 16 columns, and by rows, sixteen for each of 8 rows. How many columns come
-- after each of 16 columns is kept in an array.
--
--   high n g low r c       ==  1 where the cell in row r, column c has the higher value; 0 elsewhere, and past column n
--   ByColumns m n g low x  ==  x holds them column after column
--   ByRows m n g low y     ==  y holds 1 less each of them, row after row
--   Tables m n g low x y   ==  the tables of a grid with two values, of a shape within the limits
--   Bits l                 ==  every number of l is 0 or 1
--   Below16 a              ==  every number of a is at most 15
--   PowersFit a            ==  2 to the power of each number of a, all added, is less than 2 to the power of 16
--   refined_key y r a c    ==  orders the columns by a, and those with equal numbers there by row r: greater numbers come first
--   Refined y r a b        ==  b holds of each column how many come after it by these
--   RowKeys x a s          ==  s holds for each row the sum of its numbers in x, each times 2 to the power that a has for its column
--   Places n a             ==  in a, the columns past n have after them those that are past them; all others come before these
--   SortsBy n a q          ==  q lists the n columns so that their numbers in a do not rise
use Rattle.std.specs.Prelude.{◌≡◌, List, true, false, ℕ, ◌+◌, ◌-◌, ◌*◌, ◌^◌, ◌≤◌, ◌<◌, length, get_or, ltb}
use Rattle.permutations.specs.Columns.{ColumnPermutation}
use Rattle.permutations.specs.Columns.{column_numbers, IsColumnPermutation}
use Rattle.grids.specs.Grids.{cell}
use Rattle.permutations.specs.Sums.{sum_to, count}
use Rattle.grids.specs.Values.{TwoValued}
use Rattle.two_values.specs.TwoValues.{bit}

unfoldable pub high : ℕ → List ℕ → ℕ → ℕ → ℕ → ℕ
high n g low r c = elim (ltb c n) [ true ↦ bit low (cell n g r c) | false ↦ 0 ]

abbrev pub Bits : List ℕ → Type 0
Bits l = (i : ℕ) → get_or l i 0 ≤ 1

unfoldable pub Below16 : List ℕ → Type 0
Below16 a = (c : ℕ) → get_or a c 0 ≤ 15

unfoldable pub PowersFit : List ℕ → Type 0
PowersFit a = sum_to 16 (λ c. 2 ^ get_or a c 0) < 65536

pub record ByColumns (m n : ℕ) (g : List ℕ) (low : ℕ) (x : List ℕ) : Type 0 where
  pub bits : Bits x
  pub holds : (r c : ℕ) → r < m → c < 16 → get_or x (c * 8 + r) 0 ≡ high n g low r c

pub record ByRows (m n : ℕ) (g : List ℕ) (low : ℕ) (y : List ℕ) : Type 0 where
  pub bits : Bits y
  pub holds : (r c : ℕ) → r < m → c < 16 → get_or y (r * 16 + c) 0 ≡ 1 - high n g low r c

pub record Tables (m n : ℕ) (g : List ℕ) (low : ℕ) (x y : List ℕ) : Type 0 where
  pub rows_fit : m ≤ 8
  pub columns-fit : n ≤ 16
  pub size : length g ≡ m * n
  pub two : TwoValued g low
  pub by-columns : ByColumns m n g low x
  pub by_rows : ByRows m n g low y

unfoldable pub refined_key : List ℕ → ℕ → List ℕ → ℕ → ℕ
refined_key y r a c = 2 * get_or a c 0 + get_or y (r * 16 + c) 0

pub record Refined (y : List ℕ) (r : ℕ) (a b : List ℕ) : Type 0 where
  pub size : length b ≡ 16
  pub counts : (c : ℕ) → c < 16 → get_or b c 0 ≡ count 16 (λ d. ltb (refined_key y r a d) (refined_key y r a c))

unfoldable pub RowKeys : List ℕ → List ℕ → List ℕ → Type 0
RowKeys x a s = (r : ℕ) → r < 8 → get_or s r 0 ≡ sum_to 16 (λ c. get_or x (c * 8 + r) 0 * 2 ^ get_or a c 0)

pub record Places (n : ℕ) (a : List ℕ) : Type 0 where
  pub before : (c : ℕ) → c < n → 16 - n ≤ get_or a c 0
  pub past : (c : ℕ) → n ≤ c → c < 16 → get_or a c 0 ≡ 15 - c
  pub small : Below16 a

pub record SortsBy (n : ℕ) (a : List ℕ) (q : ColumnPermutation) : Type 0 where
  pub columns : IsColumnPermutation n q
  pub sorted : (i j : ℕ) → i < j → j < n → get_or a (get_or (column_numbers q) j 0) 0 ≤ get_or a (get_or (column_numbers q) i 0) 0
