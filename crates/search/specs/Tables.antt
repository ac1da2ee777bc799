-- What the tables of a search hold. Between functions: no answer of a call is defined here.
-- The levels of a grid's cells are kept by rows, sixteen for each of 8 rows; by columns, as the bytes of a word for each of 16 columns; and, where the grid has two values, as 0 and
-- 1 by columns, eight for each.
--
--   entry y r c         ==  the number of row r, column c in the table y by rows
--   ByRows m n g y      ==  y holds the levels of the cells by rows, and 0 past column n
--   ByColumns y w       ==  w holds those of y by columns
--   ByBits m n g low x  ==  x holds 1 for each cell with the higher value, by columns, and 0 elsewhere
--   Tables ..           ==  the tables of a grid
--   tables-prop         ==  there is one way at most for them to be these
--   is_two low          ==  whether a grid has two values at most, of which `low` is the lower
--   low_of low          ==  that value, or 0
--   RowKeys x a s       ==  s holds for each row the sum of its numbers in the table x by bits, each times 2 to the power that a has for its column
use Rattle.std.specs.Prelude.{◌≡◌, ℕ, ◌+◌, ◌*◌, ◌^◌, ◌<◌, ◌≤◌, Bool, true, false, Option, Some, None, List, length, slice_index}
use Rattle.std.proofs.Props.{props}
use Rattle.permutations.specs.Sums.{sum_to}
use Rattle.grids.specs.Grids.{cell}
use Rattle.branches.specs.Keys.{level, bit, Small, Valued}
use Rattle.search.specs.RowSets.{lane}

abbrev pub entry : List ℕ → ℕ → ℕ → ℕ
entry y r c = slice_index y (r * 16 + c)

pub record ByRows (m n : ℕ) (g y : List ℕ) : Type 0 where
  pub size : length y ≡ 128
  pub small : (i : ℕ) → slice_index y i ≤ 15
  pub holds : (r c : ℕ) → r < m → c < n → entry y r c ≡ level (cell n g r c)
  pub past : (r c : ℕ) → r < 8 → n ≤ c → c < 16 → entry y r c ≡ 0

pub record ByColumns (y w : List ℕ) : Type 0 where
  pub size : length w ≡ 16
  pub bytes : (c : ℕ) → slice_index w c < 2 ^ 64
  pub holds : (r c : ℕ) → r < 8 → c < 16 → lane r (slice_index w c) ≡ entry y r c

pub record ByBits (m n : ℕ) (g : List ℕ) (low : ℕ) (x : List ℕ) : Type 0 where
  pub bits : (i : ℕ) → slice_index x i ≤ 1
  pub holds : (r c : ℕ) → r < m → c < n → slice_index x (c * 8 + r) ≡ bit low (cell n g r c)
  pub past : (r c : ℕ) → r < 8 → n ≤ c → c < 16 → slice_index x (c * 8 + r) ≡ 0

pub record Tables (m n : ℕ) (g : List ℕ) (two : Bool) (low : ℕ) (y w x : List ℕ) : Type 0 where
  pub rows_fit : m ≤ 8
  pub columns-fit : n ≤ 16
  pub size : length g ≡ m * n
  pub valued : Valued two g low
  pub by_rows : ByRows m n g y
  pub by-columns : ByColumns y w
  pub by_bits : two ≡ true → ByBits m n g low x

abbrev pub is_two : Option ℕ → Bool
is_two (Some low) = true
is_two None = false

abbrev pub low_of : Option ℕ → ℕ
low_of (Some low) = low
low_of None = 0

unfoldable pub RowKeys : List ℕ → List ℕ → List ℕ → Type 0
RowKeys x a s = (r : ℕ) → r < 8 → slice_index s r ≡ sum_to 16 (λ c. slice_index x (c * 8 + r) * 2 ^ slice_index a c)

pub tables-prop : (m n : ℕ) (g : List ℕ) (two : Bool) (low : ℕ) (y w x : List ℕ) → IsProp (Tables m n g two low y w x)
unfolding Small
tables-prop m n g two low y w x = Prim.hlevel props
