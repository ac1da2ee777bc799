-- Keys of rows: numbers in the order of the next rows. Between functions: no answer of a call is defined here.
-- Columns are sorted by the first k rows of a row order. Of the columns that these rows do not tell apart, those with the lower value in the next row come first.
--
--   level v              ==  the rank of a value, of 16
--   Small g              ==  every cell of g is at most 15
--   number n f           ==  the number with the digits f 0, f 1, .., f (n - 1) to base 16, the first one highest
--   bit low v            ==  0 for the value `low`, 1 for any other
--   bit_key n g low k p  ==  the key of row k of the order p in a grid of two values: each higher value counts 2 to the power of the columns after its own
--   digit_key n g k p    ==  the key of row k of the order p in any grid: the levels of its cells, with the columns sorted by it and the rows before, to base 16
--   key two n g low k p  ==  the one or the other
--   Valued two g low     ==  g is small, and has two values where `two` says so
use Rattle.std.specs.Prelude.{◌≡◌, List, Bool, true, false, ℕ, zero, suc, ◌+◌, ◌*◌, ◌%◌, ◌^◌, ◌≤◌, ◌<◌, length, get_or, eqb}
use Rattle.permutations.specs.Sums.{sum_to}
use Rattle.grids.specs.Order.{rank}
use Rattle.grids.specs.Grids.{cell}
use Rattle.grids.specs.Values.{TwoValued}
use Rattle.branches.specs.SortedRows.{columns_after, column_order}

unfoldable pub level : ℕ → ℕ
level v = rank v % 16

unfoldable pub Small : List ℕ → Type 0
Small g = (i : ℕ) → i < length g → get_or g i 0 ≤ 15

unfoldable pub number : ℕ → (ℕ → ℕ) → ℕ
number zero f = 0
number (suc n) f = 16 * number n f + f n

unfoldable pub bit : ℕ → ℕ → ℕ
bit low v = elim (eqb v low) [ true ↦ 0 | false ↦ 1 ]

unfoldable pub bit_key : ℕ → List ℕ → ℕ → ℕ → List ℕ → ℕ
bit_key n g low k p = sum_to n (λ c. bit low (cell n g (get_or p k 0) c) * 2 ^ columns_after k n g p c)

unfoldable pub digit_key : ℕ → List ℕ → ℕ → List ℕ → ℕ
digit_key n g k p = number n (λ j. level (cell n g (get_or p k 0) (get_or (column_order (suc k) n g p) j 0)))

unfoldable pub key : Bool → ℕ → List ℕ → ℕ → ℕ → List ℕ → ℕ
key true n g low k p = bit_key n g low k p
key false n g low k p = digit_key n g k p

pub record Valued (two : Bool) (g : List ℕ) (low : ℕ) : Type 0 where
  pub small : Small g
  pub two-valued : two ≡ true → TwoValued g low
