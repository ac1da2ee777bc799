-- Row permutations as lists of numbers.
--
--   RowPermutation, TerminalRowPermutation  ==  permutations of rows, in 8 positions and in a terminal's 5
--   row_number i           ==  the number of a row
--   row_numbers p          ==  the numbers in p's 8 positions
--   IsRowPermutation n p   ==  p is a permutation of n rows
use Rattle.std.specs.Prelude.{◌≡◌, List, ℕ}
use Rattle.permutations.specs.Padded.{IsPadded}
use Rattle.permutations.specs.declared.permutation.Permutation.{Permutation}
use Rattle.permutations.specs.declared.rows.RowNumber.{RowNumber}

abbrev pub RowPermutation : Type 0
RowPermutation = Permutation RowNumber 8

abbrev pub TerminalRowPermutation : Type 0
TerminalRowPermutation = Permutation RowNumber 5

abbrev pub row_number : RowNumber → ℕ
row_number r = r.0

abbrev pub row_numbers : RowPermutation → List ℕ
row_numbers p = p.at

pub record IsRowPermutation (n : ℕ) (p : RowPermutation) : Type 0 where
  pub whole : IsPadded 8 n (row_numbers p)
  pub size : p.size ≡ n
