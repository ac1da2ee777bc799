-- Column permutations as lists of numbers.
--
--   ColumnPermutation        ==  permutations of columns, in 16 positions
--   column_number i          ==  the number of a column
--   column_numbers p         ==  the numbers in p's 16 positions
--   IsColumnPermutation n p  ==  p is a permutation of n columns
use Rattle.std.specs.Prelude.{◌≡◌, List, ℕ}
use Rattle.permutations.specs.Padded.{IsPadded}
use Rattle.permutations.specs.declared.permutation.Permutation.{Permutation}
use Rattle.permutations.specs.declared.columns.ColumnNumber.{ColumnNumber}

abbrev pub ColumnPermutation : Type 0
ColumnPermutation = Permutation ColumnNumber 16

abbrev pub column_number : ColumnNumber → ℕ
column_number c = c.0

abbrev pub column_numbers : ColumnPermutation → List ℕ
column_numbers p = p.at

pub record IsColumnPermutation (n : ℕ) (p : ColumnPermutation) : Type 0 where
  pub whole : IsPadded 16 n (column_numbers p)
  pub size : p.size ≡ n
