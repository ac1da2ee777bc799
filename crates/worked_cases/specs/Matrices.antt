-- The matrices (a), (b) and (c) of document 002, which document 01 says are in one class.
--
--   matrix_a, matrix_b, matrix_c  ==  the matrices, of 4 rows and 6 columns
--   MatricesAlike  ==  the statement: an arrangement of the first is the second, and one is the third
use Rattle.std.specs.Prelude.{List, [], ◌∷◌, ℕ}
use Rattle.grids.specs.Grids.{OneClass}

abbrev pub matrix_a : List ℕ
matrix_a = 0 ∷ 2 ∷ 1 ∷ 2 ∷ 0 ∷ 1 ∷ 0 ∷ 2 ∷ 2 ∷ 1 ∷ 1 ∷ 0 ∷ 0 ∷ 1 ∷ 0 ∷ 2 ∷ 1 ∷ 2 ∷ 0 ∷ 0 ∷ 1 ∷ 1 ∷ 2 ∷ 2 ∷ []

abbrev pub matrix_b : List ℕ
matrix_b = 0 ∷ 0 ∷ 1 ∷ 1 ∷ 2 ∷ 2 ∷ 0 ∷ 1 ∷ 0 ∷ 2 ∷ 1 ∷ 2 ∷ 0 ∷ 2 ∷ 1 ∷ 2 ∷ 0 ∷ 1 ∷ 0 ∷ 2 ∷ 2 ∷ 1 ∷ 1 ∷ 0 ∷ []

abbrev pub matrix_c : List ℕ
matrix_c = 0 ∷ 0 ∷ 1 ∷ 1 ∷ 2 ∷ 2 ∷ 0 ∷ 1 ∷ 0 ∷ 2 ∷ 1 ∷ 2 ∷ 0 ∷ 1 ∷ 2 ∷ 0 ∷ 2 ∷ 1 ∷ 0 ∷ 2 ∷ 2 ∷ 1 ∷ 1 ∷ 0 ∷ []

pub record MatricesAlike : Type 0 where
  pub first-second : OneClass 4 6 matrix_a matrix_b
  pub first-third : OneClass 4 6 matrix_a matrix_c
