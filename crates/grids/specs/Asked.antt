-- The first no of the questions that the calls ask first. Between functions: no answer of a call is defined here.
--
--   limits_no m n top    ==  the first no of questions 1, 2 and 3
--   numbers_no m n top capacity  ==  the first no of questions 1 to 4
--   shape_no m n top x y ==  the first no of questions 1, 2, 3 and 6, of two slices of lengths x and y
use Rattle.std.specs.Prelude.{[], ◌∷◌, ◌&&◌, ℕ, ◌*◌, eqb}
use Rattle.grids.specs.Questions.{first_no, question1, question2, question3, question4}

unfoldable pub limits_no : ℕ → ℕ → ℕ → ℕ
limits_no m n top = first_no (question1 m ∷ question2 n ∷ question3 top ∷ [])

unfoldable pub numbers_no : ℕ → ℕ → ℕ → ℕ → ℕ
numbers_no m n top capacity = first_no (question1 m ∷ question2 n ∷ question3 top ∷ question4 capacity ∷ [])

unfoldable pub shape_no : ℕ → ℕ → ℕ → ℕ → ℕ → ℕ
shape_no m n top x y =
    first_no (question1 m ∷ question2 n ∷ question3 top ∷ record { number = 6; answer = eqb x (m * n) && eqb y (m * n) } ∷ [])
