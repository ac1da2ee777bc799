-- The questions that a call asks of its arguments before anything else, with the numbers of documents 01 and 02.
--
--   Question            ==  its number, and whether it gets a yes
--   first_no l          ==  the number of the first question of l that gets a no; 0 if each gets a yes
--   in_range a b x      ==  x is a to b
--   Limits m n top      ==  m is 1 to 8, n is 1 to 16, top is 0 to 15: what questions 1 to 3 ask
--   question1 m         ==  are the rows 1 to 8?
--   question2 n         ==  are the columns 1 to 16?
--   question3 top       ==  is top 0 to 15?
--   question4 capacity  ==  is the capacity 1 to 500?
--   question6 size l    ==  has every slice of l its exact length?
--   question7 top l     ==  is every cell or bound of the slices of l at most top?
--   question14 m        ==  are a terminal's rows other than 6 to 8?
--   after_first q l     ==  the questions l, with q asked directly after the first of them
use Rattle.std.specs.Prelude.{List, [], ◌∷◌, Bool, true, false, not, ◌&&◌, ℕ, ◌≤◌, length, leb, eqb}
use Rattle.permutations.specs.Lists.{every}
use Rattle.grids.specs.Grids.{capped}

pub record Question : Type 0 where
  pub number : ℕ
  pub answer : Bool

unfoldable pub first_no : List Question → ℕ
first_no [] = 0
first_no (q ∷ l) = elim q.answer [ true ↦ first_no l | false ↦ q.number ]

unfoldable pub in_range : ℕ → ℕ → ℕ → Bool
in_range a b x = leb a x && leb x b

pub record Limits (m n top : ℕ) : Type 0 where
  pub rows-limits : (1 ≤ m) × (m ≤ 8)
  pub column-limits : (1 ≤ n) × (n ≤ 16)
  pub top-limit : top ≤ 15

unfoldable pub question1 : ℕ → Question
question1 m = record { number = 1; answer = in_range 1 8 m }

unfoldable pub question2 : ℕ → Question
question2 n = record { number = 2; answer = in_range 1 16 n }

unfoldable pub question3 : ℕ → Question
question3 top = record { number = 3; answer = in_range 0 15 top }

unfoldable pub question4 : ℕ → Question
question4 capacity = record { number = 4; answer = in_range 1 500 capacity }

unfoldable pub question6 : ℕ → List (List ℕ) → Question
question6 size l = record { number = 6; answer = every (λ s. eqb (length s) size) l }

unfoldable pub question7 : ℕ → List (List ℕ) → Question
question7 top l = record { number = 7; answer = every (capped top) l }

unfoldable pub question14 : ℕ → Question
question14 m = record { number = 14; answer = not (in_range 6 8 m) }

unfoldable pub after_first : Question → List Question → List Question
after_first q [] = q ∷ []
after_first q (x ∷ l) = x ∷ q ∷ l
