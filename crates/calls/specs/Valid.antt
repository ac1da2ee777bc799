-- A valid register, one that question 5 gets a yes for, and what the calls answer on it. Between functions: no answer of a call is defined here.
--
--   Valid size n b        ==  b is a valid register, with n entries of so many cells
--   open_no s length      ==  the first no of open's questions, of a slice of that length
--   asked b c g           ==  the first no of questions 5, 6, 7 and 15 of enter and strike
--   terminal_asked b c g  ==  the first no of questions 5, 14, 6, 7 and 15 of a terminal's enter
--   register_with b es    ==  the bytes of the register b with other entries
--   gone_at b p           ==  without the entry at p
--   held_as b c g x       ==  where client c holds x of the grid g: without g where nobody holds it then
--   entered_least b c r   ==  the outcome of client c's entering the grid r, least of its class, into the register b
--   struck_least b c r    ==  the outcome of its striking it
use Rattle.std.specs.Prelude.{◌≡◌, List, [], ◌∷◌, ◌++◌, true, ℕ, suc, take, drop, eqb}
use Rattle.grids.specs.Questions.{first_no, question1, question2, question3, question4, question14, after_first}
use Rattle.layout.specs.Layout.{Shape, Entry, grid_size, layout, layout_length, changed, count, decode_shape, decode, laid_out}
use Rattle.calls.specs.Entries.{client_questions, question9, question10, question16, holdings_in}
use Rattle.calls.specs.Calls.{Outcome, answered, question5, kept, enter_into, strike_from}

unfoldable pub open_no : Shape → ℕ → ℕ
open_no s length =
    first_no (question1 s.rows ∷ question2 s.columns ∷ question3 s.top ∷ question4 s.capacity ∷ record { number = 6; answer = eqb length (layout_length s) } ∷ [])

pub record Valid (size n : ℕ) (b : List ℕ) : Type 0 where
  pub laid : laid_out b ≡ true
  pub sized : size ≡ grid_size (decode_shape b)
  pub counts : n ≡ count b

unfoldable pub asked : List ℕ → ℕ → List ℕ → ℕ
asked b c g = first_no (question5 b ∷ client_questions (decode b).shape c g)

unfoldable pub terminal_asked : List ℕ → ℕ → List ℕ → ℕ
terminal_asked b c g = first_no (after_first (question14 (decode b).shape.rows) (question5 b ∷ client_questions (decode b).shape c g))

abbrev pub register_with : List ℕ → List Entry → List ℕ
register_with b es = layout (record { shape = (decode b).shape; entries = es })

abbrev pub gone_at : List ℕ → ℕ → List ℕ
gone_at b p = register_with b (take p (decode b).entries ++ drop (suc p) (decode b).entries)

abbrev pub held_as : List ℕ → ℕ → List ℕ → ℕ → List ℕ
held_as b c g x = register_with b (kept g (changed c x (holdings_in g (decode b).entries)) (decode b).entries)

unfoldable pub entered_least : List ℕ → ℕ → List ℕ → Outcome
entered_least b c r = answered (first_no (question9 (decode b) r ∷ question16 (decode b) c r ∷ [])) b (enter_into (decode b) c r)

unfoldable pub struck_least : List ℕ → ℕ → List ℕ → Outcome
struck_least b c r = answered (first_no (question10 (decode b) c r ∷ [])) b (strike_from (decode b) c r)
