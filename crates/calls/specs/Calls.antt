-- What open, enter, strike, count and a terminal's enter answer and leave in the register's bytes, on all arguments.
--
--   Outcome              ==  the number, the place or count, and the register's bytes afterwards
--   placed number place bytes  ==  such an outcome
--   shape m n top capacity  ==  the numbers of an open
--   refusal k b          ==  the number k, place or count 0, and the bytes as they were
--   answered k b o       ==  the refusal k, unless k is 0: then o
--   accepted k           ==  a call with the number k is accepted: none of its questions got a no
--   kept r h l           ==  an ascending list with the holdings h for the grid r: where all are 0, without it
--   question5            ==  the question of document 01 with this number
--   open_questions, enter_questions, strike_questions, count_questions  ==  the questions that each call asks, in order
--   terminal_enter_questions  ==  those of a terminal's enter: enter's, with 14 asked directly after question 5
--   enter_into x c r, strike_from x c r  ==  client c's enter and strike of the grid r, least of its class, where no question of the register x gets a no
--   entries_in x low high ==  how many entries of the register x lie in the bounds
--   enter_register, strike_register, count_register, terminal_enter_register  ==  the calls on bytes and the register that they state
--   opened s b           ==  open with the numbers of s on the slice b
--   entered b c g        ==  client c's enter of the grid g into the register b
--   struck b c g         ==  its strike of the grid g from it
--   counted b low high   ==  count of the entries in the bounds low, high
--   terminal_entered b c g  ==  its enter of the grid g at a terminal
use Rattle.std.specs.Prelude.{List, [], ◌∷◌, ◌++◌, Bool, true, false, ◌||◌, ℕ, zero, suc, length, eqb}
use Rattle.permutations.specs.Lists.{select}
use Rattle.grids.specs.Questions.{Question, first_no, question1, question2, question3, question4, question6, question14, after_first}
use Rattle.bounds.specs.Bounds.{in_bounds}
use Rattle.bounds.specs.Prune.{bounds_questions}
use Rattle.layout.specs.Layout.{Shape, Entry, Register, grids_of, grid_size, layout, layout_length, decode, some_held, laid_out}
use Rattle.calls.specs.Entries.{more, fewer, least_in, holds, holdings_in, place_in, insert, without, question9, question10, question16, client_questions}

pub record Outcome : Type 0 where
  pub number : ℕ
  pub place : ℕ
  pub bytes : List ℕ

abbrev pub placed : ℕ → ℕ → List ℕ → Outcome
placed number place bytes = record { number = number; place = place; bytes = bytes }

abbrev pub shape : ℕ → ℕ → ℕ → ℕ → Shape
shape m n top capacity = record { rows = m; columns = n; top = top; capacity = capacity }

abbrev pub refusal : ℕ → List ℕ → Outcome
refusal k b = record { number = k; place = 0; bytes = b }

unfoldable pub answered : ℕ → List ℕ → Outcome → Outcome
answered zero b o = o
answered (suc k) b o = refusal (suc k) b

unfoldable pub accepted : ℕ → Bool
accepted k = eqb k 0 || eqb k 101

unfoldable pub kept : List ℕ → List ℕ → List Entry → List Entry
kept r h l = elim (some_held h) [ true ↦ insert (record { grid = r; holdings = h }) (without r l) | false ↦ without r l ]

unfoldable pub question5 : List ℕ → Question
question5 b = record { number = 5; answer = laid_out b }

-- ---- the calls

unfoldable pub open_questions : Shape → List ℕ → List Question
open_questions s b =
    question1 s.rows ∷ question2 s.columns ∷ question3 s.top ∷ question4 s.capacity ∷ question6 (layout_length s) (b ∷ []) ∷ []

unfoldable pub opened : Shape → List ℕ → Outcome
opened s b = answered (first_no (open_questions s b)) b (record { number = 0; place = 0; bytes = layout (record { shape = s; entries = [] }) })

unfoldable pub enter_into : Register → ℕ → List ℕ → Outcome
enter_into x c r = record {
  number = elim (holds r (grids_of x.entries)) [ true ↦ 101 | false ↦ 0 ];
  place = place_in (grids_of x.entries) r;
  bytes = layout (record { shape = x.shape; entries = kept r (more c (holdings_in r x.entries)) x.entries });
}

unfoldable pub strike_from : Register → ℕ → List ℕ → Outcome
strike_from x c r = record {
  number = 0;
  place = place_in (grids_of x.entries) r;
  bytes = layout (record { shape = x.shape; entries = kept r (fewer c (holdings_in r x.entries)) x.entries });
}

unfoldable pub enter_questions : List ℕ → Register → ℕ → List ℕ → List ℕ → List Question
enter_questions b x c g r = question5 b ∷ (client_questions x.shape c g ++ (question9 x r ∷ question16 x c r ∷ []))

unfoldable pub strike_questions : List ℕ → Register → ℕ → List ℕ → List ℕ → List Question
strike_questions b x c g r = question5 b ∷ (client_questions x.shape c g ++ (question10 x c r ∷ []))

unfoldable pub count_questions : List ℕ → Register → List ℕ → List ℕ → List Question
count_questions b x low high = question5 b ∷ bounds_questions (grid_size x.shape) x.shape.top low high

unfoldable pub enter_register : List ℕ → Register → ℕ → List ℕ → List ℕ → Outcome
enter_register b x c g r = answered (first_no (enter_questions b x c g r)) b (enter_into x c r)

unfoldable pub strike_register : List ℕ → Register → ℕ → List ℕ → List ℕ → Outcome
strike_register b x c g r = answered (first_no (strike_questions b x c g r)) b (strike_from x c r)

unfoldable pub entered : List ℕ → ℕ → List ℕ → Outcome
entered b c g = enter_register b (decode b) c g (least_in (decode b).shape g)

unfoldable pub struck : List ℕ → ℕ → List ℕ → Outcome
struck b c g = strike_register b (decode b) c g (least_in (decode b).shape g)

unfoldable pub entries_in : Register → List ℕ → List ℕ → ℕ
entries_in x low high = length (select (in_bounds (grid_size x.shape) x.shape.top low high) (grids_of x.entries))

unfoldable pub count_register : List ℕ → Register → List ℕ → List ℕ → Outcome
count_register b x low high = answered (first_no (count_questions b x low high)) b (record { number = 0; place = entries_in x low high; bytes = b })

unfoldable pub counted : List ℕ → List ℕ → List ℕ → Outcome
counted b low high = count_register b (decode b) low high

-- ---- at a terminal

unfoldable pub terminal_enter_questions : List ℕ → Register → ℕ → List ℕ → List ℕ → List Question
terminal_enter_questions b x c g r = after_first (question14 x.shape.rows) (enter_questions b x c g r)

unfoldable pub terminal_enter_register : List ℕ → Register → ℕ → List ℕ → List ℕ → Outcome
terminal_enter_register b x c g r = answered (first_no (terminal_enter_questions b x c g r)) b (enter_into x c r)

unfoldable pub terminal_entered : List ℕ → ℕ → List ℕ → Outcome
terminal_entered b c g = terminal_enter_register b (decode b) c g (least_in (decode b).shape g)
