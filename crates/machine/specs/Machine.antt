-- The plain machine of demand 3. It is fed the calls' arguments, the register excepted, and none of their answers.
-- Its four numbers are a parameter; its state is a set of classes with their holdings: the least grid of each, once, in no particular order.
--
--   sorted l              ==  the entries of l, their grids ascending
--   shown s l             ==  the machine's bytes
--   Step                  ==  the number, the place or count, and the set afterwards
--   step_unless k l t      ==  the first no, with which nothing changes, unless it is 0: then t
--   adding r h l          ==  the set with the class of the least grid r and its holdings h, which take the place of those that it had
--   removing r l          ==  the set without the class
--   put r h l             ==  the set with the holdings h for the class: where all are 0 it is removed
--   entering, striking    ==  the set after client c's enter of it, after its strike
--   as_register s l        ==  the numbers and the set, as the questions of a register take them
--   enter_class s l c r    ==  client c's enter of the class: 9 where it is not in the set and there are capacity classes, 16 where this client holds 999; else 101 if it was in the set, 0 if not
--   strike_class s l c r   ==  client c's strike of it: 10 where this client holds none, else 0
--   count_classes s l low high  ==  count: the classes whose least grid lies in the bounds
--   step s l c            ==  one call; a terminal's enter is an enter with question 14 asked first
--   outcome s t           ==  a step's answer, and the bytes that the machine then shows
--   outcomes s l calls    ==  what the machine answers to each call and the bytes that it then shows
use Rattle.std.specs.Prelude.{List, [], ◌∷◌, true, false, ℕ, zero, suc, length}
use Rattle.permutations.specs.Lists.{select}
use Rattle.grids.specs.Questions.{first_no, question14}
use Rattle.bounds.specs.Bounds.{in_bounds}
use Rattle.bounds.specs.Prune.{bounds_questions}
use Rattle.layout.specs.Layout.{Shape, Entry, Register, grids_of, grid_size, layout, some_held}
use Rattle.calls.specs.Entries.{more, fewer, least_in, holds, holdings_in, place_in, insert, without, question9, question10, question16, client_questions}
use Rattle.calls.specs.Calls.{Outcome}
use Rattle.machine.specs.CallLists.{Call, enter, strike, count_in, terminal_enter}

unfoldable pub sorted : List Entry → List Entry
sorted [] = []
sorted (e ∷ l) = insert e (sorted l)

unfoldable pub shown : Shape → List Entry → List ℕ
shown s l = layout (record { shape = s; entries = sorted l })

pub record Step : Type 0 where
  pub number : ℕ
  pub place : ℕ
  pub next : List Entry

unfoldable pub step_unless : ℕ → List Entry → Step → Step
step_unless zero l t = t
step_unless (suc k) l t = record { number = suc k; place = 0; next = l }

abbrev pub adding : List ℕ → List ℕ → List Entry → List Entry
adding r h l = record { grid = r; holdings = h } ∷ without r l

abbrev pub removing : List ℕ → List Entry → List Entry
removing r l = without r l

unfoldable pub put : List ℕ → List ℕ → List Entry → List Entry
put r h l = elim (some_held h) [ true ↦ adding r h l | false ↦ removing r l ]

abbrev pub entering : List Entry → ℕ → List ℕ → List Entry
entering l c r = put r (more c (holdings_in r l)) l

abbrev pub striking : List Entry → ℕ → List ℕ → List Entry
striking l c r = put r (fewer c (holdings_in r l)) l

abbrev pub as_register : Shape → List Entry → Register
as_register s l = record { shape = s; entries = l }

unfoldable pub enter_class : Shape → List Entry → ℕ → List ℕ → Step
enter_class s l c r =
    step_unless (first_no (question9 (as_register s l) r ∷ question16 (as_register s l) c r ∷ [])) l (record {
      number = elim (holds r (grids_of l)) [ true ↦ 101 | false ↦ 0 ];
      place = place_in (grids_of l) r;
      next = entering l c r;
    })

unfoldable pub strike_class : Shape → List Entry → ℕ → List ℕ → Step
strike_class s l c r =
    step_unless (first_no (question10 (as_register s l) c r ∷ [])) l (record {
      number = 0;
      place = place_in (grids_of l) r;
      next = striking l c r;
    })

unfoldable pub count_classes : Shape → List Entry → List ℕ → List ℕ → Step
count_classes s l low high = record { number = 0; place = length (select (in_bounds (grid_size s) s.top low high) (grids_of l)); next = l }

unfoldable pub step : Shape → List Entry → Call → Step
step s l (enter c g) = step_unless (first_no (client_questions s c g)) l (enter_class s l c (least_in s g))
step s l (strike c g) = step_unless (first_no (client_questions s c g)) l (strike_class s l c (least_in s g))
step s l (count_in low high) = step_unless (first_no (bounds_questions (grid_size s) s.top low high)) l (count_classes s l low high)
step s l (terminal_enter c g) = step_unless (first_no (question14 s.rows ∷ client_questions s c g)) l (enter_class s l c (least_in s g))

unfoldable pub outcome : Shape → Step → Outcome
outcome s t = record { number = t.number; place = t.place; bytes = shown s t.next }

unfoldable pub outcomes : Shape → List Entry → List Call → List Outcome
outcomes s l [] = []
outcomes s l (c ∷ calls) = outcome s (step s l c) ∷ outcomes s (step s l c).next calls
