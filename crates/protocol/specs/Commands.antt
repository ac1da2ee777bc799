-- What is printed for command lines, by the plain machine.
--
--   lows size c, highs size c  ==  the bounds that cells hold in turn: low and high of the first cell, of the second, ..
--   count_of s l low high  ==  command 3 past its questions: no grid in the bounds has allperm, 102; else the classes whose least grid lies in the bounds as sent
--   bounds_step s l low high  ==  command 3
--   command_step s l k client c  ==  the command k with the client and the cells c: 1 enter, 2 strike, else command 3; a line that is laid has no other command than 3 then
--   report k x p      ==  a printed line: the command k, the number x and the place or count p, each 6 wide, and a line feed
--   LineAnswer            ==  the printed line, and the machine's set afterwards
--   answer_step k t    ==  what is printed under the command k for a step of the machine
--   malformed l       ==  what is printed for a line that is not laid so: command 0, number 12; the set stays as it is
--   answer s l line   ==  what is printed for a command line, by a machine with the numbers s and the set l
use Rattle.std.specs.Prelude.{List, [], ◌∷◌, ◌++◌, true, false, ℕ, ◌+◌, ◌*◌, get_or, eqb}
use Rattle.permutations.specs.Lists.{tabulate}
use Rattle.grids.specs.Questions.{first_no}
use Rattle.bounds.specs.Kept.{obeyed}
use Rattle.bounds.specs.Allperm.{allperm}
use Rattle.bounds.specs.Prune.{bounds_questions}
use Rattle.layout.specs.Layout.{Shape, Entry, grid_size, fields}
use Rattle.machine.specs.CallLists.{enter, strike}
use Rattle.machine.specs.Machine.{Step, step_unless, count_classes, step}
use Rattle.protocol.specs.Input.{command_in, client_in, cells_in, is_laid}

unfoldable pub lows : ℕ → List ℕ → List ℕ
lows size c = tabulate 0 size (λ i. get_or c (2 * i) 0)

unfoldable pub highs : ℕ → List ℕ → List ℕ
highs size c = tabulate 0 size (λ i. get_or c (2 * i + 1) 0)

unfoldable pub count_of : Shape → List Entry → List ℕ → List ℕ → Step
count_of s l low high =
    elim (obeyed (allperm s.rows s.columns) (grid_size s) s.top low high) [
      | true ↦ count_classes s l low high
      | false ↦ record { number = 102; place = 0; next = l }
    ]

unfoldable pub bounds_step : Shape → List Entry → List ℕ → List ℕ → Step
bounds_step s l low high = step_unless (first_no (bounds_questions (grid_size s) s.top low high)) l (count_of s l low high)

unfoldable pub command_step : Shape → List Entry → ℕ → ℕ → List ℕ → Step
command_step s l k client c =
    elim (eqb k 1) [
      | true ↦ step s l (enter client c)
      | false ↦ elim (eqb k 2) [ true ↦ step s l (strike client c) | false ↦ bounds_step s l (lows (grid_size s) c) (highs (grid_size s) c) ]
    ]

unfoldable pub report : ℕ → ℕ → ℕ → List ℕ
report k x p = fields 6 (k ∷ x ∷ p ∷ []) ++ (10 ∷ [])

pub record LineAnswer : Type 0 where
  pub printed : List ℕ
  pub next : List Entry

unfoldable pub answer_step : ℕ → Step → LineAnswer
answer_step k t = record { printed = report k t.number t.place; next = t.next }

unfoldable pub malformed : List Entry → LineAnswer
malformed l = record { printed = report 0 12 0; next = l }

unfoldable pub answer : Shape → List Entry → List ℕ → LineAnswer
answer s l line =
    elim (is_laid (grid_size s) line) [
      | true ↦ answer_step (command_in line) (command_step s l (command_in line) (client_in line) (cells_in (grid_size s) line))
      | false ↦ malformed l
    ]
