-- The order of each call's questions, and the edges that documents 01 and 02 name, as one table: the questions of a call on some arguments,
-- and the number of the first no. Where the arguments have several faults, the first question that gets a no gives the number.
--
--   Edge      ==  the questions asked, and the number that they give
--   zeros k   ==  k cells of 0
--   fresh, short, full, most  ==  the bytes of an open register of 1 row, 1 column, top 1 and capacity 1; the same less the last byte; with the entry 0,
--                 which client 1 holds once; and with it held 999 times
--   roomy     ==  the bytes of one of capacity 2 with the entry 0, which client 1 holds 999 times
--   tall, tall_short     ==  the bytes of an open register of 6 rows, and the same less the last byte
--   five, eight         ==  the bytes of open registers of 5 and of 8 rows
--   edges     ==  the table
--   EdgesHold ==  the statement: every edge gives its number
--   asked_by b c     ==  the numbers of a call's questions
--   AskedInOrder    ==  the statement: the questions of open and of each call on a register, in order
--   NeverBoth       ==  the statement: where 9 gets a no, 16 gets a yes, so that no number shows which of them is asked first
--   Accepted  ==  of the numbers up to 103, those with which a call on a register is accepted
use Rattle.std.specs.Prelude.{◌≡◌, List, [], ◌∷◌, map, true, false, ℕ, replicate}
use Rattle.permutations.specs.Lists.{All, numbers, select}
use Rattle.grids.specs.Questions.{Question, first_no}
use Rattle.canonical.specs.Represent.{represent_questions, terminal_represent_questions}
use Rattle.canonical.specs.Same.{same_questions, terminal_same_questions}
use Rattle.bounds.specs.Prune.{prune_questions}
use Rattle.layout.specs.Layout.{Register}
use Rattle.calls.specs.Entries.{question9, question16}
use Rattle.calls.specs.Calls.{shape, open_questions, accepted}
use Rattle.machine.specs.CallLists.{Call, enter, strike, count_in, terminal_enter, questions_of}
use Rattle.worked_cases.specs.Text.{text}

pub record Edge : Type 0 where
  pub asked : List Question
  pub number : ℕ

abbrev pub zeros : ℕ → List ℕ
zeros k = replicate k 0

unfoldable pub fresh : List ℕ
fresh = text ("     1     1     1     1     0\n" ∷ "                           \n" ∷ [])

unfoldable pub short : List ℕ
short = text ("     1     1     1     1     0\n" ∷ "                           " ∷ [])

unfoldable pub full : List ℕ
full = text ("     1     1     1     1     1\n" ∷ "  0  1  0  0  0  0  0  0  0\n" ∷ [])

unfoldable pub most : List ℕ
most = text ("     1     1     1     1     1\n" ∷ "  0999  0  0  0  0  0  0  0\n" ∷ [])

unfoldable pub roomy : List ℕ
roomy = text ("     1     1     1     2     1\n" ∷ "  0999  0  0  0  0  0  0  0\n" ∷ "                           \n" ∷ [])

unfoldable pub tall : List ℕ
tall = text ("     6     1     1     1     0\n" ∷ "                                          \n" ∷ [])

unfoldable pub tall_short : List ℕ
tall_short = text ("     6     1     1     1     0\n" ∷ "                                          " ∷ [])

unfoldable pub five : List ℕ
five = text ("     5     1     0     1     0\n" ∷ "                                       \n" ∷ [])

unfoldable pub eight : List ℕ
eight = text ("     8     1     0     1     0\n" ∷ "                                                \n" ∷ [])

unfoldable pub edges : List Edge
edges =
    -- rows 0 and columns 0 give 1
    record { asked = represent_questions 0 0 0 [] []; number = 1 }
    -- rows 8, columns 16, top 15, capacity 500 pass
    ∷ record { asked = represent_questions 8 16 15 (zeros 128) (zeros 128); number = 0 }
    -- so they do to open, which asks for its slice next
    ∷ record { asked = open_questions (shape 8 16 15 500) []; number = 6 }
    ∷ record { asked = open_questions (shape 1 1 15 500) (zeros 14031); number = 0 }
    -- one more gives 1, 2, 3, 4
    ∷ record { asked = represent_questions 9 16 15 (zeros 144) (zeros 144); number = 1 }
    ∷ record { asked = represent_questions 8 17 15 (zeros 136) (zeros 136); number = 2 }
    ∷ record { asked = represent_questions 8 16 16 (zeros 128) (zeros 128); number = 3 }
    ∷ record { asked = open_questions (shape 1 1 0 501) []; number = 4 }
    -- a register one byte short gives 5, to open 6
    ∷ record { asked = questions_of short (enter 1 (zeros 1)); number = 5 }
    ∷ record { asked = open_questions (shape 1 1 1 1) short; number = 6 }
    -- a grid one byte too long gives 6
    ∷ record { asked = represent_questions 1 1 0 (zeros 2) (zeros 1); number = 6 }
    -- a cell equal to top passes, top + 1 gives 7
    ∷ record { asked = represent_questions 1 1 2 (2 ∷ []) (zeros 1); number = 0 }
    ∷ record { asked = represent_questions 1 1 2 (3 ∷ []) (zeros 1); number = 7 }
    -- represent: 1, 2, 3, 6, 7; the output slice is asked for its length and not for its cells
    ∷ record { asked = represent_questions 0 0 16 (17 ∷ []) []; number = 1 }
    ∷ record { asked = represent_questions 1 0 16 (17 ∷ []) []; number = 2 }
    ∷ record { asked = represent_questions 1 1 16 (17 ∷ []) []; number = 3 }
    ∷ record { asked = represent_questions 1 1 15 (17 ∷ []) []; number = 6 }
    ∷ record { asked = represent_questions 1 1 15 (17 ∷ []) (17 ∷ []); number = 7 }
    ∷ record { asked = represent_questions 1 1 15 (15 ∷ []) (17 ∷ []); number = 0 }
    -- same: 1, 2, 3, 6, 7, and 6 and 7 of both grids
    ∷ record { asked = same_questions 0 0 16 (17 ∷ []) []; number = 1 }
    ∷ record { asked = same_questions 1 0 16 (17 ∷ []) []; number = 2 }
    ∷ record { asked = same_questions 1 1 16 (17 ∷ []) []; number = 3 }
    ∷ record { asked = same_questions 1 1 15 (17 ∷ []) []; number = 6 }
    ∷ record { asked = same_questions 1 1 15 [] (17 ∷ []); number = 6 }
    ∷ record { asked = same_questions 1 1 15 (17 ∷ []) (15 ∷ []); number = 7 }
    ∷ record { asked = same_questions 1 1 15 (15 ∷ []) (17 ∷ []); number = 7 }
    ∷ record { asked = same_questions 1 1 15 (15 ∷ []) (15 ∷ []); number = 0 }
    -- prune: 1, 2, 3, 6, 7, 8, and 7 of all bounds before 8 of any
    ∷ record { asked = prune_questions 0 0 16 (17 ∷ 1 ∷ []) (0 ∷ []); number = 1 }
    ∷ record { asked = prune_questions 1 0 16 (17 ∷ 1 ∷ []) (0 ∷ []); number = 2 }
    ∷ record { asked = prune_questions 1 2 16 (17 ∷ 1 ∷ []) (0 ∷ []); number = 3 }
    ∷ record { asked = prune_questions 1 2 15 (17 ∷ 1 ∷ []) (0 ∷ []); number = 6 }
    ∷ record { asked = prune_questions 1 2 15 (1 ∷ 1 ∷ []) (0 ∷ 17 ∷ []); number = 7 }
    ∷ record { asked = prune_questions 1 2 15 (1 ∷ 1 ∷ []) (1 ∷ 0 ∷ []); number = 8 }
    ∷ record { asked = prune_questions 1 2 15 (1 ∷ 1 ∷ []) (1 ∷ 1 ∷ []); number = 0 }
    -- open: 1, 2, 3, 4, 6
    ∷ record { asked = open_questions (shape 0 0 16 0) []; number = 1 }
    ∷ record { asked = open_questions (shape 1 0 16 0) []; number = 2 }
    ∷ record { asked = open_questions (shape 1 1 16 0) []; number = 3 }
    ∷ record { asked = open_questions (shape 1 1 1 0) []; number = 4 }
    ∷ record { asked = open_questions (shape 1 1 1 1) []; number = 6 }
    ∷ record { asked = open_questions (shape 1 1 1 1) fresh; number = 0 }
    -- enter: 5, 6, 7, 15, 9, 16
    ∷ record { asked = questions_of short (enter 9 (2 ∷ 2 ∷ [])); number = 5 }
    ∷ record { asked = questions_of full (enter 9 (2 ∷ 2 ∷ [])); number = 6 }
    ∷ record { asked = questions_of full (enter 9 (2 ∷ [])); number = 7 }
    ∷ record { asked = questions_of full (enter 0 (1 ∷ [])); number = 15 }
    ∷ record { asked = questions_of full (enter 9 (1 ∷ [])); number = 15 }
    ∷ record { asked = questions_of full (enter 257 (1 ∷ [])); number = 15 }
    ∷ record { asked = questions_of full (enter 1 (1 ∷ [])); number = 9 }
    ∷ record { asked = questions_of full (enter 8 (1 ∷ [])); number = 9 }
    ∷ record { asked = questions_of most (enter 0 (0 ∷ [])); number = 15 }
    ∷ record { asked = questions_of most (enter 9 (0 ∷ [])); number = 15 }
    ∷ record { asked = questions_of most (enter 257 (0 ∷ [])); number = 15 }
    ∷ record { asked = questions_of most (enter 65537 (0 ∷ [])); number = 15 }
    ∷ record { asked = questions_of most (enter 1 (1 ∷ [])); number = 9 }
    ∷ record { asked = questions_of most (enter 1 (0 ∷ [])); number = 16 }
    ∷ record { asked = questions_of most (enter 2 (0 ∷ [])); number = 0 }
    ∷ record { asked = questions_of roomy (enter 1 (0 ∷ [])); number = 16 }
    ∷ record { asked = questions_of roomy (enter 1 (1 ∷ [])); number = 0 }
    ∷ record { asked = questions_of full (enter 1 (0 ∷ [])); number = 0 }
    ∷ record { asked = questions_of full (enter 8 (0 ∷ [])); number = 0 }
    ∷ record { asked = questions_of fresh (enter 1 (1 ∷ [])); number = 0 }
    ∷ record { asked = questions_of fresh (enter 8 (1 ∷ [])); number = 0 }
    -- strike: 5, 6, 7, 15, 10
    ∷ record { asked = questions_of short (strike 9 (2 ∷ 2 ∷ [])); number = 5 }
    ∷ record { asked = questions_of full (strike 9 (2 ∷ 2 ∷ [])); number = 6 }
    ∷ record { asked = questions_of full (strike 9 (2 ∷ [])); number = 7 }
    ∷ record { asked = questions_of full (strike 0 (1 ∷ [])); number = 15 }
    ∷ record { asked = questions_of full (strike 9 (1 ∷ [])); number = 15 }
    ∷ record { asked = questions_of full (strike 257 (1 ∷ [])); number = 15 }
    ∷ record { asked = questions_of full (strike 0 (0 ∷ [])); number = 15 }
    ∷ record { asked = questions_of full (strike 9 (0 ∷ [])); number = 15 }
    ∷ record { asked = questions_of full (strike 257 (0 ∷ [])); number = 15 }
    ∷ record { asked = questions_of full (strike 65537 (0 ∷ [])); number = 15 }
    ∷ record { asked = questions_of full (strike 1 (1 ∷ [])); number = 10 }
    ∷ record { asked = questions_of full (strike 2 (0 ∷ [])); number = 10 }
    ∷ record { asked = questions_of full (strike 8 (0 ∷ [])); number = 10 }
    ∷ record { asked = questions_of full (strike 1 (0 ∷ [])); number = 0 }
    ∷ record { asked = questions_of most (strike 1 (0 ∷ [])); number = 0 }
    ∷ record { asked = questions_of fresh (strike 1 (0 ∷ [])); number = 10 }
    -- count: 5, 6, 7, 8
    ∷ record { asked = questions_of short (count_in (2 ∷ 2 ∷ []) (0 ∷ [])); number = 5 }
    ∷ record { asked = questions_of fresh (count_in (2 ∷ 2 ∷ []) (0 ∷ [])); number = 6 }
    ∷ record { asked = questions_of fresh (count_in (0 ∷ []) (2 ∷ 2 ∷ [])); number = 6 }
    ∷ record { asked = questions_of fresh (count_in (2 ∷ []) (0 ∷ [])); number = 7 }
    ∷ record { asked = questions_of fresh (count_in (1 ∷ []) (0 ∷ [])); number = 8 }
    ∷ record { asked = questions_of fresh (count_in (0 ∷ []) (0 ∷ [])); number = 0 }
    -- a terminal's represent: 1, 14, 2, 3, 6, 7; rows 0 and 9 are 1, and 6 rows with 17 columns is 14
    ∷ record { asked = terminal_represent_questions 0 0 16 (17 ∷ []) []; number = 1 }
    ∷ record { asked = terminal_represent_questions 9 17 16 (17 ∷ []) []; number = 1 }
    ∷ record { asked = terminal_represent_questions 6 17 16 (17 ∷ []) []; number = 14 }
    ∷ record { asked = terminal_represent_questions 7 0 16 (17 ∷ []) []; number = 14 }
    ∷ record { asked = terminal_represent_questions 8 1 0 (zeros 8) (zeros 8); number = 14 }
    ∷ record { asked = terminal_represent_questions 5 17 16 (17 ∷ []) []; number = 2 }
    ∷ record { asked = terminal_represent_questions 5 16 16 (17 ∷ []) []; number = 3 }
    ∷ record { asked = terminal_represent_questions 5 16 15 (17 ∷ []) []; number = 6 }
    ∷ record { asked = terminal_represent_questions 1 1 15 (17 ∷ []) (17 ∷ []); number = 7 }
    ∷ record { asked = terminal_represent_questions 5 16 15 (zeros 80) (zeros 80); number = 0 }
    -- a terminal's same: 1, 14, 2, 3, 6, 7
    ∷ record { asked = terminal_same_questions 0 0 16 (17 ∷ []) []; number = 1 }
    ∷ record { asked = terminal_same_questions 9 17 16 (17 ∷ []) []; number = 1 }
    ∷ record { asked = terminal_same_questions 6 17 16 (17 ∷ []) []; number = 14 }
    ∷ record { asked = terminal_same_questions 8 1 0 (zeros 8) (zeros 8); number = 14 }
    ∷ record { asked = terminal_same_questions 5 17 16 (17 ∷ []) []; number = 2 }
    ∷ record { asked = terminal_same_questions 5 16 16 (17 ∷ []) []; number = 3 }
    ∷ record { asked = terminal_same_questions 5 16 15 (zeros 80) (17 ∷ []); number = 6 }
    ∷ record { asked = terminal_same_questions 1 1 15 (15 ∷ []) (17 ∷ []); number = 7 }
    ∷ record { asked = terminal_same_questions 5 16 15 (zeros 80) (zeros 80); number = 0 }
    -- a terminal's enter: 5, 14, 6, 7, 15, 9, 16
    ∷ record { asked = questions_of tall_short (terminal_enter 9 (2 ∷ 2 ∷ [])); number = 5 }
    ∷ record { asked = questions_of tall (terminal_enter 9 (2 ∷ 2 ∷ [])); number = 14 }
    ∷ record { asked = questions_of tall (terminal_enter 9 (zeros 6)); number = 14 }
    ∷ record { asked = questions_of tall (terminal_enter 1 (zeros 6)); number = 14 }
    ∷ record { asked = questions_of eight (terminal_enter 1 (zeros 8)); number = 14 }
    ∷ record { asked = questions_of five (terminal_enter 1 (zeros 5)); number = 0 }
    ∷ record { asked = questions_of short (terminal_enter 9 (2 ∷ 2 ∷ [])); number = 5 }
    ∷ record { asked = questions_of full (terminal_enter 9 (2 ∷ 2 ∷ [])); number = 6 }
    ∷ record { asked = questions_of full (terminal_enter 9 (2 ∷ [])); number = 7 }
    ∷ record { asked = questions_of full (terminal_enter 0 (1 ∷ [])); number = 15 }
    ∷ record { asked = questions_of full (terminal_enter 9 (1 ∷ [])); number = 15 }
    ∷ record { asked = questions_of full (terminal_enter 257 (1 ∷ [])); number = 15 }
    ∷ record { asked = questions_of full (terminal_enter 1 (1 ∷ [])); number = 9 }
    ∷ record { asked = questions_of full (terminal_enter 8 (1 ∷ [])); number = 9 }
    ∷ record { asked = questions_of most (terminal_enter 0 (0 ∷ [])); number = 15 }
    ∷ record { asked = questions_of most (terminal_enter 9 (0 ∷ [])); number = 15 }
    ∷ record { asked = questions_of most (terminal_enter 257 (0 ∷ [])); number = 15 }
    ∷ record { asked = questions_of most (terminal_enter 65537 (0 ∷ [])); number = 15 }
    ∷ record { asked = questions_of most (terminal_enter 1 (1 ∷ [])); number = 9 }
    ∷ record { asked = questions_of most (terminal_enter 1 (0 ∷ [])); number = 16 }
    ∷ record { asked = questions_of most (terminal_enter 2 (0 ∷ [])); number = 0 }
    ∷ record { asked = questions_of roomy (terminal_enter 1 (0 ∷ [])); number = 16 }
    ∷ record { asked = questions_of roomy (terminal_enter 1 (1 ∷ [])); number = 0 }
    ∷ record { asked = questions_of full (terminal_enter 1 (0 ∷ [])); number = 0 }
    ∷ record { asked = questions_of full (terminal_enter 8 (0 ∷ [])); number = 0 }
    ∷ record { asked = questions_of fresh (terminal_enter 1 (1 ∷ [])); number = 0 }
    ∷ record { asked = questions_of fresh (terminal_enter 8 (1 ∷ [])); number = 0 }
    ∷ []

unfoldable pub EdgesHold : Type 0
EdgesHold = All (λ e. first_no e.asked ≡ e.number) edges

unfoldable pub Accepted : Type 0
Accepted = select accepted (numbers 104) ≡ 0 ∷ 101 ∷ []

abbrev pub asked_by : List ℕ → Call → List ℕ
asked_by b c = map (λ (q : Question). q.number) (questions_of b c)

pub record AskedInOrder : Type 0 where
  pub opens : map (λ (q : Question). q.number) (open_questions (shape 1 1 1 1) fresh) ≡ 1 ∷ 2 ∷ 3 ∷ 4 ∷ 6 ∷ []
  pub enters : asked_by fresh (enter 1 (0 ∷ [])) ≡ 5 ∷ 6 ∷ 7 ∷ 15 ∷ 9 ∷ 16 ∷ []
  pub strikes : asked_by fresh (strike 1 (0 ∷ [])) ≡ 5 ∷ 6 ∷ 7 ∷ 15 ∷ 10 ∷ []
  pub counts : asked_by fresh (count_in (0 ∷ []) (1 ∷ [])) ≡ 5 ∷ 6 ∷ 7 ∷ 8 ∷ []
  pub terminal_enters : asked_by fresh (terminal_enter 1 (0 ∷ [])) ≡ 5 ∷ 14 ∷ 6 ∷ 7 ∷ 15 ∷ 9 ∷ 16 ∷ []

unfoldable pub NeverBoth : Type 0
NeverBoth = (x : Register) (c : ℕ) (r : List ℕ) → (question9 x r).answer ≡ false → (question16 x c r).answer ≡ true
