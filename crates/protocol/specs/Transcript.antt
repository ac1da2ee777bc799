-- What planbook prints, by the plain machine of demand 3.
--
--   byte_limit            ==  the most bytes of the input, and of the register
--   shape_in input        ==  the numbers that line 1 states
--   question11 input     ==  is the input at most 65,536 bytes?
--   question12 input     ==  is line 1 laid as it should be?
--   question13 s         ==  is the register at most 65,536 bytes?
--   start_questions input ==  what is asked before any command: 11, 12, 1 to 4, 13
--   start_no input        ==  the first no; 0 if each gets a yes
--   reports s l ls       ==  what is printed for the lines ls, by a machine with the numbers s and the set l
--   set_after s l ls      ==  the machine's set after them
--   register_from k input ==  the register printed last, after the first no k: none, unless k is 0
--   printed_from k input  ==  what is printed: after a no one line, with command 0; else a line for each further line, and then the register
--   printed_register input  ==  the register that planbook prints last
--   transcript input     ==  what planbook prints
use Rattle.std.specs.Prelude.{List, [], ◌∷◌, ◌++◌, ℕ, zero, suc, length, leb}
use Rattle.grids.specs.Order.{equal}
use Rattle.grids.specs.Questions.{Question, first_no, question1, question2, question3, question4}
use Rattle.layout.specs.Layout.{Shape, Entry, layout_length, decode_shape}
use Rattle.machine.specs.Machine.{shown}
use Rattle.protocol.specs.Input.{first_line, further_lines, shape_line}
use Rattle.protocol.specs.Commands.{report, answer}

abbrev pub byte_limit : ℕ
byte_limit = 65536

unfoldable pub shape_in : List ℕ → Shape
shape_in input = decode_shape (first_line input)

-- ---- the checks

unfoldable pub question11 : List ℕ → Question
question11 input = record { number = 11; answer = leb (length input) byte_limit }

unfoldable pub question12 : List ℕ → Question
question12 input = record { number = 12; answer = equal (shape_line (shape_in input)) (first_line input) }

unfoldable pub question13 : Shape → Question
question13 s = record { number = 13; answer = leb (layout_length s) byte_limit }

unfoldable pub start_questions : List ℕ → List Question
start_questions input =
    question11 input
    ∷ question12 input
    ∷ question1 (shape_in input).rows
    ∷ question2 (shape_in input).columns
    ∷ question3 (shape_in input).top
    ∷ question4 (shape_in input).capacity
    ∷ question13 (shape_in input)
    ∷ []

unfoldable pub start_no : List ℕ → ℕ
start_no input = first_no (start_questions input)

-- ---- the lines

unfoldable pub reports : Shape → List Entry → List (List ℕ) → List ℕ
reports s l [] = []
reports s l (line ∷ ls) = (answer s l line).printed ++ reports s (answer s l line).next ls

unfoldable pub set_after : Shape → List Entry → List (List ℕ) → List Entry
set_after s l [] = l
set_after s l (line ∷ ls) = set_after s (answer s l line).next ls

-- ---- the whole run

unfoldable pub register_from : ℕ → List ℕ → List ℕ
register_from zero input = shown (shape_in input) (set_after (shape_in input) [] (further_lines input))
register_from (suc k) input = []

unfoldable pub printed_from : ℕ → List ℕ → List ℕ
printed_from zero input = reports (shape_in input) [] (further_lines input) ++ register_from zero input
printed_from (suc k) input = report 0 (suc k) 0

unfoldable pub printed_register : List ℕ → List ℕ
printed_register input = register_from (start_no input) input

unfoldable pub transcript : List ℕ → List ℕ
transcript input = printed_from (start_no input) input
