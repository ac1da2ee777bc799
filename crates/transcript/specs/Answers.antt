-- What is printed for command lines, and what it leaves in the register. Between functions: no answer of a call is defined here.
--
--   Answers m n top line b b' r  ==  r are the numbers printed for a command line on the register b, which it leaves as b'
--   Runs input m n top b out  ==  every check of the input gets a yes, these are numbers of line 1, b is the register opened by it, and the output slice is large enough
--   Answered input b out out' r  ==  the first r bytes of the output slice are what is printed for the lines from the second on, and b is the machine's register after them
use Rattle.std.specs.Prelude.{◌≡◌, List, [], ◌++◌, ℕ, ◌≤◌, length, drop}
use Rattle.machine.specs.CallLists.{register_calls}
use Rattle.machine.specs.Machine.{shown}
use Rattle.calls.specs.Calls.{placed}
use Rattle.protocol.specs.Input.{further_lines}
use Rattle.protocol.specs.Readings.{read_by, command_of, answered_by}
use Rattle.protocol.specs.Transcript.{shape_in, start_no, reports, set_after}
use Rattle.protocol.specs.Programs.{output_limit}
use Rattle.transcript.specs.Commands.{printed_command}
use Rattle.transcript.specs.declared.reports.Report.{Report}

pub record Answers (m n top : ℕ) (line b b' : List ℕ) (r : Report) : Type 0 where
  pub command-is : printed_command r.command ≡ command_of (read_by m n top line)
  pub answers : placed r.number r.place b' ≡ answered_by register_calls b (read_by m n top line)

pub record Runs (input : List ℕ) (m n top : ℕ) (b out : List ℕ) : Type 0 where
  pub passes : start_no input ≡ 0
  pub rows_are : m ≡ (shape_in input).rows
  pub columns-are : n ≡ (shape_in input).columns
  pub top-is : top ≡ (shape_in input).top
  pub opened : b ≡ shown (shape_in input) []
  pub room : output_limit ≤ length out

pub record Answered (input b out out' : List ℕ) (r : ℕ) : Type 0 where
  pub register : b ≡ shown (shape_in input) (set_after (shape_in input) [] (further_lines input))
  pub count : r ≡ length (reports (shape_in input) [] (further_lines input))
  pub printed : out' ≡ reports (shape_in input) [] (further_lines input) ++ drop r out
