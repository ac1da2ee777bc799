-- Demand 3 of planbook: it prints what the calls of the command lines answer, and then the bytes that they leave. Command 3 is read as prune and then
-- count, so that this is also another reading of what planbook prints.
--
--   reply r os         ==  what is printed for a line read as r, where os are the outcomes of the calls from here on; nothing where its call has none
--   line_pruned s line, line_counts s line there  ==  what prune answers and leaves of the bounds that a line of command 3 states; how many of the grids lie in them
--   replies s ls os    ==  what is printed for the lines ls, where os are the outcomes of their calls, in order
--   input_calls input   ==  the calls of an input
--   printed_line k out  ==  line k of what is printed, the first being 0
--   CountLine s line there out  ==  what is printed for a line of command 3 where the least grids of the live classes are there: 0 and how many lie in the bounds as sent, or 102 and 0 where prune says 102, and then none does
--   PrintsCalls p i input o  ==  where the implementation i opens with the outcome o, p prints what i answers to the calls of the input, and the bytes that i leaves
--   PrintsDemand3 p    ==  the demand
use Rattle.std.specs.Prelude.{◌≡◌, List, [], ◌∷◌, ◌++◌, true, ℕ, suc, ◌*◌, length, take, drop}
use Rattle.permutations.specs.Lists.{select}
use Rattle.grids.specs.Lent.{Bytes}
use Rattle.bounds.specs.Bounds.{in_bounds}
use Rattle.bounds.specs.Prune.{Pruned}
use Rattle.layout.specs.Layout.{Shape, grid_size, layout_length}
use Rattle.calls.specs.Calls.{Outcome}
use Rattle.machine.specs.CallLists.{Call, Implementation, run, left}
use Rattle.machine.specs.Demand3.{live, ListsLive, AfterOpen, Demand3}
use Rattle.protocol.specs.Input.{further_lines, command_in, cells_in, is_laid}
use Rattle.protocol.specs.Commands.{lows, highs, report}
use Rattle.protocol.specs.Readings.{LineReading, says, calls, pruned_cells, read_line, made_by, made_in}
use Rattle.protocol.specs.Transcript.{shape_in, start_no}
use Rattle.protocol.specs.Programs.{PlanbookProgram}

unfoldable pub reply : LineReading → List Outcome → List ℕ
reply (says k x) os = report k x 0
reply (calls k c) [] = []
reply (calls k c) (o ∷ os) = report k o.number o.place

unfoldable pub replies : Shape → List (List ℕ) → List Outcome → List ℕ
replies s [] os = []
replies s (line ∷ ls) os = reply (read_line s line) os ++ replies s ls (drop (length (made_by (read_line s line))) os)

unfoldable pub input_calls : List ℕ → List Call
input_calls input = made_in (shape_in input) (further_lines input)

unfoldable pub printed_line : ℕ → List ℕ → List ℕ
printed_line k out = take 19 (drop (19 * k) out)

abbrev pub line_pruned : Shape → List ℕ → Pruned
line_pruned s line = pruned_cells s.rows s.columns s.top (cells_in (grid_size s) line)

abbrev pub line_counts : Shape → List ℕ → List (List ℕ) → ℕ
line_counts s line there =
    length (select (in_bounds (grid_size s) s.top (lows (grid_size s) (cells_in (grid_size s) line)) (highs (grid_size s) (cells_in (grid_size s) line))) there)

pub record CountLine (s : Shape) (line : List ℕ) (there : List (List ℕ)) (out : List ℕ) : Type 0 where
  pub some : (line_pruned s line).number ≡ 0 → out ≡ report 3 0 (line_counts s line there)
  pub none : (line_pruned s line).number ≡ 102 → (out ≡ report 3 102 0) × (line_counts s line there ≡ 0)

pub record PrintsCalls (p : PlanbookProgram) (i : Implementation) (input : List ℕ) (o : Outcome) : Type 0 where
  -- the open is not refused
  pub opened : o.number ≡ 0
  -- a line for each further line, and then the register
  pub prints : p input ≡ replies (shape_in input) (further_lines input) (run i o.bytes (input_calls input)) ++ left i o.bytes (input_calls input)
  -- the line printed for a command 3 goes by the classes that are live after the lines before it
  pub counts : (before : List (List ℕ)) (line : List ℕ) (after : List (List ℕ)) → further_lines input ≡ before ++ (line ∷ after) →
      is_laid (grid_size (shape_in input)) line ≡ true → command_in line ≡ 3 →
      (there : List (List ℕ)) → ListsLive (shape_in input).rows (shape_in input).columns (live i (shape_in input) o.bytes (made_in (shape_in input) before)) there →
      CountLine (shape_in input) line there (printed_line (length before) (p input))
  -- demand 3 of these calls: of what they answer, and of the register printed, its count, the counts of bounds, its holdings and its bytes
  pub after : AfterOpen i (shape_in input) o.bytes (input_calls input)

pub record PrintsDemand3 (p : PlanbookProgram) : Type 0 where
  -- where one of the first checks gets a no, its line and nothing else
  pub refuses : (input : List ℕ) → Bytes input → (k : ℕ) → start_no input ≡ suc k → p input ≡ report 0 (suc k) 0
  -- elsewhere, by any implementation of the calls that meets demand 3, opened with the numbers of line 1 on a slice of the exact length
  pub follows : (i : Implementation) → Demand3 i → (input : List ℕ) → Bytes input → start_no input ≡ 0 → (slice : List ℕ) → Bytes slice → length slice ≡ layout_length (shape_in input) →
      PrintsCalls p i input (i.opens (shape_in input) slice)
