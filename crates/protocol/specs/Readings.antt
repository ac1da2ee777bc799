-- Command lines as calls: which call of the register a line makes, once prune has answered where the command is 3.
--
--   LineReading          ==  no call: the command and the number that are printed, with 0; or a call, and the command that its answer is printed under
--   pruned_cells m n top c  ==  what prune answers and leaves of the bounds that the cells c hold in turn
--   after_prune k p       ==  after prune answered and left p: its number, unless it is 0: then a count of the bounds that it left
--   read_command m n top k client c  ==  the command k with the client and the cells c, on a register of m rows, n columns and this top
--   read_by m n top line, read_line s line  ==  a line, by these numbers or by those of s: 12 under command 0 where it is not laid
--   made_by r, made_in s ls  ==  the call that a line makes, if any; the calls of lines, in order
--   command_of r          ==  the command that is printed
--   answered_by i b r     ==  what is answered to a line by an implementation on the register b, and the bytes that are left
use mathlib.Core.List.{List, [], ◌∷◌, flat_map}
use Rattle.std.specs.Prelude.{true, false, ℕ, zero, suc, ◌*◌, eqb}
use Rattle.bounds.specs.Prune.{Pruned, pruned}
use Rattle.layout.specs.Layout.{Shape}
use Rattle.calls.specs.Calls.{Outcome, placed}
use Rattle.machine.specs.CallLists.{Call, enter, strike, count_in, Implementation, called}
use Rattle.protocol.specs.Input.{command_in, client_in, cells_in, is_laid}
use Rattle.protocol.specs.Commands.{lows, highs}

pub data LineReading : Type 0 where
  says : ℕ → ℕ → LineReading
  calls : ℕ → Call → LineReading

abbrev pub pruned_cells : ℕ → ℕ → ℕ → List ℕ → Pruned
pruned_cells m n top c = pruned m n top (lows (m * n) c) (highs (m * n) c)

unfoldable pub after_prune : ℕ → Pruned → LineReading
after_prune k p =
    elim p.number [
      | zero ↦ calls k (count_in p.low p.high)
      | suc j ↦ says k (suc j)
    ]

unfoldable pub read_command : ℕ → ℕ → ℕ → ℕ → ℕ → List ℕ → LineReading
read_command m n top k client c =
    elim (eqb k 1) [
      | true ↦ calls k (enter client c)
      | false ↦ elim (eqb k 2) [ true ↦ calls k (strike client c) | false ↦ after_prune k (pruned_cells m n top c) ]
    ]

unfoldable pub read_by : ℕ → ℕ → ℕ → List ℕ → LineReading
read_by m n top line =
    elim (is_laid (m * n) line) [
      | true ↦ read_command m n top (command_in line) (client_in line) (cells_in (m * n) line)
      | false ↦ says 0 12
    ]

abbrev pub read_line : Shape → List ℕ → LineReading
read_line s line = read_by s.rows s.columns s.top line

unfoldable pub made_by : LineReading → List Call
made_by (says k x) = []
made_by (calls k c) = c ∷ []

unfoldable pub made_in : Shape → List (List ℕ) → List Call
made_in s ls = flat_map (λ line. made_by (read_line s line)) ls

unfoldable pub command_of : LineReading → ℕ
command_of (says k x) = k
command_of (calls k c) = k

unfoldable pub answered_by : Implementation → List ℕ → LineReading → Outcome
answered_by i b (says k x) = placed x 0 b
answered_by i b (calls k c) = called i b c
