-- What the checks of the input find. Between functions: no answer of a call is defined here.
--
--   fault_number f   ==  document 01's number for the first no
--   Started input s  ==  every check gets a yes, and s has the numbers of line 1 and the length of the register
use Rattle.std.specs.Prelude.{◌≡◌, List, ℕ}
use Rattle.calls.specs.Calls.{shape}
use Rattle.layout.specs.Layout.{layout_length}
use Rattle.protocol.specs.Transcript.{shape_in, start_no}
use Rattle.refusals.specs.Numbers.{refusal_number}
use Rattle.transcript.specs.declared.starts.Fault.{Fault}
use Rattle.transcript.specs.declared.starts.Fault.TheVariants.{LongInput, Malformed, Refused, LongRegister}
use Rattle.transcript.specs.declared.start.Start.{Start}

abbrev pub fault_number : Fault → ℕ
fault_number LongInput = 11
fault_number Malformed = 12
fault_number (Refused x) = refusal_number x
fault_number LongRegister = 13

pub record Started (input : List ℕ) (s : Start) : Type 0 where
  pub passes : start_no input ≡ 0
  pub shape_is : shape s.rows s.columns s.top s.capacity ≡ shape_in input
  pub length-is : s.length ≡ layout_length (shape_in input)
