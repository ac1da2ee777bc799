-- A run whose checks all get a yes. Between functions: no answer of a call is defined here.
--
--   Ready input start b out  ==  they do, start has the numbers of line 1, the register's slice has its exact length, and the output slice room enough
--   Ran input b out out' r   ==  the first r bytes of the output slice are what planbook prints, and b is the register that it prints last
use Rattle.std.specs.Prelude.{◌≡◌, List, ℕ, ◌≤◌, length}
use Rattle.calls.specs.Calls.{shape}
use Rattle.layout.specs.Layout.{layout_length}
use Rattle.protocol.specs.Transcript.{shape_in, start_no, printed_register, transcript}
use Rattle.protocol.specs.Programs.{output_limit, over}
use Rattle.transcript.specs.declared.start.Start.{Start}

pub record Ready (input : List ℕ) (start : Start) (b out : List ℕ) : Type 0 where
  pub passes : start_no input ≡ 0
  pub shape_is : shape start.rows start.columns start.top start.capacity ≡ shape_in input
  pub sized : length b ≡ layout_length (shape_in input)
  pub room : output_limit ≤ length out

pub record Ran (input b out out' : List ℕ) (r : ℕ) : Type 0 where
  pub register : b ≡ printed_register input
  pub count : r ≡ length (transcript input)
  pub printed : out' ≡ over (transcript input) out
