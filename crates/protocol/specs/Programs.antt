-- Programs that print what planbook prints, and the one function on slices that the program calls.
--
--   PlanbookProgram     ==  programs for planbook, from the bytes of the input to those of the output
--   Prints p            ==  p prints what planbook prints, on every input of bytes
--   output_limit         ==  room for all that is printed: a line of 19 bytes for each byte of an input, and the register
--   over x s            ==  the slice s with x written over its first bytes
--   Transcribed         ==  how many bytes of the output slice count, the register's slice and the output slice afterwards
--   transcribing count register out  ==  such an outcome
--   has_room register out   ==  the register's slice has 65,536 bytes or more, and the output slice 1,310,720 or more
--   transcribed input register out  ==  what the function does on all arguments: where a slice is too small it returns 0 and writes nothing
--   TranscribeProgram   ==  programs for that function
--   MeetsTranscribe f   ==  f does so, on all slices of bytes
--   printing f register out  ==  the program that calls f with these slices and writes the bytes that count
use Rattle.std.specs.Prelude.{◌≡◌, List, ◌++◌, Bool, true, false, ◌&&◌, ℕ, length, take, drop, leb}
use Rattle.grids.specs.Lent.{Bytes}
use Rattle.protocol.specs.Transcript.{byte_limit, printed_register, transcript}

abbrev pub PlanbookProgram : Type 0
PlanbookProgram = (input : List ℕ) → List ℕ

unfoldable pub Prints : PlanbookProgram → Type 0
Prints p = (input : List ℕ) → Bytes input → p input ≡ transcript input

abbrev pub output_limit : ℕ
output_limit = 1310720

unfoldable pub over : List ℕ → List ℕ → List ℕ
over x s = x ++ drop (length x) s

pub record Transcribed : Type 0 where
  pub count : ℕ
  pub register : List ℕ
  pub out : List ℕ

abbrev pub transcribing : ℕ → List ℕ → List ℕ → Transcribed
transcribing count register out = record { count = count; register = register; out = out }

unfoldable pub has_room : List ℕ → List ℕ → Bool
has_room register out = leb byte_limit (length register) && leb output_limit (length out)

unfoldable pub transcribed : List ℕ → List ℕ → List ℕ → Transcribed
transcribed input register out =
    elim (has_room register out) [
      | true ↦ record { count = length (transcript input); register = over (printed_register input) register; out = over (transcript input) out }
      | false ↦ record { count = 0; register = register; out = out }
    ]

abbrev pub TranscribeProgram : Type 0
TranscribeProgram = (input register out : List ℕ) → Transcribed

unfoldable pub MeetsTranscribe : TranscribeProgram → Type 0
MeetsTranscribe f = (input register out : List ℕ) → Bytes input → Bytes register → Bytes out → f input register out ≡ transcribed input register out

unfoldable pub printing : TranscribeProgram → List ℕ → List ℕ → PlanbookProgram
printing f register out input = take (f input register out).count (f input register out).out
