-- Laws of the function on slices that planbook calls.
--
--   has-room           ==  slices that are large enough
--   transcribed-prints, transcribes-prints  ==  with room enough, the bytes that count are what planbook prints; so a program that writes them prints it
--   transcribed-rest   ==  the bytes behind them are kept
--   transcribed-fits, count-within  ==  no more bytes count than the output slice has
--   count-prints       ==  transcribed-prints, of what a call returned and left
use mathlib.Core.Path.{◌≡◌, refl, ap, ◌∙◌}
use mathlib.Core.List.{List}
use mathlib.Core.Bool.{Bool, true, false}
use Prim.Native.Nat.{ℕ, ◌≤◌}
use native.Mathlib.Omega.{arith}
use lib.ListN.{length, take, drop}
use lib.Seq.{take_at, drop_at}
use lib.Dec.{leb}
use borrow.Author.Tests.{leb-true, le-leb}
use Rattle.permutations.proofs.BoolLaws.{and_yes, yes_and}
use Rattle.grids.specs.Lent.{Bytes}
use Rattle.protocol.specs.Transcript.{byte_limit, transcript}
use Rattle.protocol.specs.Programs.{Prints, output_limit, over, Transcribed, transcribing, has_room, transcribed, TranscribeProgram, MeetsTranscribe, printing}
use Rattle.protocol.proofs.RunLaws.{transcript-fits}

-- ---- the function on slices

pub has-room : (register out : List ℕ) → byte_limit ≤ length register → output_limit ≤ length out → has_room register out ≡ true
unfolding has_room
has-room register out h k =
    yes_and (leb byte_limit (length register)) (leb output_limit (length out)) (le-leb byte_limit (length register) h) (le-leb output_limit (length out) k)

module _ (input register out : List ℕ) where
  pub transcribed-prints : has_room register out ≡ true → take (transcribed input register out).count (transcribed input register out).out ≡ transcript input
  unfolding transcribed over
  transcribed-prints e = rw (e, transcribed) (take_at (transcript input) (drop (length (transcript input)) out) (length (transcript input)) refl)

  pub transcribed-rest : has_room register out ≡ true → drop (length (transcript input)) (transcribed input register out).out ≡ drop (length (transcript input)) out
  unfolding transcribed over
  transcribed-rest e = rw (e, transcribed) (drop_at (transcript input) (drop (length (transcript input)) out) (length (transcript input)) refl)

  pub transcribed-none : has_room register out ≡ false → (transcribed input register out).count ≡ 0
  unfolding transcribed
  transcribed-none e = rw (e, transcribed)

  pub transcribed-fits : (transcribed input register out).count ≤ length out
  unfolding transcribed has_room
  transcribed-fits = go (has_room register out) refl
    where
      go : (t : Bool) → has_room register out ≡ t → (transcribed input register out).count ≤ length out
      go true e =
          let r = and_yes (leb byte_limit (length register)) (leb output_limit (length out)) e in
          rw (e, transcribed) (omega (arith, transcript-fits input, leb-true output_limit (length out) r.1))
      go false e = rw (e, transcribed) (omega arith)

  module _ {r : ℕ} {register' out' : List ℕ} (e : transcribing r register' out' ≡ transcribed input register out) where
    pub count-within : length out' ≡ length out → r ≤ length out'
    count-within l = omega (arith, ap (λ (t : Transcribed). t.count) e, transcribed-fits)

    pub count-prints : has_room register out ≡ true → take r out' ≡ transcript input
    count-prints h = ap (λ (t : Transcribed). take t.count t.out) e ∙ transcribed-prints h

pub transcribes-prints : (f : TranscribeProgram) → MeetsTranscribe f → (register out : List ℕ) → Bytes register → Bytes out → has_room register out ≡ true → Prints (printing f register out)
unfolding MeetsTranscribe Prints printing
transcribes-prints f h register out x y e input z = rw (h input register out z x y) (transcribed-prints input register out e)
