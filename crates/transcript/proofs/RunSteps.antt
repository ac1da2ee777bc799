-- A whole run, from what the code finds to what planbook prints.
--
--   ready-limits     ==  the numbers of line 1 are within the limits
--   ready-runs       ==  the register is opened, and the command lines can be answered
--   ran-small, ran-room  ==  the register fits behind what was printed for them
--   ran              ==  with the register copied there, the output slice begins with what planbook prints
--   fault-some       ==  a fault has a number
--   small-register, small-out  ==  a slice is too small: nothing is done
--   start-ended      ==  a check gets a no, and its line is written
--   start_fits, start-ready  ==  every check gets a yes: the register fits its slice, and the run can begin
--   run-done         ==  what the run leaves is what the whole is to leave
use Rattle.std.proofs.Common.{Err}
use mathlib.Core.Path.{◌≡◌, refl, sym, ap, ◌∙◌}
use mathlib.Core.List.{List, [], ◌++◌, append_assoc}
use mathlib.Core.Bool.{false}
use Prim.Native.Nat.{ℕ, zero, suc, ◌+◌, ◌-◌, ◌≤◌, ◌<◌}
use native.Mathlib.Omega.{arith}
use lib.ListN.{length, take, drop, length-append, length-drop}
use lib.Seq.{length-take-le, take_at, drop_at, drop-drop}
use borrow.Author.Tests.{le-leb, lt-leb}
use borrow.Rule.Slice.PartMut.{put_mid}
use Rattle.layout.specs.Layout.{Shape, layout_length, InLimits}
use Rattle.calls.specs.Calls.{Outcome, opened, placed, shape}
use Rattle.machine.specs.Machine.{shown}
use Rattle.machine.proofs.Demand3Laws.{open-answers}
use Rattle.protocol.specs.Input.{further_lines}
use Rattle.protocol.specs.Commands.{report}
use Rattle.protocol.specs.Transcript.{byte_limit, shape_in, start_no, reports, printed_register, transcript}
use Rattle.protocol.specs.Programs.{output_limit, over, transcribing, has_room, transcribed}
use Rattle.protocol.proofs.ReportLaws.{length-report}
use Rattle.protocol.proofs.StartLaws.{start-pass}
use Rattle.protocol.proofs.RunLaws.{start-refused, register-shown, length-register, transcript-ends, transcript-fits}
use Rattle.protocol.proofs.SliceLaws.{has-room}
use Rattle.transcript.specs.declared.start.Start.{Start}
use Rattle.transcript.specs.Answers.{Runs, Answered}
use Rattle.refusals.proofs.NumberLaws.{no-some}
use Rattle.transcript.specs.declared.starts.Fault.{Fault}
use Rattle.transcript.specs.declared.starts.Fault.TheVariants.{LongInput, Malformed, Refused, LongRegister}
use Rattle.transcript.specs.Starts.{fault_number, Started}
use Rattle.transcript.specs.Runs.{Ready, Ran}

-- ---- the run after the checks

module _ {input : List ℕ} {start : Start} {b out : List ℕ} (k : Ready input start b out) where
  pub ready-limits : InLimits (shape start.rows start.columns start.top start.capacity)
  ready-limits = rw k.shape_is ((start-pass input).0 k.passes).limits

  pub ready-runs : {number place : ℕ} {b' : List ℕ} → placed number place b' ≡ opened (shape start.rows start.columns start.top start.capacity) b → Runs input start.rows start.columns start.top b' out
  ready-runs e = record {
    passes = k.passes;
    rows_are = ap (λ (s : Shape). s.rows) k.shape_is;
    columns-are = ap (λ (s : Shape). s.columns) k.shape_is;
    top-is = ap (λ (s : Shape). s.top) k.shape_is;
    opened = ap (λ (o : Outcome). o.bytes) (e ∙ open-answers _ b ready-limits (k.sized ∙ ap layout_length (sym k.shape_is))) ∙ ap (λ (s : Shape). shown s []) k.shape_is;
    room = k.room;
  }

module _ {input b out o : List ℕ} {n : ℕ} (passes : start_no input ≡ 0) (room : output_limit ≤ length out) (a : Answered input b out o n) where
  abbrev lines-printed : List ℕ
  lines-printed = reports (shape_in input) [] (further_lines input)

  last : b ≡ printed_register input
  last = a.register ∙ sym (register-shown input passes)

  whole : transcript input ≡ lines-printed ++ b
  whole = transcript-ends input passes ∙ ap (λ (x : List ℕ). lines-printed ++ x) (sym last)

  counted : n + length b ≡ length (transcript input)
  counted = sym (ap length whole ∙ length-append lines-printed b ∙ ap (λ (i : ℕ). i + length b) (sym a.count))

  kept : length o ≡ length out
  kept = ap length a.printed ∙ length-append lines-printed (drop n out) ∙ omega (arith, a.count, length-drop n out, counted, transcript-fits input)

  pub ran-small : n + length b ≤ output_limit
  ran-small = omega (arith, counted, transcript-fits input)

  pub ran-room : n + length b ≤ length o
  ran-room = omega (arith, ran-small, kept)

  pub ran : (ys : List ℕ) → ys ≡ b → Ran input b out (put_mid n (n + length b - n) o ys) (n + length b)
  unfolding over
  ran ys y = record { register = last; count = counted; printed = printed }
    where
      fits : n ≤ length o
      fits = omega (arith, ran-room)

      front : take n o ≡ lines-printed
      front = ap (take n) a.printed ∙ take_at lines-printed (drop n out) n (sym a.count)

      behind : drop n o ≡ drop n out
      behind = ap (drop n) a.printed ∙ drop_at lines-printed (drop n out) n (sym a.count)

      printed : put_mid n (n + length b - n) o ys ≡ transcript input ++ drop (length (transcript input)) out
      printed =
          let m : n + length b - n ≡ length b = omega arith in
          rw (y, m, behind, front, drop-drop (length b) n out, counted) (sym (append_assoc lines-printed b (drop (length (transcript input)) out)))
          ∙ ap (λ (x : List ℕ). x ++ drop (length (transcript input)) out) (sym whole)

-- ---- the whole

pub fault-some : (f : Fault) → fault_number f ≡ 0 → ⊥
fault-some LongInput e = omega arith
fault-some Malformed e = omega arith
fault-some (Refused x) e = no-some {A = ℕ} {a = Err x} refl e
fault-some LongRegister e = omega arith

module _ (input register out : List ℕ) where
  none : has_room register out ≡ false → transcribing 0 register out ≡ transcribed input register out
  unfolding transcribed
  none e = rw (e, transcribed) refl

  pub small-register : length register < byte_limit → transcribing 0 register out ≡ transcribed input register out
  unfolding has_room
  small-register h = none (rw (lt-leb byte_limit (length register) h) refl)

  pub small-out : byte_limit ≤ length register → length out < output_limit → transcribing 0 register out ≡ transcribed input register out
  unfolding has_room
  small-out k h = none (rw (le-leb byte_limit (length register) k, lt-leb output_limit (length out) h) refl)

  module _ (k : byte_limit ≤ length register) (h : output_limit ≤ length out) where
    done : {count : ℕ} {register' out' : List ℕ} → count ≡ length (transcript input) → register' ≡ over (printed_register input) register → out' ≡ over (transcript input) out → transcribing count register' out' ≡ transcribed input register out
    unfolding transcribed
    done c r o = (λ i. transcribing (c i) (r i) (o i)) ∙ rw (has-room register out k h, transcribed) refl

    ended : (j : ℕ) → start_no input ≡ suc j → {out' : List ℕ} → out' ≡ report 0 (suc j) 0 ++ drop 19 out → transcribing 19 register out' ≡ transcribed input register out
    unfolding over
    ended j e d =
        let p = start-refused input j e in
        let z = length-report 0 (suc j) 0 in
        done (sym (ap length p.0 ∙ z)) (rw p.1 refl) (d ∙ rw (p.0, z) refl)

    pub start-ended : {number : ℕ} → number ≡ start_no input → (number ≡ 0 → ⊥) → {out' : List ℕ} → out' ≡ report 0 number 0 ++ drop 19 out → transcribing 19 register out' ≡ transcribed input register out
    start-ended {number} q n {out'} e = go number refl
      where
        go : (j : ℕ) → number ≡ j → transcribing 19 register out' ≡ transcribed input register out
        go zero z = absurd (n z)
        go (suc j) z = ended j (sym q ∙ z) (rw z at e)

    module _ {start : Start} (s : Started input start) where
      pub start_fits : start.length ≤ length register
      start_fits = omega (arith, s.length-is, ((start-pass input).0 s.passes).register-short)

      pub start-ready : Ready input start (take start.length register) out
      start-ready = record {
        passes = s.passes;
        shape_is = s.shape_is;
        sized = length-take-le start.length register start_fits ∙ s.length-is;
        room = h;
      }

      pub run-done : {r : ℕ} {ys out' : List ℕ} → Ran input ys out out' r → transcribing r (ys ++ drop start.length register) out' ≡ transcribed input register out
      unfolding over
      run-done {ys = ys} d =
          let e : start.length ≡ length (printed_register input) = omega (arith, s.length-is, length-register input s.passes) in
          done d.count (rw (e, d.register) refl) d.printed
