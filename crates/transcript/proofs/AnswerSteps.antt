-- The command lines of an input, answered one after another.
--
--   Line x           ==  what is printed for a line on the machine's bytes and left of them is the answer x, and its set is again one reached by calls
--   line-answered    ==  so it is of every line
--   Answering input out b o at n  ==  the lines before `at` are answered: b is the machine's register, and what was printed is written over the first n bytes of out, as o
--   answering-none, answering-next, answering-all  ==  the loop's start, one turn, and its end
--   answering-room   ==  there is room for one more line
--   answering-kept  ==  the register keeps its length
use mathlib.Core.Path.{◌≡◌, refl, sym, ap, ◌∙◌}
use mathlib.Core.List.{List, [], ◌++◌, append_assoc, append-nil}
use Prim.Native.Nat.{ℕ, ◌+◌, ◌-◌, ◌*◌, ◌≤◌, ◌<◌}
use native.Mathlib.Omega.{arith}
use lib.ListN.{length, take, drop, length-append, length-drop, drop_of_length-le}
use lib.Seq.{take_at, drop_at, drop-drop}
use borrow.Rule.Slice.PartMut.{mid_of, put_mid}
use Rattle.layout.specs.Layout.{Shape, Entry}
use Rattle.calls.specs.Calls.{Outcome}
use Rattle.machine.specs.Machine.{shown, outcome}
use Rattle.machine.proofs.MachineLaws.{Good, empty-good}
use Rattle.calls.proofs.ValidMoves.{tail-part, put-tail}
use Rattle.lines.proofs.FillLaws.{Filled, fill_none}
use Rattle.protocol.specs.Input.{lines, further_lines}
use Rattle.protocol.specs.Commands.{report, LineAnswer, answer_step, answer}
use Rattle.protocol.specs.Readings.{read_line}
use Rattle.protocol.specs.Transcript.{shape_in, reports, set_after}
use Rattle.protocol.proofs.ReportLaws.{length-report}
use Rattle.protocol.proofs.ReadingLaws.{step-of-good, answered-same, reading-answer}
use Rattle.protocol.proofs.StartLaws.{start-pass}
use Rattle.protocol.proofs.RunLaws.{length-shown}
use Rattle.transcript.specs.declared.reports.Report.{Report}
use Rattle.transcript.specs.Commands.{printed_command}
use Rattle.transcript.specs.Lines.{NextLine}
use Rattle.transcript.specs.Answers.{Answers, Runs, Answered}
use Rattle.transcript.proofs.StartSteps.{rest_lines}

-- ---- one line

module _ (s : Shape) (l : List Entry) (g : Good s l) (line : List ℕ) {b b' : List ℕ} {r : Report} (e : b ≡ shown s l) (a : Answers s.rows s.columns s.top line b b' r) where
  -- the report's bytes, what is left of the register, and that the next set is good
  record Line (x : LineAnswer) : Type 0 where
    printed : report (printed_command r.command) r.number r.place ≡ x.printed
    left : b' ≡ shown s x.next
    stays : Good s x.next

  line-answered : Line (answer s l line)
  unfolding answer_step outcome
  line-answered =
      let d = rw e at a.answers ∙ answered-same s l g (read_line s line) in
      rw (reading-answer s l g line)
      (record {
        printed = rw (a.command-is, ap (λ (o : Outcome). o.number) d, ap (λ (o : Outcome). o.place) d) refl;
        left = ap (λ (o : Outcome). o.bytes) d;
        stays = step-of-good s l g (read_line s line);
      })

-- ---- all lines

pub record Answering (input out b o : List ℕ) (at n : ℕ) : Type 0 where
  pub set : List Entry
  pub good : Good (shape_in input) set
  pub register : b ≡ shown (shape_in input) set
  pub text : List ℕ
  pub written : Filled text out n o
  pub within : at ≤ length input
  pub short : n ≤ 19 * at
  pub printed : reports (shape_in input) [] (further_lines input) ≡ text ++ reports (shape_in input) set (lines (drop at input))
  pub after : set_after (shape_in input) [] (further_lines input) ≡ set_after (shape_in input) set (lines (drop at input))

module _ {input : List ℕ} {rows columns top : ℕ} {b₀ out : List ℕ} (k : Runs input rows columns top b₀ out) where
  pub answering-none : Answering input out b₀ out 25 0
  answering-none =
      let r = rest_lines input k.passes in
      record {
        set = [];
        good = empty-good (shape_in input) ((start-pass input).0 k.passes).limits;
        register = k.opened;
        text = [];
        written = fill_none out;
        within = r.0;
        short = omega arith;
        printed = rw r.1 refl;
        after = rw r.1 refl;
      }

  module _ {b o : List ℕ} {at n : ℕ} (t : Answering input out b o at n) where
    -- how much there is to print at most
    pub answering-room : at < length input → n + 19 ≤ length o
    answering-room h = omega (arith, t.short, ((start-pass input).0 k.passes).input-short, k.room, t.written.size)

    pub answering-kept : length b ≡ length b₀
    answering-kept =
        let i = ((start-pass input).0 k.passes).limits in
        ap length t.register ∙ length-shown (shape_in input) t.set t.good ∙ sym (ap length k.opened ∙ length-shown (shape_in input) [] (empty-good (shape_in input) i))

    pub answering-all : length input ≤ at → Answered input b out o n
    unfolding reports set_after lines
    answering-all h =
        let d : drop at input ≡ [] = drop_of_length-le input {i = at} h in
        let p : reports (shape_in input) [] (further_lines input) ≡ t.text = rw (d, append-nil) at t.printed in
        record {
          register = t.register ∙ ap (shown (shape_in input)) (sym (rw d at t.after));
          count = sym (ap length p ∙ t.written.front);
          printed = t.written.bytes ∙ ap (λ (x : List ℕ). x ++ drop n out) (sym p);
        }

    module _ (h : at < length input) {end : ℕ} (line : NextLine input at end) {b' : List ℕ} {r : Report} (a : Answers rows columns top (take (end - at) (drop at input)) b b' r) where
      abbrev said : List ℕ
      said = report (printed_command r.command) r.number r.place

      abbrev one : List ℕ
      one = take (end - at) (drop at input)

      answered : Line (shape_in input) t.set t.good one t.register (rw (k.rows_are, k.columns-are, k.top-is) at a) (answer (shape_in input) t.set one)
      answered = line-answered (shape_in input) t.set t.good one t.register (rw (k.rows_are, k.columns-are, k.top-is) at a)

      pub answering-next : (ys : List ℕ) → ys ≡ report (printed_command r.command) r.number r.place ++ drop 19 (mid_of n (length o - n) o) → Answering input out b' (put_mid n (length o - n) o ys) end (n + 19)
      unfolding reports set_after
      answering-next ys y = record {
        set = (answer (shape_in input) t.set one).next;
        good = answered.stays;
        register = answered.left;
        text = t.text ++ said;
        written = record { size = size-kept; front = front; within = omega (arith, answering-room h, t.written.size); bytes = bytes };
        within = line.within;
        short = omega (arith, t.short, line.further);
        printed = t.printed ∙ rw (line.line, reports, ← answered.printed) (sym (append_assoc t.text said _));
        after = t.after ∙ rw (line.line, set_after) refl;
      }
        where
          fits : n ≤ length o
          fits = omega (arith, answering-room h)

          behind : drop n o ≡ drop n out
          behind = rw t.written.bytes (drop_at t.text (drop n out) n t.written.front)

          bytes : put_mid n (length o - n) o ys ≡ (t.text ++ said) ++ drop (n + 19) out
          bytes =
              put-tail o n fits ys
              ∙ rw (y, tail-part o n fits, behind, drop-drop 19 n out)
              (ap (λ (x : List ℕ). x ++ (said ++ drop (n + 19) out)) (ap (take n) t.written.bytes ∙ take_at t.text (drop n out) n t.written.front) ∙ sym (append_assoc t.text said (drop (n + 19) out)))

          front : length (t.text ++ said) ≡ n + 19
          front = length-append t.text said ∙ omega (arith, t.written.front, length-report (printed_command r.command) r.number r.place)

          size-kept : length (put_mid n (length o - n) o ys) ≡ length out
          size-kept = ap length bytes ∙ length-append (t.text ++ said) (drop (n + 19) out) ∙ omega (arith, front, length-drop (n + 19) out, answering-room h, t.written.size)
