-- `check_input` meets its contract: each return has passed the checks before it, and gives the number of the one that got a no.
use native.Mathlib.Omega.{arith}
use Rattle.refusals.proofs.NumberLaws.{no-some}
use Rattle.calls.specs.Calls.{shape}
use Rattle.layout.specs.Layout.{InLimits}
use Rattle.register.proofs.OpenSteps.{numbers-within, limits-size}
use Rattle.transcript.proofs.StartSteps.{LineRead, long-refused, short-refused, line_refused, numbers-refused, length-refused, passes-all, shape-read, length-read, fault-handed}
use Rattle.transcript.proofs.starts.check_input.Goals as goal
use Rattle.transcript.proofs.starts.check_input.Goals.{After-read_field-capacity, In_ok-ask_numbers, then-input-lt-LENGTH-via-then-input-lt-LENGTH, then-input-lt-LENGTH-via-else-input-lt-LENGTH+then-not-line_laid}

pub returns-then-input-gt-MOST_BYTES : goal.returns-then-input-gt-MOST_BYTES
returns-then-input-gt-MOST_BYTES c = long-refused _ c.if-input-gt-MOST_BYTES.true

pub returns-then-input-lt-LENGTH : goal.returns-then-input-lt-LENGTH
returns-then-input-lt-LENGTH c =
    elim c.then-input-lt-LENGTH.branch [
      | then-input-lt-LENGTH-via-then-input-lt-LENGTH w ↦ short-refused c.args.input.now (omega arith) w.if-input-lt-LENGTH.true
      | then-input-lt-LENGTH-via-else-input-lt-LENGTH+then-not-line_laid w ↦ line_refused c.args.input.now (omega arith) w.line_laid.ensures w.if-not-line_laid.true
    ]

-- what is known where the numbers of line 1 are read
reads : (c : After-read_field-capacity) → LineRead c.args.input.now c.read_field-rows.result c.read_field-columns.result c.read_field-top.result c.read_field-capacity.result
reads c = record {
  short = omega arith;
  laid = c.line_laid.ensures.0 c.if-not-line_laid.false;
  rows-read = c.read_field-rows.ensures.0;
  columns-read = c.read_field-columns.ensures.0;
  top_read = c.read_field-top.ensures.0;
  capacity-read = c.read_field-capacity.ensures.0;
}

pub returns-in_err-ask_numbers : goal.returns-in_err-ask_numbers
returns-in_err-ask_numbers c =
    let e = c.in_err-ask_numbers in
    fault-handed _ _ _ c.from_residual.ensures (numbers-refused (reads ((goal.at.returns-in_err-ask_numbers c).After-read_field-capacity)) e.ensures (no-some e.was))

-- past questions 1 to 4
limits : (c : In_ok-ask_numbers) → InLimits (shape c.read_field-rows.result c.read_field-columns.result c.read_field-top.result c.read_field-capacity.result)
limits c = numbers-within _ c.in_ok-ask_numbers.ensures

pub line_start-length-requires : goal.line_start-length-requires
line_start-length-requires c = let l = limits ((goal.at.line_start-length-requires c).In_ok-ask_numbers) in (limits-size _ l, l.capacity-limits.1)

pub returns-then-length-gt-MOST_BYTES : goal.returns-then-length-gt-MOST_BYTES
returns-then-length-gt-MOST_BYTES c =
    length-refused (reads ((goal.at.returns-then-length-gt-MOST_BYTES c).After-read_field-capacity)) c.in_ok-ask_numbers.ensures c.line_start-length.ensures.0 c.if-length-gt-MOST_BYTES.true

pub invariant_of-result : goal.invariant_of-result
invariant_of-result c = record { few = limits-size _ (limits ((goal.at.invariant_of-result c).In_ok-ask_numbers)) }

pub returns : goal.returns
returns c =
    let r = reads ((goal.at.returns c).After-read_field-capacity) in
    let z = c.in_ok-ask_numbers.ensures in
    let q = c.line_start-length.ensures.0 in
    record { passes = passes-all r z q c.if-length-gt-MOST_BYTES.false; shape_is = shape-read r z q; length-is = length-read r z q }
