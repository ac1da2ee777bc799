-- `transcribe` meets its contract: a slice is too small, a check gets a no, or the run is made.
use mathlib.Core.Path.{sym, ◌∙◌}
use native.Mathlib.Omega.{arith}
use lib.Seq.{length-take-le}
use Rattle.transcript.proofs.RunSteps.{fault-some, small-register, small-out, start-ended, start_fits, start-ready, run-done}
use Rattle.transcript.proofs.run.transcribe.Goals as goal
use Rattle.transcript.proofs.run.transcribe.Goals.{then-register-lt-MOST_BYTES-via-then-register-lt-MOST_BYTES, then-register-lt-MOST_BYTES-via-else-register-lt-MOST_BYTES+then-out-lt-MOST_PRINTED}

pub returns-then-register-lt-MOST_BYTES : goal.returns-then-register-lt-MOST_BYTES
returns-then-register-lt-MOST_BYTES c =
    let a = c.args in
    elim c.then-register-lt-MOST_BYTES.branch [
      | then-register-lt-MOST_BYTES-via-then-register-lt-MOST_BYTES w ↦ small-register a.input.now a.register.now a.out.now w.if-register-lt-MOST_BYTES.true
      | then-register-lt-MOST_BYTES-via-else-register-lt-MOST_BYTES+then-out-lt-MOST_PRINTED w ↦ small-out a.input.now a.register.now a.out.now w.if-register-lt-MOST_BYTES.false w.if-out-lt-MOST_PRINTED.true
    ]

pub slice_bounds-run-end : goal.slice_bounds-run-end
slice_bounds-run-end c = let a = c.args in start_fits a.input.now a.register.now a.out.now (omega arith) (omega arith) c.in-Ok.ensures

pub slice_bounds-run-end-in-Ok : goal.slice_bounds-run-end-in-Ok
slice_bounds-run-end-in-Ok c =
    let a = c.args in
    sym (length-take-le c.in-Ok.start.length a.register.now (start_fits a.input.now a.register.now a.out.now (omega arith) (omega arith) c.in-Ok.ensures))

pub run-requires : goal.run-requires
run-requires c = let a = c.args in start-ready a.input.now a.register.now a.out.now (omega arith) (omega arith) c.in-Ok.ensures

pub returns-in-Ok : goal.returns-in-Ok
returns-in-Ok c = let a = c.args in run-done a.input.now a.register.now a.out.now (omega arith) (omega arith) c.in-Ok.ensures c.run.ensures

pub returns-in-Err : goal.returns-in-Err
returns-in-Err c =
    let a = c.args in
    let x = c.refusing.ensures in
    start-ended a.input.now a.register.now a.out.now (omega arith) (omega arith) (c.into.ensures ∙ c.in-Err.ensures) (λ z. fault-some c.in-Err.fault (sym c.into.ensures ∙ z)) (rw (x.0, x.1, x.2) at c.write_report.ensures)
