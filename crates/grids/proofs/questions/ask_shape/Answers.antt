use Rattle.std.proofs.Common.{arith}
use Rattle.refusals.proofs.NumberLaws.{handed-on, no-some}
use Rattle.grids.proofs.QuestionLaws.{size_fits}
use Rattle.grids.proofs.QuestionSteps.{passed, shape-limits, lengths-no, shape-yes}
use Rattle.grids.proofs.questions.ask_shape.Goals as goal
use Rattle.grids.proofs.questions.ask_shape.Goals.{then-first-m-via-then-first-m, then-first-m-via-else-first-m+then-second-m}

pub returns-in_err-ask_limits : goal.returns-in_err-ask_limits
returns-in_err-ask_limits c =
    let e = c.in_err-ask_limits in
    handed-on _ _ c.from_residual.ensures (shape-limits _ _ _ _ _ e.ensures (no-some e.was))

pub overflow_mul-m : goal.overflow_mul-m
overflow_mul-m c =
    let l = passed _ _ _ c.in_ok-ask_limits.was c.ask_limits.ensures in
    omega (arith, size_fits _ _ l.rows-limits.1 l.column-limits.1)

pub returns-then-first-m : goal.returns-then-first-m
returns-then-first-m c =
    lengths-no _ _ _ _ _ (passed _ _ _ c.in_ok-ask_limits.was c.ask_limits.ensures) λ h.
    elim c.then-first-m.branch [
      | then-first-m-via-then-first-m w ↦ w.if-first-m.true h.0
      | then-first-m-via-else-first-m+then-second-m w ↦ w.if-second-m.true h.1
    ]

pub returns : goal.returns
returns c = shape-yes _ _ _ _ _ (passed _ _ _ c.in_ok-ask_limits.was c.ask_limits.ensures) c.if-first-m.false c.if-second-m.false
