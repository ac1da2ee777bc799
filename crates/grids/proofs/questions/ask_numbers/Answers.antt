use Rattle.std.proofs.Common.{arith}
use Rattle.refusals.proofs.NumberLaws.{handed-on, no-some, yes-is}
use Rattle.grids.proofs.QuestionSteps.{numbers-limits, capacity-no, numbers-yes}
use Rattle.grids.proofs.questions.ask_numbers.Goals as goal

pub returns-in_err-ask_limits : goal.returns-in_err-ask_limits
returns-in_err-ask_limits c =
    let e = c.in_err-ask_limits in
    handed-on _ _ c.from_residual.ensures (numbers-limits _ _ _ _ e.ensures (no-some e.was))

pub returns-then-capacity-lt1 : goal.returns-then-capacity-lt1
returns-then-capacity-lt1 c = capacity-no _ _ _ _ (yes-is c.in_ok-ask_limits.was c.ask_limits.ensures) (λ h. omega arith)

pub returns : goal.returns
returns c = numbers-yes _ _ _ _ (yes-is c.in_ok-ask_limits.was c.ask_limits.ensures) (omega arith, omega arith)
