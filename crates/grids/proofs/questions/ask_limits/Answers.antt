use Rattle.std.proofs.Common.{arith}
use Rattle.grids.proofs.QuestionSteps.{rows-no, columns-no, top-no, limits-yes}
use Rattle.grids.proofs.questions.ask_limits.Goals as goal

pub returns-then-m-lt1 : goal.returns-then-m-lt1
returns-then-m-lt1 c = rows-no _ _ _ (λ h. omega arith)

pub returns-then-n-lt1 : goal.returns-then-n-lt1
returns-then-n-lt1 c = columns-no _ _ _ (omega arith, omega arith) (λ h. omega arith)

pub returns-then-top-gt15 : goal.returns-then-top-gt15
returns-then-top-gt15 c = top-no _ _ _ (omega arith, omega arith) (omega arith, omega arith) (omega arith)

pub returns : goal.returns
returns c = limits-yes _ _ _ (record { rows-limits = (omega arith, omega arith); column-limits = (omega arith, omega arith); top-limit = omega arith })
