use Rattle.std.proofs.Common.{[], sym, arith}
use Rattle.grids.specs.Questions.{first_no}
use Rattle.grids.proofs.QuestionLaws.{first_no-pass, first_no-stop, yes-range}
use Rattle.grids.proofs.QuestionSteps.{range-no}
use Rattle.calls.specs.Entries.{question15}
use Rattle.register.proofs.asking.ask_client.Goals as goal

pub returns-then-client-lt1 : goal.returns-then-client-lt1
unfolding question15
returns-then-client-lt1 c = sym (first_no-stop (question15 c.args.client) [] (range-no 1 8 c.args.client (λ h. omega arith)))

pub returns : goal.returns
unfolding question15 first_no
returns c = sym (first_no-pass (question15 c.args.client) [] (yes-range 1 8 c.args.client (omega arith, omega arith)))
