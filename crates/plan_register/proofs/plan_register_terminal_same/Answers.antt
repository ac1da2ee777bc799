use Rattle.std.proofs.Common.{rules}
use Rattle.canonical.specs.Same.{terminal_same_questions}
use Rattle.plan_register.proofs.plan_register_terminal_same.Goals as goal

pub returns : goal.returns
unfolding terminal_same_questions
returns c = search rules
