use Rattle.std.proofs.Common.{rules}
use Rattle.canonical.specs.Represent.{terminal_represent_questions}
use Rattle.plan_register.proofs.plan_register_terminal_represent.Goals as goal

pub returns : goal.returns
unfolding terminal_represent_questions
returns c = search rules
