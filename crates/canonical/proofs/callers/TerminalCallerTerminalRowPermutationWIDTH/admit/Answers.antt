use Rattle.std.proofs.Common.{[], sym}
use Rattle.grids.specs.Questions.{first_no, question14}
use Rattle.grids.proofs.QuestionLaws.{first_no-pass, first_no-stop}
use Rattle.canonical.proofs.callers.TerminalCallerTerminalRowPermutationWIDTH.admit.Goals as goal

pub returns-then-fits_terminal : goal.returns-then-fits_terminal
unfolding first_no
returns-then-fits_terminal c = sym (first_no-pass (question14 c.args.m) [] (sym c.if-fits_terminal.ensures))

pub returns-else-fits_terminal : goal.returns-else-fits_terminal
unfolding question14
returns-else-fits_terminal c = sym (first_no-stop (question14 c.args.m) [] (sym c.if-fits_terminal.ensures))
