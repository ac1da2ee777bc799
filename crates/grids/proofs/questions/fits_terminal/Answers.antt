use Rattle.std.proofs.Common.{sym, ◌∙◌, arith}
use borrow.Author.Tests.{lt-ltb}
use Rattle.grids.proofs.TerminalLaws.{few-rows, rows_above}
use Rattle.grids.proofs.questions.fits_terminal.Goals as goal

pub returns-then-m-lt6 : goal.returns-then-m-lt6
returns-then-m-lt6 c = lt-ltb c.args.m 6 c.if-m-lt6.true ∙ sym (few-rows c.args.m (omega arith))

pub returns-else-m-lt6 : goal.returns-else-m-lt6
returns-else-m-lt6 c = rows_above _ (omega arith)
