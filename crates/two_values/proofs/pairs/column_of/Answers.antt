-- `column_of` meets its contract.
use Rattle.two_values.proofs.PairSteps.{word-some}
use Rattle.two_values.proofs.pairs.column_of.Goals as goal

pub returns-then-zeros-n : goal.returns-then-zeros-n
returns-then-zeros-n c = (c.if-zeros-n.true, word-some _ c.if-zeros-lt16.true)
