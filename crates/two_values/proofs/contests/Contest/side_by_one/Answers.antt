-- `side_by_one` meets its contract.
use Rattle.two_values.specs.Domination.{by_one}
use Rattle.two_values.proofs.PairSteps.{sides_first, sides-second}
use Rattle.two_values.proofs.contests.Contest.side_by_one.Goals as goal

pub returns-then-by_one : goal.returns-then-by_one
returns-then-by_one c = let pre = c.requires in sides_first _ _ _ _ _ _ _ (by_one _ _ pre.2 pre.3 (c.by_one.ensures c.if-by_one.true))

pub returns-then-by_one-2 : goal.returns-then-by_one-2
returns-then-by_one-2 c = let pre = c.requires in sides-second _ _ _ _ _ _ _ (by_one _ _ pre.3 pre.2 (c.by_one-else-by_one.ensures c.if-by_one-2.true))
