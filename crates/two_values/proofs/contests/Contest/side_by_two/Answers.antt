-- `side_by_two` meets its contract.
use Rattle.two_values.specs.Domination.{by_two}
use Rattle.two_values.proofs.PairSteps.{sides_first, sides-second}
use Rattle.two_values.proofs.contests.Contest.side_by_two.Goals as goal

pub returns-then-by_two : goal.returns-then-by_two
returns-then-by_two c = let pre = c.requires in sides_first _ _ _ _ _ _ _ (by_two _ _ _ _ pre.2 pre.3 pre.4 pre.5 (c.by_two.ensures c.if-by_two.true))

pub returns-then-by_two-2 : goal.returns-then-by_two-2
returns-then-by_two-2 c = let pre = c.requires in sides-second _ _ _ _ _ _ _ (by_two _ _ _ _ pre.3 pre.2 pre.5 pre.4 (c.by_two-else-by_two.ensures c.if-by_two-2.true))
