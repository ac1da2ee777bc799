use Rattle.grids.proofs.ComparisonSteps.{values-compared}
use Rattle.grids.proofs.comparisons.compare_values.Goals as goal

pub returns : goal.returns
returns c = values-compared c.args.a c.args.b c.rank.ensures c.rank-2.ensures c.cmp.ensures
