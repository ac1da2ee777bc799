-- `weight` meets its contract: a power of 2 by a shift, and nothing from rank 15 on.
use Rattle.general_search.proofs.CountLaws.{weight-shifted, weight-none}
use Rattle.general_search.proofs.terminal_search.weight.Goals as goal

pub returns-then-rank-lt15 : goal.returns-then-rank-lt15
returns-then-rank-lt15 c = weight-shifted _ _ c.rank-rank.ensures c.if-rank-lt15.true

pub returns-else-rank-lt15 : goal.returns-else-rank-lt15
returns-else-rank-lt15 c = weight-none _ _ c.rank-rank.ensures c.if-rank-lt15.false
