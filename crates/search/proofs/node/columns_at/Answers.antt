-- `columns_at` meets its contract: where no row is placed the columns stand in their own order.
use Rattle.search.proofs.RowLaws.{lists-own}
use Rattle.search.proofs.node.columns_at.Goals as goal

pub returns-then-placed-eq0 : goal.returns-then-placed-eq0
returns-then-placed-eq0 c = let p = c.requires in lists-own _ _ _ p.0 (p.2 c.if-placed-eq0.true) c.own.ensures
