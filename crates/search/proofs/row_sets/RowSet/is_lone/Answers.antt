-- `is_lone` meets its contract.
use Rattle.std.proofs.Common.{eqb-true}
use Rattle.search.proofs.RowSetLaws.{lone_row}
use Rattle.search.proofs.row_sets.RowSet.is_lone.Goals as goal

pub returns : goal.returns
returns c = λ e. lone_row _ c.args.self.is_set c.requires (eqb-true _ _ e)
