-- `has` meets its contract.
use Rattle.search.proofs.RowSetLaws.{tells_row}
use Rattle.search.proofs.row_sets.RowSet.has.Goals as goal

pub returns : goal.returns
returns c = tells_row _ _ c.requires
