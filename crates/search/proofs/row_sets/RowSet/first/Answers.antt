-- `first` meets its contract.
use Rattle.search.proofs.RowSetLaws.{first-row}
use Rattle.search.proofs.row_sets.RowSet.first.Goals as goal

pub returns : goal.returns
returns c = first-row _ c.args.self.is_set c.requires
