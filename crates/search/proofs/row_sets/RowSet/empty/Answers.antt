-- `empty` meets its contract.
use Rattle.search.proofs.RowSetLaws.{none-set}
use Rattle.search.proofs.row_sets.RowSet.empty.Goals as goal

pub invariant_of-result : goal.invariant_of-result
invariant_of-result c = record { is_set = none-set }
