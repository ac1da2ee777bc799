-- `only` meets its contract.
use Rattle.search.proofs.RowSetLaws.{only_set, only-has}
use Rattle.search.proofs.row_sets.RowSet.only.Goals as goal

pub returns : goal.returns
returns c = only-has _ c.requires

pub invariant_of-result : goal.invariant_of-result
invariant_of-result c = record { is_set = only_set _ c.requires }
