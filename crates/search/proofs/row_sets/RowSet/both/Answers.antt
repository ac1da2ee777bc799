-- `both` meets its contract.
use Rattle.search.proofs.RowSetLaws.{both-set, both-has}
use Rattle.search.proofs.row_sets.RowSet.both.Goals as goal

pub returns : goal.returns
returns c = both-has _ _ c.args.self.is_set c.args.other.is_set

pub invariant_of-result : goal.invariant_of-result
invariant_of-result c = record { is_set = both-set _ _ c.args.self.is_set c.args.other.is_set }
