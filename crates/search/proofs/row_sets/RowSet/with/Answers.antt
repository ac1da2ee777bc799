-- `with` meets its contract.
use Rattle.search.proofs.RowSetLaws.{with-set, with-has}
use Rattle.search.proofs.row_sets.RowSet.with.Goals as goal

pub returns : goal.returns
returns c = with-has _ _ _ c.requires c.args.self.is_set c.only.result.is_set c.only.ensures

pub invariant_of-result : goal.invariant_of-result
invariant_of-result c = record { is_set = with-set _ _ _ c.requires c.args.self.is_set c.only.result.is_set c.only.ensures }
