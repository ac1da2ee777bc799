-- `without` meets its contract.
use Rattle.search.proofs.RowSetLaws.{without-set, without-has}
use Rattle.search.proofs.row_sets.RowSet.without.Goals as goal

pub returns : goal.returns
returns c = without-has _ _ _ c.requires c.args.self.is_set c.only.result.is_set c.only.ensures

pub invariant_of-result : goal.invariant_of-result
invariant_of-result c = record { is_set = without-set _ _ _ c.requires c.args.self.is_set c.only.result.is_set c.only.ensures }
