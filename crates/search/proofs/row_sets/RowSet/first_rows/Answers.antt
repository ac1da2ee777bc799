-- `first_rows` meets its contract.
use Rattle.search.proofs.RowSetLaws.{none_has, first-set, first-has}
use Rattle.search.proofs.row_sets.RowSet.first_rows.Goals as goal

pub returns-then-m-eq0 : goal.returns-then-m-eq0
returns-then-m-eq0 c = λ x. rw c.empty.ensures (none_has _ x c.if-m-eq0.true)

pub invariant_of-result : goal.invariant_of-result
invariant_of-result c = record { is_set = first-set _ c.requires }

pub returns : goal.returns
returns c = first-has _ c.requires
