-- `pop_first` meets its contract: the first row of the set is one of the eight.
use Rattle.search.proofs.ThinnedLaws.{has-below}
use Rattle.search.proofs.row_sets.RowSet.pop_first.Goals as goal

pub without-requires : goal.without-requires
without-requires c = has-below _ _ c.first-row.ensures
