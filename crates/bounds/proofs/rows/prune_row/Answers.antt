-- `prune_row` meets its contract: where the lows of row 0 come no later than the sorted highs, the two rows are pruned by where they part.
use Rattle.bounds.proofs.RowSteps.{row-none, row-pruned}
use Rattle.bounds.proofs.rows.prune_row.Goals as goal

pub returns-in_default : goal.returns-in_default
returns-in_default c = row-none (rw c.requires.0.high-size at c.sorted.ensures) _ _ _ _ _ c.in_default.ensures

pub returns : goal.returns
returns c =
    let e = c.in-Some.ensures in
    row-pruned (rw c.requires.0.high-size at c.sorted.ensures) _ (rw e at c.in-Some.parting.parted) _ _ _ _ _ (rw e at c.row_lows.ensures)
    (rw c.requires.0.lows-size at c.raise.ensures) (rw e at c.lower_highs.ensures)
