-- `parting` meets its contract: the first column where the rows differ decides.
use Rattle.bounds.proofs.RowSteps.{parted-at, agree-decided}
use Rattle.bounds.proofs.rows.Rows.parting.Goals as goal

pub invariant_of-result : goal.invariant_of-result
invariant_of-result c = record { parted = parted-at c.agreement-at.ensures (rw c.if-is_below.true at c.is_below.ensures) }

pub returns-else-is_below : goal.returns-else-is_below
returns-else-is_below c = agree-decided c.agreement-at.ensures _ (rw c.if-is_below.false at c.is_below.ensures)
