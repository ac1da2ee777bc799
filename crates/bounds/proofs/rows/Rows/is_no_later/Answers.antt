-- `is_no_later` meets its contract: the first column where the rows differ decides.
use Rattle.bounds.proofs.RowSteps.{agree-decided}
use Rattle.bounds.proofs.rows.Rows.is_no_later.Goals as goal

pub returns : goal.returns
returns c = agree-decided c.agreement.ensures _ c.is_below.ensures
