-- `left` meets its contract: all rows are left where one only has the least key, or a symmetry is kept; else those that no other is over.
use Rattle.two_values.proofs.DominationLaws.{left-all, chosen-marks}
use Rattle.two_values.proofs.domination.left.Goals as goal

pub returns-then-kept-ne0 : goal.returns-then-kept-ne0
returns-then-kept-ne0 c = left-all _ _ _ _ _ _ _ c.args.grid.now.tables.rows_fit

pub returns : goal.returns
returns c = chosen-marks _ _ _ _ _ _ _ _ _ c.marked-marks.ensures (rw (c.new.ensures.0, c.new.ensures.1) at c.all_dropped.ensures)
