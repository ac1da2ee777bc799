-- `cap` meets its contract: what follows the column where the rows part decides.
use Rattle.bounds.specs.Rows.{SaysNoLater}
use Rattle.bounds.proofs.CapLaws.{cap-equal, cap-below}
use Rattle.bounds.proofs.rows.Parting.cap.Goals as goal

pub returns-then-is_no_later : goal.returns-then-is_no_later
unfolding SaysNoLater
returns-then-is_no_later c = cap-equal c.args.self.now.parted c.requires (rw c.if-is_no_later.true at c.is_no_later.ensures)

pub previous-requires : goal.previous-requires
previous-requires c = (_, c.args.self.now.parted.before c.requires)

pub returns-else-is_no_later : goal.returns-else-is_no_later
unfolding SaysNoLater
returns-else-is_no_later c =
    cap-below _ c.args.self.now.parted c.requires c.previous.ensures (rw c.if-is_no_later.false at c.is_no_later.ensures)
