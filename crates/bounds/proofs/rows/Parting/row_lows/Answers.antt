-- `row_lows` meets its contract: each return is one of the ways in which the rows go on after they part.
use Rattle.bounds.specs.Rows.{SaysBelow, SaysUnder, SaysNoLater}
use Rattle.bounds.proofs.RowSteps.{above_at}
use Rattle.bounds.proofs.RowLowsLaws.{lows-last, lows-equal, lows-reached, lows-passed}
use Rattle.bounds.proofs.rows.Parting.row_lows.Goals as goal
use Rattle.bounds.proofs.rows.Parting.row_lows.Goals.{then-is_no_later, else-is_no_later}

pub returns-then-is_under : goal.returns-then-is_under
unfolding SaysUnder
returns-then-is_under c = let h = rw c.if-is_under.true at c.is_under.ensures in lows-last c.args.self.now.parted h.0 h.1

pub returns-then-is_below : goal.returns-then-is_below
unfolding SaysUnder SaysBelow
returns-then-is_below c =
    let h = rw c.if-is_under.false at c.is_under.ensures in
    lows-equal c.args.self.now.parted h.0 h.1 _ c.agreement-end.ensures (rw c.if-is_below.true at c.is_below.ensures)

pub returns : goal.returns
unfolding SaysUnder SaysBelow SaysNoLater
returns c =
    let p = c.args.self.now.parted in
    let g = c.agreement-end.ensures in
    let h = rw c.if-is_under.false at c.is_under.ensures in
    let k = rw c.if-is_below.false at c.is_below.ensures in
    elim c.if-is_no_later.branch [
      | then-is_no_later w ↦ rw w.limit-is (lows-reached p h.0 h.1 _ c.next.ensures _ g k.0 (above_at g k) (rw w.if-is_no_later.true at c.is_no_later.ensures))
      | else-is_no_later w ↦ rw w.limit-is (lows-passed p h.0 h.1 _ c.next.ensures _ g k.0 (above_at g k) (rw w.if-is_no_later.false at c.is_no_later.ensures))
    ]
