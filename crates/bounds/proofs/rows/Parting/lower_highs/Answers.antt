-- `lower_highs` meets its contract: before the column where the rows part the highs become the lows, and at it they are capped.
use mathlib.Core.Path.{◌≡◌}
use native.Mathlib.Omega.{arith}
use Rattle.bounds.proofs.RowSteps.{lowered_none, lowered-next, lowered-all, lowered-capped}
use Rattle.bounds.proofs.rows.Parting.lower_highs.Goals as goal

pub loop-c-init : goal.loop-c-init
loop-c-init c = lowered_none _ _

pub loop-c-preserved : goal.loop-c-preserved
loop-c-preserved c = lowered-next c.loop-c.invariant (omega (arith, c.args.self.now.parted.agree.up_to))

pub returns-then-at-highs : goal.returns-then-at-highs
returns-then-at-highs c =
    let s = c.args.self.now in
    let e : c.loop-c.c ≡ s.at = omega arith in
    rw c.lower.ensures (lowered-capped (rw e at c.loop-c.invariant) s.parted _ (omega (arith, c.loop-c.invariant.size)) c.cap.ensures)

pub returns-else-at-highs : goal.returns-else-at-highs
returns-else-at-highs c =
    let s = c.args.self.now in
    let e : c.loop-c.c ≡ s.at = omega arith in
    lowered-all (rw e at c.loop-c.invariant) s.parted (omega (arith, c.loop-c.invariant.size))
