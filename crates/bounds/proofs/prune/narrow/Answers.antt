use native.Mathlib.Omega.{arith}
use Rattle.bounds.proofs.NarrowSteps.{narrow_next, narrow-all, narrow-fails}
use Rattle.bounds.proofs.prune.narrow.Goals as goal

pub returns-then-not-prune_row : goal.returns-then-not-prune_row
returns-then-not-prune_row c =
    narrow-fails c.requires.0 c.loop-i.invariant (omega arith) _ _ c.if-not-prune_row.ensures

pub loop-i-preserved : goal.loop-i-preserved
loop-i-preserved c =
    narrow_next c.requires.0 c.loop-i.invariant (omega arith) c.prune_row.new.highs c.prune_row.new.lows c.prune_row.auto.highs c.prune_row.auto.lows
    c.if-not-prune_row.ensures

pub returns : goal.returns
returns c = narrow-all c.loop-i.invariant (omega arith)
