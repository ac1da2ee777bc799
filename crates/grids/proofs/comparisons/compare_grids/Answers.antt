use Rattle.std.proofs.Common.{arith}
use Rattle.grids.proofs.ComparisonSteps.{unequal, not-unequal, passed_none, passed-decided, passed-same, passed-ended}
use Rattle.grids.proofs.comparisons.compare_grids.Goals as goal

pub loop-i-init : goal.loop-i-init
loop-i-init c = passed_none _ _

pub returns-then-is_ne : goal.returns-then-is_ne
returns-then-is_ne c =
    passed-decided c.loop-i.invariant (omega arith) (omega arith) c.compare_values-found.ensures (unequal _ c.if-is_ne.ensures)

pub loop-i-preserved : goal.loop-i-preserved
loop-i-preserved c =
    passed-same c.loop-i.invariant (omega arith) (omega arith) c.compare_values-found.ensures (not-unequal _ c.if-is_ne.ensures)

pub returns : goal.returns
returns c = passed-ended c.loop-i.invariant (omega arith) (omega arith) c.cmp.ensures
