-- The loop's invariant: before column `c` the highs have become the lows.
use Rattle.bounds.proofs.RowSteps.{LoweredTo}
use Rattle.bounds.proofs.rows.Parting.lower_highs.Given as goal

abbrev pub invariant-loop-c : goal.invariant-loop-c
invariant-loop-c l = LoweredTo l.c l.self.rows.lows.now l.fn.highs l.highs
