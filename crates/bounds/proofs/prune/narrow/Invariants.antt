-- `narrow` meets its contract. The loop's invariant: the rows before row i are pruned with row 0.
use Rattle.bounds.proofs.NarrowSteps.{Progress}
use Rattle.bounds.proofs.prune.narrow.Given as goal

abbrev pub invariant-loop-i : goal.invariant-loop-i
invariant-loop-i l = Progress l.i l.m l.n l.low l.high l.lows l.highs
