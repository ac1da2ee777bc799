-- The loop's invariant: the two grids agree before `i`, and what is left from there on decides.
use Rattle.grids.proofs.ComparisonSteps.{Passed}
use Rattle.grids.proofs.comparisons.compare_grids.Given as goal

abbrev pub invariant-loop-i : goal.invariant-loop-i
invariant-loop-i l = Passed l.i l.a l.b
