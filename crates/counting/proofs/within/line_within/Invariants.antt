-- `line_within` meets its contract. The loop's invariant: `within` is the answer for the bytes before `k`.
use Rattle.counting.specs.Within.{LineOutcome}
use Rattle.counting.proofs.within.line_within.Given as goal

abbrev pub invariant-loop-k : goal.invariant-loop-k
invariant-loop-k l = LineOutcome l.within l.k l.line l.before l.tables.lows l.tables.spans
