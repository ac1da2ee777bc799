-- `count_within` meets its contract. The loop's invariant: `found` is the count of the entries before entry `e`.
use Rattle.counting.proofs.CountLaws.{CountedBefore}
use Rattle.counting.proofs.within.count_within.Given as goal

abbrev pub invariant-loop-e : goal.invariant-loop-e
invariant-loop-e l = CountedBefore l.register l.low l.high l.found l.e
