-- `comes_before` meets its contract. The loop's invariant: the cells before `k` agree.
use Rattle.scan.proofs.OrderLaws.{AgreeBelow}
use Rattle.scan.proofs.order.comes_before.Given as goal

abbrev pub invariant-loop-k : goal.invariant-loop-k
invariant-loop-k l = AgreeBelow l.register l.p l.q l.k
