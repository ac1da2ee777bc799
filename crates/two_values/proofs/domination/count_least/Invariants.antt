-- `count_least` is safe. The loop's invariant: no more positions are counted than there are before t.
use Prim.Native.Nat.{◌≤◌}
use Rattle.two_values.proofs.domination.count_least.Given as goal

abbrev pub invariant-loop-t : goal.invariant-loop-t
invariant-loop-t l = l.count ≤ l.t
