-- `is_ordered` meets its contract. The loop's invariant: `ordered` tells whether the lows before `k` are at most their highs.
use mathlib.Core.Logic.{◌↔◌}
use Prim.Native.Nat.{ℕ, ◌<◌, ◌≤◌}
use lib.ListN.{get_or}
use Rattle.std.specs.Prelude.{IsTrue}
use Rattle.grids.specs.Order.{rank}
use Rattle.bounds.proofs.order.is_ordered.Given as goal

abbrev pub invariant-loop-k : goal.invariant-loop-k
invariant-loop-k l = IsTrue l.ordered ↔ ((j : ℕ) → j < l.k → rank (get_or l.low j 0) ≤ rank (get_or l.high j 0))
