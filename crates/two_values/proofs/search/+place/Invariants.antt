-- `place` meets its contract. The loop's invariant: what holds before a turn (`Turn`). The measure of the calls is the number of rows that are not placed.
use mathlib.Core.Path.{◌≡◌}
use Prim.Native.Nat.{◌-◌}
use lib.ListN.{length}
use Rattle.two_values.proofs.PlaceLaws.{Turn}
use Rattle.two_values.proofs.search.+place.Given as goal

abbrev pub decreases-place : goal.decreases-place
decreases-place l = l.grid.now.m - l.node.now.k

abbrev pub invariant-loop-t : goal.invariant-loop-t
invariant-loop-t l =
    (length l.covered ≡ 8)
    × Turn l.grid.m l.grid.n l.grid.cells.now l.grid.low l.grid.columns l.grid.rows l.node.k l.node.rows l.node.after l.node.fresh l.keys l.least l.left l.initial.found l.t l.fresh l.found l.covered
