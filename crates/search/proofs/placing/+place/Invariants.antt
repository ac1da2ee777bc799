-- `place` meets its contract. The loop's invariant: what holds before a turn (`Turn`), and what held before the loop (`Begun`).
use Rattle.std.proofs.Common.{◌-◌}
use Rattle.search.specs.Tables.{is_two, low_of}
use Rattle.search.proofs.TurnLaws.{Begun, Turn}
use Rattle.search.proofs.placing.+place.Given as goal

abbrev pub decreases-place : goal.decreases-place
decreases-place l = l.tables.now.m - l.node.placed

abbrev pub invariant-loop-t : goal.invariant-loop-t
invariant-loop-t l =
    Turn l.tables.m l.tables.n l.tables.grid.now (is_two l.tables.low) (low_of l.tables.low) l.tables.levels l.tables.words l.tables.bits l.node l.next l.rows.bytes l.initial.now.best l.t l.fresh l.now l.covered.bytes
    × Begun l.tables.m l.tables.n l.tables.grid.now (is_two l.tables.low) (low_of l.tables.low) l.tables.levels l.tables.words l.tables.bits l.node l.next l.fn.found l.initial.fresh l.initial.now
