-- `keyed` meets its contract. The loop's invariant: the keys of the first i rows are written.
use Rattle.std.proofs.Common.{◌≡◌, false, length}
use Rattle.branches.specs.Keys.{key}
use Rattle.search.specs.Search.{rows_of}
use Rattle.search.specs.Tables.{low_of}
use Rattle.search.proofs.LoopLaws.{FilledTo}
use Rattle.search.proofs.found.keyed.Given as goal

abbrev pub invariant-loop-i : goal.invariant-loop-i
invariant-loop-i l = (length l.keys ≡ 8) × FilledTo (λ j. key false l.tables.n l.tables.grid.now (low_of l.tables.low) j (rows_of l.found.best)) l.i l.keys
