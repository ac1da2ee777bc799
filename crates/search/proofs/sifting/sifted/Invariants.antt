-- `sifted` meets its contract. The invariant: a block starts at s, and the rows left lead up to s.
use Rattle.std.proofs.Common.{◌≡◌, ◌-◌, ◌≤◌}
use Rattle.branches.specs.Sifting.{Starts, Sifts}
use Rattle.search.specs.RowSets.{HasRow}
use Rattle.search.specs.ColumnLists.{end_of, levels_of}
use Rattle.search.proofs.sifting.sifted.Given as goal

abbrev pub invariant-loop-s : goal.invariant-loop-s
invariant-loop-s l =
    (l.s ≤ l.tables.n)
    × Starts (end_of l.columns.0 l.places.counts) l.s
    × (l.left.bytes ≡ 0 → ⊥)
    × Sifts l.tables.n (end_of l.columns.0 l.places.counts) (levels_of l.tables.words l.columns.0) (HasRow l.initial.left.bytes) l.s (HasRow l.left.bytes)

abbrev pub decreases-loop-s : goal.decreases-loop-s
decreases-loop-s l = l.tables.n - l.s
