-- `sifted_block` meets its contract. The invariant is Going; the measure is what is left of the places and of the values.
use Rattle.std.proofs.Common.{◌≡◌, ℕ, ◌+◌, ◌-◌, ◌<◌, ◌≤◌}
use Rattle.branches.specs.Sifting.{at_most}
use Rattle.search.specs.RowSets.{lane}
use Rattle.search.specs.ColumnLists.{levels_of}
use Rattle.search.proofs.SiftedLaws.{Going}
use Rattle.search.proofs.sifting.sifted_block.Given as goal

abbrev pub invariant-loop-i : goal.invariant-loop-i
invariant-loop-i l =
    (l.i ≤ l.e - l.s)
    × (l.v ≤ 15)
    × ((x : ℕ) → x < 8 → lane x l.count ≡ at_most (l.e - l.s) (levels_of l.tables.words l.columns.0 l.s x) l.v)
    × Going l.s (l.e - l.s) (levels_of l.tables.words l.columns.0 l.s) l.initial.left.bytes l.i l.v l.left.bytes

abbrev pub decreases-loop-i : goal.decreases-loop-i
decreases-loop-i l = (l.e - l.s - l.i) + (15 - l.v)
