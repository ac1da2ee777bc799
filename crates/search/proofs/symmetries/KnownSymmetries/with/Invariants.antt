-- `with` meets its contract. The loop's invariant: the images of the first i rows are written, and nothing before them is changed.
use Rattle.std.proofs.Common.{◌≡◌}
use Rattle.search.specs.Search.{rows_of}
use Rattle.search.proofs.SymmetryLaws.{Carrying}
use Rattle.search.proofs.symmetries.KnownSymmetries.with.Given as goal

abbrev pub invariant-loop-i : goal.invariant-loop-i
invariant-loop-i l = Carrying (rows_of l.first) (rows_of l.second) (rows_of l.initial.out.maps) l.kept l.i (rows_of l.out.maps) × (l.out.count ≡ l.kept)
