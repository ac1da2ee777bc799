-- `fixes` meets its contract. The loop's invariant: the symmetry moves none of the first i rows.
use Rattle.search.specs.Search.{rows_of}
use Rattle.search.proofs.SymmetryLaws.{FixesUpTo}
use Rattle.search.proofs.symmetries.KnownSymmetries.fixes.Given as goal

abbrev pub invariant-loop-row : goal.invariant-loop-row
invariant-loop-row l = FixesUpTo (rows_of l.self.maps) l.s (rows_of l.fn.rows) l.row-index
