-- The loop's invariant: what is left of the two columns from row position `i` on decides.
use Prim.Native.Nat.{◌-◌}
use lib.ListN.{get_or}
use Rattle.permutations.specs.Rows.{row_numbers}
use Rattle.grids.specs.Sorted.{part_of_column}
use Rattle.grids.specs.Grids.{cell}
use Rattle.grids.proofs.ComparisonSteps.{LeftFrom}
use Rattle.grids.proofs.comparisons.compare_columns.Given as goal

abbrev pub invariant-loop-i : goal.invariant-loop-i
invariant-loop-i l =
    LeftFrom l.i l.to (λ t. cell l.n l.grid (get_or (row_numbers l.rows) t 0) l.a.0) l.to (λ t. cell l.n l.grid (get_or (row_numbers l.rows) t 0) l.b.0)
    (part_of_column l.n l.grid (row_numbers l.rows) l.from (l.to - l.from) l.a.0) (part_of_column l.n l.grid (row_numbers l.rows) l.from (l.to - l.from) l.b.0)
