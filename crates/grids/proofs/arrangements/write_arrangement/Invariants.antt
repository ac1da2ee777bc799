-- The loops' invariant: the cells before column `j` of row `i` are the arrangement's.
use Rattle.permutations.specs.Rows.{row_numbers}
use Rattle.permutations.specs.Columns.{column_numbers}
use Rattle.grids.proofs.ArrangementSteps.{WrittenTo}
use Rattle.grids.proofs.arrangements.write_arrangement.Given as goal

abbrev pub invariant-loop-j : goal.invariant-loop-j
invariant-loop-j l = WrittenTo l.i l.j l.m l.n (row_numbers l.rows) (column_numbers l.columns) l.grid l.out

abbrev pub invariant-loop-i : goal.invariant-loop-i
invariant-loop-i l = WrittenTo l.i 0 l.m l.n (row_numbers l.rows) (column_numbers l.columns) l.grid l.out
