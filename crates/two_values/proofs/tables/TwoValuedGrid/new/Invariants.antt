-- `new` meets its contract. The loops' invariant: the cells before column j of row i are in the two tables.
use Rattle.two_values.proofs.TableLaws.{column_place, row_place, TableTo, cell_bit, cell_unbit}
use Rattle.two_values.proofs.tables.TwoValuedGrid.new.Given as goal

abbrev pub invariant-loop-j : goal.invariant-loop-j
invariant-loop-j l =
    TableTo column_place (cell_bit l.n l.cells l.low) 0 l.n l.i l.j l.columns
    × TableTo row_place (cell_unbit l.n l.cells l.low) 1 l.n l.i l.j l.rows

abbrev pub invariant-loop-i : goal.invariant-loop-i
invariant-loop-i l =
    TableTo column_place (cell_bit l.n l.cells l.low) 0 l.n l.i 0 l.columns
    × TableTo row_place (cell_unbit l.n l.cells l.low) 1 l.n l.i 0 l.rows
