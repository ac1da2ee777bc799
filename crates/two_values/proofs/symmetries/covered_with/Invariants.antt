-- `covered_with` meets its contract. The loop's invariant: what covers the rows marked at first covers those marked now.
use Rattle.permutations.specs.Rows.{row_numbers}
use Rattle.two_values.specs.Search.{Spreads}
use Rattle.two_values.proofs.symmetries.covered_with.Given as goal

abbrev pub invariant-loop-map : goal.invariant-loop-map
invariant-loop-map l = Spreads l.grid.m l.grid.n l.grid.cells.now l.node.k (row_numbers l.node.rows) l.initial.out l.out
