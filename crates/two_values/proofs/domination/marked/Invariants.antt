-- `marked` meets its contract. The loop's invariant: of the positions before t those with the least key are marked.
use Rattle.permutations.specs.Rows.{row_numbers}
use Rattle.two_values.specs.Domination.{MarksLeast}
use Rattle.two_values.proofs.domination.marked.Given as goal

abbrev pub invariant-loop-t : goal.invariant-loop-t
invariant-loop-t l = MarksLeast l.k l.t (row_numbers l.rows) l.keys l.least l.out
