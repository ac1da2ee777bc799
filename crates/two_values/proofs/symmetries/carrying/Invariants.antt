-- `carrying` meets its contract. The loop's invariant: the images of the first i rows are written.
use Rattle.permutations.specs.Rows.{row_numbers}
use Rattle.two_values.proofs.SymmetryLaws.{Carrying}
use Rattle.two_values.proofs.symmetries.carrying.Given as goal

abbrev pub invariant-loop-i : goal.invariant-loop-i
invariant-loop-i l = Carrying (row_numbers l.first) (row_numbers l.second) l.i l.map
