-- `against` meets its contract. The loop's invariant: what is dropped so far.
use Rattle.permutations.specs.Rows.{row_numbers}
use Rattle.two_values.specs.Search.{Drops}
use Rattle.two_values.proofs.contests.Contest.against.Given as goal

abbrev pub invariant-loop-t : goal.invariant-loop-t
invariant-loop-t l = Drops l.self.grid.now.m l.self.grid.now.n l.self.grid.now.cells.now l.self.node.now.k (row_numbers l.self.node.now.rows) l.initial.out l.out
