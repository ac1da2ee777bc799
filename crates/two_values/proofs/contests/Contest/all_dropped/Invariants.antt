-- `all_dropped` meets its contract. The loop's invariant: what is dropped so far.
use Rattle.permutations.specs.Rows.{row_numbers}
use Rattle.two_values.specs.Search.{Drops}
use Rattle.two_values.proofs.contests.Contest.all_dropped.Given as goal

abbrev pub invariant-loop-s : goal.invariant-loop-s
invariant-loop-s l = Drops l.self.grid.now.m l.self.grid.now.n l.self.grid.now.cells.now l.self.node.now.k (row_numbers l.self.node.now.rows) l.marks l.out
