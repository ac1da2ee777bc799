-- `repeated` meets its contract. The loop's invariant: no row that can come next before position s equals the one at t.
use Rattle.permutations.specs.Rows.{row_numbers}
use Rattle.general_search.proofs.RepeatedRows.{NoneUpTo}
use Rattle.general_search.proofs.state.Search.repeated.Given as goal

abbrev pub invariant-loop-s : goal.invariant-loop-s
invariant-loop-s l = NoneUpTo l.self.n l.self.grid.now (row_numbers l.branch.placed.rows) l.branch.k l.t l.s
