-- `by_rows` meets its contract. The loops' invariant: the levels of the cells before column j of row i are in the table, and at the end all are.
use Rattle.std.proofs.Common.{◌≡◌, ◌+◌, ◌*◌, ◌<◌}
use Rattle.search.proofs.TableLaws.{RunTo, level_at}
use Rattle.search.proofs.tables.by_rows.Given as goal

abbrev pub invariant-loop-j : goal.invariant-loop-j
invariant-loop-j l = RunTo (level_at l.n l.grid) (l.i * 16 + l.j) l.out

abbrev pub invariant-loop-i : goal.invariant-loop-i
invariant-loop-i l = (l.i < l.rows → RunTo (level_at l.n l.grid) (l.i * 16) l.out) × (l.i ≡ l.rows → RunTo (level_at l.n l.grid) (l.m * 16) l.out)
