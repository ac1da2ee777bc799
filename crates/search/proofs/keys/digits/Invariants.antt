-- `digits` meets its contract. The loop's invariant: the number of the digits before j.
use Rattle.std.proofs.Common.{◌≡◌}
use Rattle.branches.specs.Keys.{number}
use Rattle.search.specs.ColumnLists.{column_at}
use Rattle.search.specs.Tables.{entry}
use Rattle.search.proofs.keys.digits.Given as goal

abbrev pub invariant-loop-j : goal.invariant-loop-j
invariant-loop-j l = l.number ≡ number l.j (λ i. entry l.tables.levels l.row.0 (column_at l.columns.0 i))
