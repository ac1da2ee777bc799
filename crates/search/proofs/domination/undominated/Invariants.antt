-- `undominated` meets its contract. The loop's invariant: what is left, with the rows to do. The measure is how many rows there are to do.
use Rattle.search.proofs.ThinnedLaws.{row_count, Undone}
use Rattle.search.proofs.domination.undominated.Given as goal

abbrev pub invariant-loop-a : goal.invariant-loop-a
invariant-loop-a l = Undone l.tables.levels l.tables.words l.after l.rest.bytes l.rows.bytes l.left.bytes l.todo.bytes

abbrev pub decreases-loop-a : goal.decreases-loop-a
decreases-loop-a l = row_count l.todo.bytes
