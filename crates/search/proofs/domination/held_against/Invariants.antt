-- `held_against` meets its contract. The loop's invariant: what is left, with row a and the rows to do. The measure is how many rows there are to do.
use Rattle.search.proofs.ThinnedLaws.{row_count, Held}
use Rattle.search.proofs.domination.held_against.Given as goal

abbrev pub invariant-loop-b : goal.invariant-loop-b
invariant-loop-b l = Held l.tables.levels l.tables.words l.after l.rest.bytes l.initial.out.bytes l.a.0 l.out.bytes l.todo.bytes

abbrev pub decreases-loop-b : goal.decreases-loop-b
decreases-loop-b l = row_count l.todo.bytes
