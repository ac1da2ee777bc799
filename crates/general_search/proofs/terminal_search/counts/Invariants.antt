-- `counts` meets its contract. The loop's invariant: `sum` is the number of the cells before column j, of which each weighs at most
-- 16 to the 14th.
use Rattle.general_search.proofs.CountLaws.{Counted}
use Rattle.general_search.proofs.terminal_search.counts.Given as goal

abbrev pub invariant-loop-j : goal.invariant-loop-j
invariant-loop-j l = Counted l.n l.grid l.i.0 l.j l.sum
