-- `first_greatest` meets its contract. The loop's invariant: the greatest of the first t numbers stands first at `first`.
use Rattle.general_search.specs.Counts.{FirstGreatest}
use Rattle.general_search.proofs.terminal_search.first_greatest.Given as goal

abbrev pub invariant-loop-t : goal.invariant-loop-t
invariant-loop-t l = FirstGreatest l.t l.all l.first
