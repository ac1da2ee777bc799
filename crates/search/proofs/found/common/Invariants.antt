-- `common` meets its contract. The loop's invariant: the two orders begin with i rows in common.
use Rattle.search.specs.Search.{rows_of}
use Rattle.search.proofs.FoundLaws.{CommonUpTo}
use Rattle.search.proofs.found.common.Given as goal

abbrev pub invariant-loop-i : goal.invariant-loop-i
invariant-loop-i l = CommonUpTo (rows_of l.a) (rows_of l.b) l.count l.i
