-- `row_keys` meets its contract. The loops' invariant: the sums of c turns, and of a turn more before r.
use Rattle.search.proofs.LoopLaws.{SummedTo, shifted}
use Rattle.search.proofs.keys.row_keys.Given as goal

abbrev pub invariant-loop-r : goal.invariant-loop-r
invariant-loop-r l = SummedTo 8 (λ e. 0) (shifted l.bits l.places.counts) l.c l.r l.out

abbrev pub invariant-loop-c : goal.invariant-loop-c
invariant-loop-c l = SummedTo 8 (λ e. 0) (shifted l.bits l.places.counts) l.c 0 l.out
