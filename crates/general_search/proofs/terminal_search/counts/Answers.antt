use native.Mathlib.Omega.{arith}
use Rattle.general_search.proofs.CountLaws.{weight-most, counted_none, counted_next, counted-all}
use Rattle.general_search.proofs.terminal_search.counts.Goals as goal

pub loop-j-init : goal.loop-j-init
loop-j-init c = counted_none _ _ _

pub overflow_add-sum : goal.overflow_add-sum
overflow_add-sum c = let l = c.loop-j.invariant in omega (arith, weight-most c.cell.result, c.weight-sum.ensures)

pub loop-j-preserved : goal.loop-j-preserved
loop-j-preserved c = counted_next _ _ _ _ _ _ _ c.loop-j.invariant c.cell.ensures c.weight-sum.ensures

pub returns : goal.returns
returns c = counted-all _ _ _ c.loop-j.j _ (omega arith) c.loop-j.invariant
