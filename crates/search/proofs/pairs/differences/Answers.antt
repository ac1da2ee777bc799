use Rattle.std.proofs.Common.{◌≡◌, ◌∙◌, arith}
use Rattle.search.proofs.DifferenceLaws.{counted_none, counted-more, counted-most, counted-all}
use Rattle.search.proofs.pairs.differences.Goals as goal

pub loop-c-init : goal.loop-c-init
loop-c-init c = counted_none _ _ _

pub overflow_add-count : goal.overflow_add-count
overflow_add-count c = let e = counted-more _ _ _ _ c.loop-c.invariant in omega (arith, c.from-count.ensures, counted-most _ _ _ _ e)

pub loop-c-preserved : goal.loop-c-preserved
loop-c-preserved c = rw c.from-count.ensures (counted-more _ _ _ _ c.loop-c.invariant)

pub returns : goal.returns
returns c = let l = c.loop-c in let z : l.c ≡ 16 = omega arith in rw z at l.invariant ∙ counted-all _ _ _
