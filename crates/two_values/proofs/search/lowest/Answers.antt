use mathlib.Core.Path.{refl}
use native.Mathlib.Omega.{arith}
use Rattle.two_values.proofs.SearchSteps.{lowest-next}
use Rattle.two_values.proofs.search.lowest.Goals as goal

pub loop-t-preserved : goal.loop-t-preserved
loop-t-preserved c =
    let l = c.loop-t in
    (omega arith, lowest-next _ _ _ l.t _ _ _ c.number-in-loop-t.ensures refl (omega arith) l.invariant.1 _ c.min-least.ensures)
