use mathlib.Core.Path.{refl, ◌∙◌}
use native.Mathlib.Omega.{arith}
use lib.ListN.{length-set}
use Rattle.general_search.proofs.BoundLaws.{none-marked}
use Rattle.general_search.proofs.CountLaws.{marks-none, marks-next}
use Rattle.general_search.proofs.terminal_search.marked.Goals as goal

pub loop-t-init : goal.loop-t-init
loop-t-init c = (refl, marks-none _ _ _ none-marked)

pub loop-t-preserved : goal.loop-t-preserved
loop-t-preserved c =
    let l = c.loop-t in
    (length-set l.above _ _ ∙ l.invariant.0, marks-next _ _ _ l.t (omega arith) l.invariant.1)

pub returns : goal.returns
returns c = c.loop-t.invariant.1
