use mathlib.Core.Path.{◌≡◌}
use native.Mathlib.Omega.{arith}
use lib.ListN.{length}
use Rattle.general_search.proofs.CountLaws.{greatest-one, greatest-next, greatest-stays}
use Rattle.general_search.proofs.terminal_search.first_greatest.Goals as goal
use Rattle.general_search.proofs.terminal_search.first_greatest.Goals.{then-all-first, else-all-first}

pub loop-t-init : goal.loop-t-init
loop-t-init c = greatest-one _

pub loop-t-preserved : goal.loop-t-preserved
loop-t-preserved c =
    let l = c.loop-t.invariant in
    elim c.if-all-first.branch [
      | then-all-first w ↦ rw w.first-is (greatest-next _ _ _ l w.if-all-first.true)
      | else-all-first w ↦ rw w.first-is (greatest-stays _ _ _ l w.if-all-first.false)
    ]

pub returns : goal.returns
returns c = let l = c.loop-t in let e : l.t ≡ length c.args.all.now = omega arith in rw e at l.invariant
