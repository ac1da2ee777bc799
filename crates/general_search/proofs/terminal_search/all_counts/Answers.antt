use mathlib.Core.Path.{◌≡◌, refl, ◌∙◌}
use native.Mathlib.Omega.{arith}
use lib.ListN.{length-set}
use Rattle.general_search.proofs.CountLaws.{rows_none, rows_next}
use Rattle.general_search.proofs.terminal_search.all_counts.Goals as goal

pub loop-t-init : goal.loop-t-init
loop-t-init c = (refl, rows_none _ _ _ _)

pub loop-t-preserved : goal.loop-t-preserved
loop-t-preserved c =
    let l = c.loop-t in
    (length-set l.out _ _ ∙ l.invariant.0, rows_next _ _ _ _ _ _ _ (omega arith) c.number.ensures c.counts.ensures l.invariant.1)

pub returns : goal.returns
returns c = let l = c.loop-t in let e : l.t ≡ c.args.m = omega arith in rw e at l.invariant.1
