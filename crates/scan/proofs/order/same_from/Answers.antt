use mathlib.Core.Path.{◌≡◌, sym}
use native.Mathlib.Omega.{arith}
use Rattle.scan.proofs.OrderLaws.{same_none, same_next}
use Rattle.scan.proofs.order.same_from.Goals as goal

pub loop-n-init : goal.loop-n-init
loop-n-init c = same_none _ _ _

pub loop-n-preserved : goal.loop-n-preserved
loop-n-preserved c = let l = c.loop-n in rw l.invariant (sym (same_next c.args.register.now c.args.p c.args.q l.n))

pub returns : goal.returns
returns c = let e : c.loop-n.n ≡ 16 = omega arith in rw e at c.loop-n.invariant
