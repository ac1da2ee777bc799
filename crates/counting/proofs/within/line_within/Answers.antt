use mathlib.Core.Path.{◌≡◌, ap}
use mathlib.Core.Bool.{Bool, ◌&&◌}
use native.Mathlib.Omega.{arith}
use lib.ListN.{length}
use Rattle.counting.proofs.PassLaws.{outcome-none, outcome-next}
use Rattle.counting.proofs.within.line_within.Goals as goal

pub loop-k-init : goal.loop-k-init
loop-k-init c = outcome-none _ _ _ _

pub loop-k-preserved : goal.loop-k-preserved
loop-k-preserved c =
    let p = c.passes-within.ensures in
    outcome-next c.loop-k.invariant (ap (λ (b : Bool). c.loop-k.within && b) p.0, p.1)

pub returns : goal.returns
returns c = let e : c.loop-k.k ≡ length c.args.line.now = omega arith in rw e at c.loop-k.invariant
