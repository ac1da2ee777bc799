use mathlib.Core.Path.{ap}
use mathlib.Core.Bool.{Bool, ◌&&◌}
use native.Mathlib.Omega.{arith}
use Rattle.scan.proofs.HeldLaws.{held_next, held-decides}
use Rattle.scan.proofs.holdings.holdings_laid.Goals as goal

pub loop-k-preserved : goal.loop-k-preserved
loop-k-preserved c = held_next c.loop-k.invariant (λ i. omega (arith, c.type_inv.register i)) (ap (λ (b : Bool). c.loop-k.laid && b) c.is_holding-laid.ensures) (ap (λ (b : Bool). c.loop-k.none && b) c.is_none-none.ensures)

pub returns : goal.returns
returns c = held-decides c.loop-k.invariant (omega arith)
