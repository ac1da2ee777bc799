use mathlib.Core.Path.{refl}
use native.Mathlib.Omega.{arith}
use Rattle.two_values.proofs.SymmetryLaws.{reached-none, reached-next}
use Rattle.two_values.proofs.symmetries.images.Goals as goal
use Rattle.two_values.proofs.symmetries.images.Goals.{then-out-r+then-image-lt8, else-out-r}

pub loop-r-init : goal.loop-r-init
loop-r-init c = reached-none _ _ _ (omega arith)

pub loop-r-preserved : goal.loop-r-preserved
loop-r-preserved c =
    let l = c.loop-r in
    elim c.if-out-r.branch [
      | then-out-r+then-image-lt8 w ↦ rw w.out-is (reached-next _ _ _ _ l.r _ (omega arith) w.if-out-r.true refl l.invariant)
      | else-out-r w ↦ rw w.out-is l.invariant
    ]
