use mathlib.Core.Path.{◌≡◌, sym, ◌∙◌}
use Prim.Native.Nat.{ℕ, ◌+◌, ◌*◌, ◌/◌}
use native.Mathlib.Omega.{arith}
use Rattle.scan.proofs.OrderLaws.{agree-none, agree-more}
use Rattle.scan.proofs.order.agreed.Goals as goal

pub loop-block-init : goal.loop-block-init
loop-block-init c = agree-none _ _ _

pub loop-block-preserved : goal.loop-block-preserved
loop-block-preserved c =
    let a = c.args in
    let i : ℕ = 16 * c.loop-block.block in
    let z : i + 16 ≡ 16 * (c.loop-block.block + 1) = omega arith in
    rw z at (agree-more a.register.now a.p a.q i 16 c.loop-block.invariant (sym c.same_from.ensures ∙ c.if-not-same_from.false))

pub returns : goal.returns
returns c = let e : c.loop-block.block ≡ c.args.width / 16 = omega arith in (omega arith, rw e at c.loop-block.invariant)
