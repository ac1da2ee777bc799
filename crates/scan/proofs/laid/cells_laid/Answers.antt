use mathlib.Core.Path.{◌≡◌, sym}
use Prim.Native.Nat.{◌+◌}
use native.Mathlib.Omega.{arith}
use Rattle.scan.proofs.FitLaws.{all_none, all-next}
use Rattle.scan.proofs.laid.cells_laid.Goals as goal

pub loop-k-init : goal.loop-k-init
loop-k-init c = all_none _ _ _ _ _ _

pub loop-k-preserved : goal.loop-k-preserved
loop-k-preserved c =
    let l = c.loop-k in
    let t = c.args.tables.now in
    rw (l.invariant, c.fits-laid.ensures) (sym (all-next l.k c.args.register.now c.args.before t.base t.teen t.span _))

pub returns : goal.returns
returns c =
    let e : c.loop-k.k ≡ c.args.width = omega arith in
    let f : c.args.tables.now.top + 39 ≡ 39 + c.args.tables.now.top = omega arith in
    rw (e, f) at c.loop-k.invariant
