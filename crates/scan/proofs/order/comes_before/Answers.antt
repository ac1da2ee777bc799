use mathlib.Core.Path.{sym, ◌∙◌}
use native.Mathlib.Omega.{arith}
use Rattle.scan.proofs.CellLaws.{cells-field}
use Rattle.scan.proofs.OrderLaws.{cells_same, cells-next, before_here, before-never}
use Rattle.scan.proofs.order.comes_before.Goals as goal

pub loop-k-init : goal.loop-k-init
loop-k-init c = let p = c.requires in cells_same _ _ _ _ (omega (arith, p.1, p.5)) (omega (arith, p.2, p.5)) p.6

pub cell-x-requires : goal.cell-x-requires
cell-x-requires c =
    let p = c.requires in
    let a = c.args in
    let f = cells-field 15 a.register.now a.p a.size (omega arith) p.1 p.3 c.loop-k.k (omega arith) in
    (omega (arith, p.1), f.0, f.1)

pub cell-y-requires : goal.cell-y-requires
cell-y-requires c =
    let p = c.requires in
    let a = c.args in
    let f = cells-field 15 a.register.now a.q a.size (omega arith) p.2 p.4 c.loop-k.k (omega arith) in
    (omega (arith, p.2), f.0, f.1)

pub returns-then-x-y : goal.returns-then-x-y
returns-then-x-y c =
    let l = c.loop-k in
    let a = c.args in
    before_here a.register.now a.p a.q a.size l.k l.invariant c.cell-x.result c.cell-y.result c.rank.result c.rank-then-x-y.result
    (omega arith) c.cell-x.ensures c.cell-y.ensures (λ e. omega (arith, e)) c.rank.ensures c.rank-then-x-y.ensures

pub loop-k-preserved : goal.loop-k-preserved
loop-k-preserved c =
    let a = c.args in
    cells-next a.register.now a.p a.q c.loop-k.k c.loop-k.invariant (sym c.cell-x.ensures ∙ (omega arith) ∙ c.cell-y.ensures)

pub returns : goal.returns
returns c =
    let a = c.args in
    before-never a.register.now a.p a.q a.size c.loop-k.k c.loop-k.invariant (omega arith)
