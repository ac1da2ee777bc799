-- `next_laid` meets its contract.
use mathlib.Core.Path.{refl}
use native.Mathlib.Omega.{arith}
use Rattle.layout.proofs.LineLaws.{cells-inside}
use Rattle.scan.proofs.CellLaws.{cells-more}
use Rattle.scan.proofs.EntryLaws.{cells-agreed, next-not, next-decides}
use Rattle.scan.proofs.OrderLaws.{agree_less}
use Rattle.scan.proofs.entries.next_laid.Goals as goal

pub agreed-k-requires : goal.agreed-k-requires
agreed-k-requires c =
    let w = cells-inside c.args.tables.now.size in
    (omega arith, omega arith)

pub line_laid-requires : goal.line_laid-requires
line_laid-requires c =
    let g = c.agreed-k in
    let a = c.args in
    let t = a.tables.now in
    (omega arith, c.requires.1, omega (arith, g.ensures.0), cells-agreed t.size t.top a.register.now a.previous a.at _ g.result c.requires.2.cells-laid g.ensures.1 g.ensures.0 refl)

pub comes_before-requires : goal.comes_before-requires
comes_before-requires c =
    let f = c.line_laid in
    let g = c.agreed-k in
    let a = c.args in
    let t = a.tables.now in
    let w = cells-inside t.size in
    let here = f.ensures.0 c.if-line_laid.true in (
      t.few,
      omega arith,
      omega arith,
      cells-more t.top a.register.now a.previous t.size t.low c.requires.2.cells-laid,
      cells-more t.top a.register.now a.at t.size t.low here.cells-laid,
      omega (arith, g.ensures.0),
      agree_less a.register.now a.previous a.at g.result _ (omega arith) g.ensures.1,
    )

pub returns-then-line_laid : goal.returns-then-line_laid
returns-then-line_laid c =
    let f = c.line_laid in
    let a = c.args in
    let t = a.tables.now in
    next-decides t.size t.top a.register.now a.previous a.at f.result f.ensures c.if-line_laid.true c.comes_before.result c.comes_before.ensures

pub returns-else-line_laid : goal.returns-else-line_laid
returns-else-line_laid c =
    let f = c.line_laid in
    let a = c.args in
    let t = a.tables.now in
    rw c.if-line_laid.false (next-not t.size t.top a.register.now a.previous a.at f.result f.ensures c.if-line_laid.false)
