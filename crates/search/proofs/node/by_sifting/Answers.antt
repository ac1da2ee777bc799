-- `by_sifting` meets its contract: where the key is needed it is that of the first row left.
use Rattle.std.proofs.Common.{refl}
use Rattle.search.proofs.RowSetLaws.{row_within}
use Rattle.search.proofs.NodeLaws.{after_is, fresh-next, known_next, first-after}
use Rattle.search.proofs.node.by_sifting.Goals as goal

pub returns-then-node : goal.returns-then-node
returns-then-node c =
    let p = c.requires in
    fresh-next p.0 p.1 c.if-node.true _ c.left-rows.ensures _ refl refl

pub refined-after-requires : goal.refined-after-requires
refined-after-requires c =
    let s = c.requires.0 in
    (row_within _ _ c.first-row.ensures, after_is s)

pub listed-columns-requires : goal.listed-columns-requires
listed-columns-requires c =
    let p = c.requires in
    (p.0.tables.columns-fit, first-after p.0 p.1 _ c.left-rows.ensures _ c.first-row.ensures _ c.refined-after.ensures)

pub returns : goal.returns
returns c =
    let p = c.requires in
    known_next p.0 p.1 _ c.left-rows.ensures _ c.first-row.ensures _ c.refined-after.ensures
    _ c.listed-columns.ensures _ c.digits.ensures _ refl refl _ refl refl refl
