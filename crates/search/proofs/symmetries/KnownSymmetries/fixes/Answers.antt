use Rattle.std.proofs.Common.{◌<◌, sym, ◌∙◌, arith, get_or-take, length-take, rules}
use Rattle.search.proofs.SymmetryLaws.{row_at, row_below, fixes-next}
use Rattle.search.proofs.symmetries.KnownSymmetries.fixes.Goals as goal

pub bounds-self-s : goal.bounds-self-s
bounds-self-s c =
    let z = c.requires in
    let a = c.args in
    let i = c.loop-row.row-index in
    let ik : i < a.k = omega (arith, length-take a.k a.rows) in
    rw (get_or-take a.k a.rows i (record { 0 = 0 }) ik) (omega (arith, row_below _ a.rows i z.1 (omega arith) z.3))

pub loop-row-preserved : goal.loop-row-preserved
loop-row-preserved c =
    let a = c.args in
    let i = c.loop-row.row-index in
    let ik : i < a.k = omega (arith, length-take a.k a.rows) in
    let row = get_or-take a.k a.rows i (record { 0 = 0 }) ik in
    fixes-next _ _ _ i _ (row_at a.rows i) (sym (row_at a.self.now.maps _) ∙ (rw (sym row) (search rules))) c.loop-row.invariant
