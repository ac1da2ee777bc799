use Rattle.std.proofs.Common.{ap, arith, ℕ, get_or, ◌∙◌}
use Rattle.grids.specs.Grids.{cell}
use Rattle.grids.proofs.ArrangementSteps.{written-cell, written_all}
use Rattle.grids.proofs.arrangements.write_arrangement.Goals as goal

pub loop-j-preserved : goal.loop-j-preserved
loop-j-preserved c =
    let a = c.args in
    let l = c.loop-j in
    let e = ap (λ (x : ℕ). cell a.n a.grid.now x (get_or a.columns.at l.j 0)) c.number-row.ensures in
    written-cell l.invariant _ (omega arith) (omega arith) (c.cell.ensures ∙ e)

pub returns : goal.returns
returns c = written_all c.loop-i.invariant (omega arith)
