use Rattle.std.proofs.Common.{◌≡◌, length, arith}
use Rattle.grids.proofs.QuestionSteps.{greatest-next, greatest-capped}
use Rattle.grids.proofs.questions.is_capped.Goals as goal

pub loop-cell-preserved : goal.loop-cell-preserved
loop-cell-preserved c = greatest-next c.loop-cell.invariant c.max-greatest.ensures

pub returns : goal.returns
returns c =
    let l = c.loop-cell in
    let e : l.cell-index ≡ length c.args.cells.now = omega arith in
    greatest-capped _ _ _ (rw e at l.invariant)
