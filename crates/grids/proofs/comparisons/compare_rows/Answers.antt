use Rattle.grids.specs.Grids.{permuted_row}
use Rattle.grids.proofs.ComparisonSteps.{compared-as, unequal, not-unequal, left-tabulated, left-decided, left_passed, left-equal}
use Rattle.grids.proofs.comparisons.compare_rows.Goals as goal

pub loop-j-init : goal.loop-j-init
unfolding permuted_row
loop-j-init c = left-tabulated _ _ _ _

pub returns-then-is_ne : goal.returns-then-is_ne
returns-then-is_ne c =
    let k = c.loop-j-test.true in
    left-decided c.loop-j.invariant k k (compared-as c.cell-x.ensures c.cell-y.ensures c.compare_values-found.ensures) (unequal _ c.if-is_ne.ensures)

pub loop-j-preserved : goal.loop-j-preserved
loop-j-preserved c =
    let k = c.loop-j-test.true in
    left_passed c.loop-j.invariant k k (compared-as c.cell-x.ensures c.cell-y.ensures c.compare_values-found.ensures) (not-unequal _ c.if-is_ne.ensures)

pub returns : goal.returns
returns c = let k = c.loop-j-test.false in left-equal c.loop-j.invariant k k
