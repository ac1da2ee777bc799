use mathlib.Core.Path.{refl}
use Rattle.grids.specs.Sorted.{part_of_column}
use Rattle.grids.proofs.ComparisonSteps.{cells_at, unequal, not-unequal, left-decided, left_passed, left-equal}
use Rattle.grids.proofs.comparisons.compare_columns.Goals as goal

pub loop-i-init : goal.loop-i-init
unfolding part_of_column
loop-i-init c = record { left = refl }

pub returns-then-is_ne : goal.returns-then-is_ne
returns-then-is_ne c =
    let s = c.args in
    let e = cells_at s.n s.grid.now s.a.0 s.b.0 c.number.ensures c.compare_cells-found.ensures in
    left-decided c.loop-i.invariant c.loop-i-test.true c.loop-i-test.true e (unequal _ c.if-is_ne.ensures)

pub loop-i-preserved : goal.loop-i-preserved
loop-i-preserved c =
    let s = c.args in
    let e = cells_at s.n s.grid.now s.a.0 s.b.0 c.number.ensures c.compare_cells-found.ensures in
    left_passed c.loop-i.invariant c.loop-i-test.true c.loop-i-test.true e (not-unequal _ c.if-is_ne.ensures)

pub returns : goal.returns
returns c = let k = c.loop-i-test.false in left-equal c.loop-i.invariant k k
