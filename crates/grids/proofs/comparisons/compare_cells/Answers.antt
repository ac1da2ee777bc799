use mathlib.Core.Path.{refl}
use Rattle.grids.proofs.ComparisonSteps.{cell-rank, values-compared}
use Rattle.grids.proofs.comparisons.compare_cells.Goals as goal

pub returns : goal.returns
returns c =
    let s = c.args in
    let g = s.grid.now in
    values-compared _ _ (cell-rank s.n g c.rank-x.ensures c.cell.ensures refl refl) (cell-rank s.n g c.rank-y.ensures c.cell-2.ensures refl refl) c.cmp.ensures
