use native.Mathlib.Omega.{arith}
use Rattle.grids.proofs.ValueLaws.{lowest-none, lowest-next}
use Rattle.grids.proofs.values.lowest.Goals as goal

pub loop-cell-init : goal.loop-cell-init
loop-cell-init c = lowest-none _ 0

pub loop-cell-preserved : goal.loop-cell-preserved
loop-cell-preserved c = lowest-next c.loop-cell.invariant _ c.lower-low.ensures

pub returns : goal.returns
returns c = (c.loop-cell.invariant.cell, λ i b. c.loop-cell.invariant.lowest i (omega arith))
