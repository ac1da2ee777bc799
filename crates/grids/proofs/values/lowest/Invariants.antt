-- `lowest` meets its contract. The loop's invariant: `low` is a cell, and ranks no higher than any cell before the index.
use Rattle.grids.proofs.ValueLaws.{LowestTo}
use Rattle.grids.proofs.values.lowest.Given as goal

abbrev pub invariant-loop-cell : goal.invariant-loop-cell
invariant-loop-cell l = LowestTo l.grid l.cell-index l.low
