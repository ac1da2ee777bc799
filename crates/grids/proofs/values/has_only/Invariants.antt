-- `has_only` meets its contract. The loop's invariant: where `either` is true, the cells before the index are one of the two values.
use Rattle.grids.proofs.ValueLaws.{OnlyTo}
use Rattle.grids.proofs.values.has_only.Given as goal

abbrev pub invariant-loop-cell : goal.invariant-loop-cell
invariant-loop-cell l = OnlyTo l.grid l.low l.high l.cell-index l.either'
