-- `read_cells` meets its contract. The loop's invariant: the first `k` cells are laid as they should be, and are read.
use Rattle.transcript.proofs.FieldLaws.{CellsTo}
use Rattle.transcript.proofs.fields.read_cells.Given as goal

abbrev pub invariant-loop-k : goal.invariant-loop-k
invariant-loop-k l = CellsTo l.k l.bytes l.initial.cells l.cells
