-- `read_line` meets its contract. The loop's invariant: the first `k` cells are read.
use Rattle.lines.proofs.LineLaws.{ReadTo}
use Rattle.lines.proofs.entries.read_line.Given as goal

abbrev pub invariant-loop-k : goal.invariant-loop-k
invariant-loop-k l = ReadTo l.k l.line l.initial.cells l.cells
