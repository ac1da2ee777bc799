-- `lines_laid` meets its contract. The loop's invariant: the lines before this one are laid out and ascend.
use Rattle.scan.specs.Lines.{LinesLaid}
use Rattle.scan.proofs.entries.lines_laid.Given as goal

abbrev pub invariant-loop-e : goal.invariant-loop-e
invariant-loop-e l = LinesLaid l.tables.size l.tables.top l.e l.register
