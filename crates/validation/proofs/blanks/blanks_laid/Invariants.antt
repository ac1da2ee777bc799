-- `blanks_laid` meets its contract. The loop's invariant: the lines passed are blank.
use Rattle.layout.specs.Lines.{BlanksLaid}
use Rattle.validation.proofs.blanks.blanks_laid.Given as goal

abbrev pub invariant-loop-e : goal.invariant-loop-e
invariant-loop-e l = BlanksLaid l.size l.from l.e l.register
