-- `line_laid` meets its contract. The loop's invariant: the numbers at the places before this one are written.
use Rattle.transcript.proofs.StartSteps.{LineTo}
use Rattle.transcript.proofs.starts.line_laid.Given as goal

abbrev pub invariant-loop-at : goal.invariant-loop-at
invariant-loop-at l = LineTo l.input l.initial.line l.at-index l.line
