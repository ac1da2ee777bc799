-- `part` meets its contract. The loop's invariant: the first `i` bounds are parted.
use Rattle.transcript.proofs.PartLaws.{PartedTo}
use Rattle.transcript.proofs.commands.part.Given as goal

abbrev pub invariant-loop-i : goal.invariant-loop-i
invariant-loop-i l = PartedTo l.i l.cells l.initial.low l.initial.high l.low l.high
