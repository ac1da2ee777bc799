-- No more is written than the slice has. The loop ends: with each turn fewer bytes are left, or a try less.
use Rattle.std.proofs.Common.{length, ◌-◌, ◌+◌, ◌≤◌}
use Rattle.planbook.proofs.writing.write_output.Given as goal

abbrev pub invariant-loop-put : goal.invariant-loop-put
invariant-loop-put g l = l.put ≤ length l.out

abbrev pub decreases-loop-put : goal.decreases-loop-put
decreases-loop-put g l = (length l.out - l.put) + l.tries.left
