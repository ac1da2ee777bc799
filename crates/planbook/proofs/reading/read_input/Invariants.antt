-- What is read stays within the slice. The loop ends: with each turn there is less room, or a try less.
use Rattle.std.proofs.Common.{length, ◌-◌, ◌≡◌, ◌+◌, ◌≤◌}
use Rattle.planbook.proofs.reading.read_input.Given as goal

abbrev pub invariant-loop-got : goal.invariant-loop-got
invariant-loop-got g l = (length l.input ≡ length l.initial.input) × (l.got ≤ length l.input)

abbrev pub decreases-loop-got : goal.decreases-loop-got
decreases-loop-got g l = (length l.input - l.got) + l.tries.left
