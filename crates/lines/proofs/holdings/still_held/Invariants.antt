-- `still_held` meets its contract. The loop's invariant: no client before `other` holds anything. The measure is how many are left.
use Rattle.std.proofs.Common.{◌-◌, ◌≤◌}
use Rattle.layout.specs.Layout.{holdings_of, changed}
use Rattle.lines.proofs.HoldingLaws.{NoneTo}
use Rattle.lines.proofs.holdings.still_held.Given as goal

abbrev pub invariant-loop-other : goal.invariant-loop-other
invariant-loop-other l = (1 ≤ l.other) × NoneTo l.other (changed l.client l.left (holdings_of l.size l.line))

abbrev pub decreases-loop-other : goal.decreases-loop-other
decreases-loop-other l = 9 - l.other
