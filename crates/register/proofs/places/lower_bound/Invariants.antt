-- `lower_bound` meets its contract. The loop's invariant: the place is in the span. The measure is the span's length.
use Prim.Native.Nat.{◌-◌}
use Rattle.layout.specs.Layout.{grids_of, decode}
use Rattle.calls.specs.Places.{Between}
use Rattle.register.proofs.places.lower_bound.Given as goal

abbrev pub invariant-loop-span : goal.invariant-loop-span
invariant-loop-span l = Between (grids_of (decode l.register).entries) l.grid l.span.low l.span.high

abbrev pub decreases-loop-span : goal.decreases-loop-span
decreases-loop-span l = l.span.high - l.span.low
