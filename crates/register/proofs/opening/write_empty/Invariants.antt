-- The loop's invariant: line 1 and the blank lines before line e are written.
use Rattle.calls.specs.Calls.{shape}
use Rattle.layout.proofs.MoveLaws.{Opened}
use Rattle.register.proofs.opening.write_empty.Given as goal

abbrev pub invariant-loop-e : goal.invariant-loop-e
invariant-loop-e l = Opened (shape l.m l.n l.top l.capacity) l.e l.register
