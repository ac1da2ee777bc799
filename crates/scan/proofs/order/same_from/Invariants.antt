-- `same_from` meets its contract. The loop's invariant: `same` says whether the first `n` bytes are the same.
use mathlib.Core.Path.{◌≡◌}
use Rattle.scan.specs.Cells.{same_from}
use Rattle.scan.proofs.order.same_from.Given as goal

abbrev pub invariant-loop-n : goal.invariant-loop-n
invariant-loop-n l = l.same ≡ same_from l.register l.p l.q l.n
