-- `next` meets its contract: by number, the value next above is one more.
use native.Mathlib.Omega.{arith}
use Rattle.grids.specs.Order.{rank}
use Rattle.grids.proofs.cells.next.Goals as goal

pub overflow_add-result : goal.overflow_add-result
unfolding rank
overflow_add-result c = let h = c.requires in omega (arith, h.1, h.2)

pub returns : goal.returns
unfolding rank
returns c top v tv h = record { within = omega arith; above = omega arith; first = λ w tw k. omega arith }
