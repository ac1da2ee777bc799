-- `previous` meets its contract: by number, the value next below is one less.
use native.Mathlib.Omega.{arith}
use Rattle.grids.specs.Order.{rank}
use Rattle.grids.proofs.cells.previous.Goals as goal

pub overflow_sub-result : goal.overflow_sub-result
unfolding rank
overflow_sub-result c = let h = c.requires in omega (arith, h.1)

pub returns : goal.returns
unfolding rank
returns c top h = record { within = omega arith; below = omega (arith, c.requires.1); last = λ w tw k. omega arith }
