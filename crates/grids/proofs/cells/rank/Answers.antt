-- `rank` meets its contract: a value stands where its number says.
use mathlib.Core.Path.{refl}
use Rattle.grids.specs.Order.{rank}
use Rattle.grids.proofs.cells.rank.Goals as goal

pub returns : goal.returns
unfolding rank
returns c = refl
