-- `is_none` meets its contract.
use mathlib.Core.Path.{refl}
use Rattle.scan.specs.Holdings.{is_none}
use Rattle.scan.proofs.holdings.is_none.Goals as goal

pub returns : goal.returns
unfolding is_none
returns c = refl
