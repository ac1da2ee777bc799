-- `above` meets its contract.
use Rattle.std.proofs.Common.{refl}
use Rattle.lines.specs.Bytes.{above}
use Rattle.lines.proofs.bytes.above.Goals as goal

pub returns : goal.returns
unfolding above
returns c = refl
