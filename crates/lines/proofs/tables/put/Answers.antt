-- `put` meets its contract.
use Rattle.std.proofs.Common.{refl}
use Rattle.lines.specs.Tables.{put}
use Rattle.lines.proofs.tables.put.Goals as goal

pub returns : goal.returns
unfolding put
returns c = refl
