-- `stated` meets its contract, by those of its parts.
use Rattle.lines.specs.Bytes.{stated}
use Rattle.lines.proofs.bytes.stated.Goals as goal

pub returns : goal.returns
unfolding stated
returns c = cc
