-- `prune_parted` meets its contract: the cells are parted, and prune leaves what it leaves of the bounds.
use Rattle.transcript.proofs.CallSteps.{parted-pruned}
use Rattle.transcript.proofs.commands.prune_parted.Goals as goal

pub returns : goal.returns
returns c = rw c.into-pruned.ensures.0 (parted-pruned c.args.cells.now c.requires.0 c.part.ensures c.prune.ensures)
