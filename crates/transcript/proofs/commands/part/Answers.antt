use native.Mathlib.Omega.{arith}
use Rattle.transcript.proofs.PartLaws.{parted-none, parted-next, parted-all}
use Rattle.transcript.proofs.commands.part.Goals as goal

pub loop-i-init : goal.loop-i-init
loop-i-init c = parted-none _ _ _

pub loop-i-preserved : goal.loop-i-preserved
loop-i-preserved c = parted-next c.loop-i.invariant c.requires.1 (omega arith)

pub shape_of-low : goal.shape_of-low
shape_of-low c = c.loop-i.invariant.low_part.size

pub shape_of-high : goal.shape_of-high
shape_of-high c = c.loop-i.invariant.high_part.size

pub returns : goal.returns
returns c = parted-all c.loop-i.invariant c.requires.1 (omega arith)
