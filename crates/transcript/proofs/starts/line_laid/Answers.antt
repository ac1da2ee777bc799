use mathlib.Core.Path.{refl}
use native.Mathlib.Omega.{arith}
use Rattle.transcript.proofs.StartSteps.{place-room, line-none, line-next, line-decides}
use Rattle.transcript.proofs.starts.line_laid.Goals as goal

pub loop-at-init : goal.loop-at-init
loop-at-init c = line-none _ _

pub read_field-requires : goal.read_field-requires
read_field-requires c = omega (arith, place-room c.loop-at.at-index (omega arith))

pub write_field-requires : goal.write_field-requires
write_field-requires c = omega (arith, place-room c.loop-at.at-index (omega arith))

pub loop-at-preserved : goal.loop-at-preserved
loop-at-preserved c = line-next _ c.loop-at.invariant refl (omega arith) c.read_field.ensures.0 c.write_field.ensures

pub returns : goal.returns
returns c = line-decides c.loop-at.invariant refl (omega arith) c.starts_with.ensures.value
