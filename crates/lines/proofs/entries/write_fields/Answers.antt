use Rattle.std.proofs.Common.{arith}
use Rattle.lines.proofs.LineLaws.{fields-none, fields_next, fields-all}
use Rattle.lines.proofs.entries.write_fields.Goals as goal

pub loop-k-init : goal.loop-k-init
loop-k-init c = fields-none _ _

pub loop-k-preserved : goal.loop-k-preserved
loop-k-preserved c = fields_next _ c.loop-k.invariant (omega arith) (omega arith) c.from.ensures c.write_number.ensures

pub shape_of-part : goal.shape_of-part
shape_of-part c = c.loop-k.invariant.so_far.size

pub returns : goal.returns
returns c = fields-all c.loop-k.invariant (omega arith)
