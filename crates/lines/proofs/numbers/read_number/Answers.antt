use Rattle.std.proofs.Common.{arith}
use Rattle.lines.proofs.NumberLaws.{read-none, read-room, read-next, read-all}
use Rattle.lines.proofs.numbers.read_number.Goals as goal

pub loop-byte-init : goal.loop-byte-init
loop-byte-init c = read-none _

pub digit-number-requires : goal.digit-number-requires
digit-number-requires c = read-room c.loop-byte.invariant (omega arith) (omega arith)

pub loop-byte-preserved : goal.loop-byte-preserved
loop-byte-preserved c = read-next _ c.loop-byte.invariant (omega arith) c.digit-number.ensures.0 c.digit-number.ensures.1

pub returns : goal.returns
returns c = read-all c.loop-byte.invariant (omega arith)
