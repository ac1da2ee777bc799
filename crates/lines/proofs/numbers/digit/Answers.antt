-- `digit` meets its contract.
use Rattle.std.proofs.Common.{arith}
use Rattle.lines.proofs.NumberLaws.{digit-space, digit-other}
use Rattle.lines.proofs.numbers.digit.Goals as goal

pub returns-then-byte-eq32 : goal.returns-then-byte-eq32
returns-then-byte-eq32 c = (digit-space _ _ c.if-byte-eq32.true, omega arith)

pub returns-else-byte-eq32 : goal.returns-else-byte-eq32
returns-else-byte-eq32 c = (digit-other _ _ _ c.if-byte-eq32.false (omega arith), omega arith)
