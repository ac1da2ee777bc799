-- `ten` meets its contract.
use Rattle.std.proofs.Common.{arith}
use Rattle.lines.proofs.ByteLaws.{ten-one, ten-other}
use Rattle.lines.proofs.bytes.ten.Goals as goal

pub returns-then-byte-eq49 : goal.returns-then-byte-eq49
returns-then-byte-eq49 c = ten-one _ (omega arith)

pub returns-else-byte-eq49 : goal.returns-else-byte-eq49
returns-else-byte-eq49 c = ten-other _ (λ e. omega (arith, e))
