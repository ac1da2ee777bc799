-- `teen_of` meets its contract.
use native.Mathlib.Omega.{arith}
use Rattle.scan.proofs.FitLaws.{teen-low, teen-high}
use Rattle.scan.proofs.tables.teen_of.Goals as goal

pub returns-then-top-lt10 : goal.returns-then-top-lt10
returns-then-top-lt10 c = teen-low _ (omega arith)

pub returns-else-top-lt10 : goal.returns-else-top-lt10
returns-else-top-lt10 c = teen-high _ (omega arith)
