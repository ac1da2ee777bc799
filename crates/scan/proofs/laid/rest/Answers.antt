-- `rest` meets its contract.
use native.Mathlib.Omega.{arith}
use Rattle.scan.proofs.FitLaws.{rest-teen, rest-other}
use Rattle.scan.proofs.laid.rest.Goals as goal

pub returns-then-x-teen : goal.returns-then-x-teen
returns-then-x-teen c = rest-teen _ _ (omega arith)

pub returns-else-x-teen : goal.returns-else-x-teen
returns-else-x-teen c = rest-other _ _ (λ e. omega (arith, e))
