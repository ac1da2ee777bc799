-- `is_holding` meets its contract.
use mathlib.Core.Path.{refl}
use Rattle.scan.specs.Holdings.{is_holding, is_digit}
use Rattle.scan.proofs.holdings.is_holding.Goals as goal

pub returns : goal.returns
unfolding is_holding is_digit
returns c = rw (c.is_first.ensures, c.is_first-2.ensures, c.is_ascii_digit.ensures.value, c.is_ascii_digit-2.ensures.value) refl
