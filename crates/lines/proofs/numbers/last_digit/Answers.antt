-- `last_digit` meets its contract.
use Rattle.lines.proofs.NumberLaws.{lead-none, lead-some}
use Rattle.lines.proofs.numbers.last_digit.Goals as goal

pub returns-then-left-eq0 : goal.returns-then-left-eq0
returns-then-left-eq0 c = lead-none _ c.if-left-eq0.true

pub returns-else-left-eq0 : goal.returns-else-left-eq0
returns-else-left-eq0 c = lead-some _ c.if-left-eq0.false
