use Rattle.std.proofs.Common.{sym, ◌∙◌}
use Rattle.calls.specs.Valid.{asked}
use Rattle.calls.proofs.LeastSteps.{entered-asked}
use Rattle.register.proofs.entering.enter.Goals as goal

pub returns : goal.returns
unfolding asked
returns c = let a = c.args in c.enter_by.ensures ∙ sym (entered-asked a.register.now a.client a.grid.now)
