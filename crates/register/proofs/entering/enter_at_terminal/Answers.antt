use Rattle.std.proofs.Common.{sym, ◌∙◌}
use Rattle.calls.specs.Valid.{terminal_asked}
use Rattle.calls.proofs.LeastSteps.{terminal-entered-asked}
use Rattle.register.proofs.entering.enter_at_terminal.Goals as goal

pub returns : goal.returns
unfolding terminal_asked
returns c = let a = c.args in c.enter_by.ensures ∙ sym (terminal-entered-asked a.register.now a.client a.grid.now)
