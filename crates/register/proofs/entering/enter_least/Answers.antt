-- `enter_least` meets its contract: the grid stands at its place, or it does not.
use Rattle.register.proofs.SoughtSteps.{sought}
use Rattle.register.proofs.entering.enter_least.Goals as goal

pub enter_held-requires : goal.enter_held-requires
enter_held-requires c =
    let a = c.requires in
    sought a.0 c.lower_bound-place.ensures c.is_entry.ensures c.if-is_entry.true (a.2, a.3)

pub enter_new-requires : goal.enter_new-requires
enter_new-requires c =
    let a = c.requires in
    (sought a.0 c.lower_bound-place.ensures c.is_entry.ensures c.if-is_entry.false (a.2, a.3), a.1)
