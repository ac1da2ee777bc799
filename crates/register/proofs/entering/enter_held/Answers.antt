-- `enter_held` meets its contract: the client holds 999 already, or its holding goes up.
use mathlib.Core.Path.{refl}
use native.Mathlib.Omega.{arith}
use Rattle.calls.proofs.ValidSteps.{enter-most, enter-held}
use Rattle.register.proofs.SoughtSteps.{small}
use Rattle.register.proofs.entering.enter_held.Goals as goal

pub returns-then-held-ge-MOST_HELD : goal.returns-then-held-ge-MOST_HELD
returns-then-held-ge-MOST_HELD c =
    let s = c.requires in
    (enter-most s.valid s.lower s.found refl _ c.holding-held.ensures c.if-held-ge-MOST_HELD.true)

pub overflow_cast-result : goal.overflow_cast-result
overflow_cast-result c = omega (arith, small c.requires)

pub overflow_add-result : goal.overflow_add-result
overflow_add-result c = omega (arith, small c.requires)

pub returns : goal.returns
returns c =
    let s = c.requires in
    enter-held s.valid s.lower s.found refl _ c.holding-held.ensures c.if-held-ge-MOST_HELD.false c.hold.ensures
