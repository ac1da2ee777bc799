-- `strike_held` meets its contract: the client holds none, or its holding goes down.
use mathlib.Core.Path.{refl}
use native.Mathlib.Omega.{arith}
use Rattle.calls.proofs.ValidSteps.{strike-zero, strike-held}
use Rattle.register.proofs.SoughtSteps.{small}
use Rattle.register.proofs.striking.strike_held.Goals as goal

pub returns-then-held-eq0 : goal.returns-then-held-eq0
returns-then-held-eq0 c =
    let s = c.requires in
    (strike-zero s.valid s.lower s.found refl _ c.holding-held.ensures c.if-held-eq0.true)

pub overflow_cast-result : goal.overflow_cast-result
overflow_cast-result c = omega (arith, small c.requires)

pub overflow_add-result : goal.overflow_add-result
overflow_add-result c = omega (arith, small c.requires)

pub returns : goal.returns
returns c =
    let s = c.requires in
    strike-held s.valid s.lower s.found refl _ c.holding-held.ensures (omega arith) c.hold.ensures
