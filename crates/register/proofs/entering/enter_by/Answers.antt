-- A refusal of what is asked first, or what entering the least grid gives.
use Rattle.std.proofs.Common.{◌≡◌, refl, sym, arith}
use lib.Seq.{length-take-le}
use Rattle.refusals.proofs.NumberLaws.{handed-as}
use Rattle.calls.specs.Calls.{placed}
use Rattle.calls.specs.Valid.{entered_least}
use Rattle.register.specs.Answers.{entering_number, entering_place}
use Rattle.register.specs.Asked.{entered_by}
use Rattle.register.proofs.AskSteps.{asked-ready, asked-fits, asked-valid, call-refused, call-least}
use Rattle.register.proofs.entering.enter_by.Goals as goal

pub returns-in_err-head : goal.returns-in_err-head
returns-in_err-head g c =
    let a = c.args in
    handed-as (λ r. placed (entering_number r) (entering_place r) a.register.now ≡ entered_by g.C.Caller.questions a.register.now a.client a.grid.now) _ _ c.from_residual.ensures
    (call-refused c.ask.ensures (entered_least a.register.now a.client) refl c.in_err-head.was)

pub overflow_mul-size : goal.overflow_mul-size
overflow_mul-size g c = omega (arith, asked-fits c.ask.ensures c.in_ok-head.was, c.ask.ensures.kept)

pub slice_bounds-least-end : goal.slice_bounds-least-end
slice_bounds-least-end g c = asked-fits c.ask.ensures c.in_ok-head.was

pub slice_bounds-enter_least-end : goal.slice_bounds-enter_least-end
slice_bounds-enter_least-end g c = sym (length-take-le _ _ (asked-fits c.ask.ensures c.in_ok-head.was))

pub enter_least-requires : goal.enter_least-requires
enter_least-requires g c =
    let k = asked-ready c.ask.ensures c.in_ok-head.was in
    (asked-valid c.ask.ensures c.in_ok-head.was, k.capacity-is, k.client-is.0, k.client-is.1)

pub returns : goal.returns
returns g c =
    let a = c.args in
    call-least c.ask.ensures (entered_least a.register.now a.client) refl c.in_ok-head.was c.enter_least.ensures
