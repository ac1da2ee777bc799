-- A refusal of what is asked first, or what striking the least grid gives.
use Rattle.std.proofs.Common.{◌≡◌, sym, arith}
use lib.Seq.{length-take-le}
use Rattle.refusals.specs.Numbers.{asked_number}
use Rattle.refusals.proofs.NumberLaws.{handed-as}
use Rattle.calls.specs.Calls.{placed, struck}
use Rattle.calls.specs.Valid.{asked, struck_least}
use Rattle.calls.proofs.LeastSteps.{struck-asked}
use Rattle.register.specs.Answers.{striking_place}
use Rattle.register.proofs.AskSteps.{asked-ready, asked-fits, asked-valid, call-refused, call-least}
use Rattle.register.proofs.striking.strike.Goals as goal

pub returns-in_err-head : goal.returns-in_err-head
unfolding asked
returns-in_err-head c =
    let a = c.args in
    handed-as (λ r. placed (asked_number r) (striking_place r) a.register.now ≡ struck a.register.now a.client a.grid.now) _ _ c.from_residual.ensures
    (call-refused c.ask.ensures (struck_least a.register.now a.client) (struck-asked a.register.now a.client a.grid.now) c.in_err-head.was)

pub overflow_mul-size : goal.overflow_mul-size
overflow_mul-size c = omega (arith, asked-fits c.ask.ensures c.in_ok-head.was, c.ask.ensures.kept)

pub slice_bounds-least-end : goal.slice_bounds-least-end
slice_bounds-least-end c = asked-fits c.ask.ensures c.in_ok-head.was

pub slice_bounds-strike_least-end : goal.slice_bounds-strike_least-end
slice_bounds-strike_least-end c = sym (length-take-le _ _ (asked-fits c.ask.ensures c.in_ok-head.was))

pub strike_least-requires : goal.strike_least-requires
strike_least-requires c =
    let k = asked-ready c.ask.ensures c.in_ok-head.was in
    (asked-valid c.ask.ensures c.in_ok-head.was, k.client-is.0, k.client-is.1)

pub returns : goal.returns
unfolding asked
returns c =
    let a = c.args in
    call-least c.ask.ensures (struck_least a.register.now a.client) (struck-asked a.register.now a.client a.grid.now) c.in_ok-head.was c.strike_least.ensures
