use Rattle.refusals.proofs.NumberLaws.{handed-as, no-some, yes-is}
use Rattle.refusals.specs.Numbers.{asked_number}
use Rattle.std.proofs.Common.{◌≡◌}
use Rattle.calls.specs.Calls.{placed, opened, shape}
use Rattle.register.proofs.OpenSteps.{opened-no, opened-passes, opened-yes}
use Rattle.register.proofs.opening.open_register.Goals as goal

pub returns-in_err-ask_open : goal.returns-in_err-ask_open
returns-in_err-ask_open c =
    let e = c.in_err-ask_open in
    let a = c.args in
    handed-as (λ r. placed (asked_number r) 0 a.register.now ≡ opened (shape a.m a.n a.top a.capacity) a.register.now) _ _ c.from_residual.ensures
    (opened-no _ _ e.ensures (no-some e.was))

pub write_empty-requires : goal.write_empty-requires
write_empty-requires c = opened-passes _ c.args.register.now (yes-is c.in_ok-ask_open.was c.ask_open.ensures)

pub returns : goal.returns
returns c = opened-yes _ _ (yes-is c.in_ok-ask_open.was c.ask_open.ensures) c.write_empty.ensures
