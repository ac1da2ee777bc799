use Rattle.std.proofs.Common.{sym, ◌∙◌, arith}
use Rattle.refusals.proofs.NumberLaws.{handed-on, no-some, yes-is}
use Rattle.calls.specs.Calls.{shape}
use Rattle.register.proofs.OpenSteps.{open-numbers, length-no, open-yes, numbers-within, limits-size, length-is}
use Rattle.register.proofs.opening.ask_open.Goals as goal

pub returns-in_err-ask_numbers : goal.returns-in_err-ask_numbers
returns-in_err-ask_numbers c =
    let e = c.in_err-ask_numbers in
    let a = c.args in
    handed-on _ _ c.from_residual.ensures (open-numbers (shape a.m a.n a.top a.capacity) _ e.ensures (no-some e.was))

-- past questions 1 to 4

pub overflow_mul-m : goal.overflow_mul-m
overflow_mul-m c =
    let a = c.args in
    let s = shape a.m a.n a.top a.capacity in
    omega (arith, limits-size s (numbers-within s (yes-is c.in_ok-ask_numbers.was c.ask_numbers.ensures)))

pub line_start-requires : goal.line_start-requires
line_start-requires c =
    let a = c.args in
    let s = shape a.m a.n a.top a.capacity in
    let within = numbers-within s (yes-is c.in_ok-ask_numbers.was c.ask_numbers.ensures) in
    (limits-size s within, within.capacity-limits.1)

pub returns-then-length-line_start : goal.returns-then-length-line_start
returns-then-length-line_start c =
    length-no _ _ (yes-is c.in_ok-ask_numbers.was c.ask_numbers.ensures) (λ h. c.if-length-line_start.true (h ∙ sym (length-is _ c.line_start.ensures.0)))

pub returns : goal.returns
returns c = open-yes _ _ (yes-is c.in_ok-ask_numbers.was c.ask_numbers.ensures) (c.if-length-line_start.false ∙ length-is _ c.line_start.ensures.0)
