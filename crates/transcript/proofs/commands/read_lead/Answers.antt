-- `read_lead` meets its contract: a line without a command is not laid, and each command is stated.
use mathlib.Core.Path.{sym, ◌∙◌}
use native.Mathlib.Omega.{arith}
use Rattle.protocol.specs.Input.{command_in}
use Rattle.transcript.proofs.CommandLaws.{laid-some, laid-range, laid-client, enter-stated, strike-stated, count-stated, unlaid}
use Rattle.transcript.proofs.commands.read_lead.Goals as goal

pub returns-then-line-lt-WIDTH : goal.returns-then-line-lt-WIDTH
returns-then-line-lt-WIDTH c = λ size. unlaid size _ (λ t. omega (arith, laid-some size _ t))

pub returns-in_err-read_client-in-1 : goal.returns-in_err-read_client-in-1
unfolding command_in
returns-in_err-read_client-in-1 c =
    rw c.from_residual.ensures (λ size. unlaid size _ (λ t. omega (arith, laid-client size _ t (λ q. omega (arith, c.read_field.ensures.0, c.in-1.is, q)), c.in_err-read_client-in-1.ensures)))

pub returns-in_err-read_client-in-2 : goal.returns-in_err-read_client-in-2
unfolding command_in
returns-in_err-read_client-in-2 c =
    rw c.from_residual-in_err-read_client-in-2.ensures (λ size. unlaid size _ (λ t. omega (arith, laid-client size _ t (λ q. omega (arith, c.read_field.ensures.0, c.in-2.is, q)), c.in_err-read_client-in-2.ensures)))

pub returns-in_ok-read_client-in-1 : goal.returns-in_ok-read_client-in-1
unfolding command_in
returns-in_ok-read_client-in-1 c = enter-stated (sym c.read_field.ensures.0 ∙ c.in-1.is) c.in_ok-read_client-in-1.ensures

pub returns-in_ok-read_client-in-2 : goal.returns-in_ok-read_client-in-2
unfolding command_in
returns-in_ok-read_client-in-2 c = strike-stated (sym c.read_field.ensures.0 ∙ c.in-2.is) c.in_ok-read_client-in-2.ensures

pub returns-in-3 : goal.returns-in-3
unfolding command_in
returns-in-3 c = count-stated (sym c.read_field.ensures.0 ∙ c.in-3.is)

pub returns-in_default : goal.returns-in_default
unfolding command_in
returns-in_default c = λ size. unlaid size _ (λ t. omega (arith, laid-range size _ t, c.read_field.ensures.0))
