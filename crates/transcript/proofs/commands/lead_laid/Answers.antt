-- `lead_laid` meets its contract: the first field, and but for a count the second.
use mathlib.Core.Path.{◌≡◌, sym, ap, ◌∙◌}
use mathlib.Core.Bool.{true}
use mathlib.Core.Logic.{◌↔◌}
use native.Mathlib.Omega.{arith}
use lib.ListN.{length, take}
use lib.Seq.{length-take-le}
use Rattle.layout.specs.Decimal.{field}
use Rattle.transcript.specs.Commands.{command_number}
use Rattle.transcript.proofs.LeadLaws.{with-client, lead-least, lead-other, lead-no-first, lead-alone, lead-both}
use Rattle.transcript.proofs.commands.lead_laid.Goals as goal
use Rattle.transcript.proofs.commands.lead_laid.Goals.{After-is_field-first}

pub slice_bounds-is_field-end : goal.slice_bounds-is_field-end
slice_bounds-is_field-end c = sym (length-take-le 6 c.args.line.now (omega (arith, c.requires.1, lead-least (command_number c.args.command))))

told : (c : After-is_field-first) → (c.is_field-first.result ≡ true) ↔ (take 6 c.args.line.now ≡ field (length (take 6 c.args.line.now)) (command_number c.args.command))
told c = rw c.number.ensures at c.is_field-first.ensures

pub returns-in-Count : goal.returns-in-Count
returns-in-Count c = lead-alone _ c.args.line.now c.requires.1 (told ((goal.at.returns-in-Count c).After-is_field-first)) (ap command_number c.in-Count.is)

pub slice_bounds-is_field-end-then-first : goal.slice_bounds-is_field-end-then-first
slice_bounds-is_field-end-then-first c = omega (arith, c.requires.1, lead-other (command_number c.args.command) (with-client c.args.command c.in-Enter.client c.in-Enter.is).0)

pub returns-else-first : goal.returns-else-first
returns-else-first c = lead-no-first _ c.args.line.now c.requires.1 (told ((goal.at.returns-else-first c).After-is_field-first)) c.if-first.false

pub returns-then-first : goal.returns-then-first
returns-then-first c =
    let w = with-client c.args.command c.in-Enter.client c.in-Enter.is in
    lead-both _ c.args.line.now c.requires.1 (told ((goal.at.returns-then-first c).After-is_field-first)) c.if-first.true w.0 (w.1 ∙ c.requires.0.client-is) c.is_field.ensures
