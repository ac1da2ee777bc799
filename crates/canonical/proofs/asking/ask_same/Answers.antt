use Rattle.std.proofs.Common.{refl, sym, ◌∙◌}
use Rattle.refusals.proofs.NumberLaws.{handed-on, no-some}
use Rattle.canonical.specs.Same.{same_questions}
use Rattle.canonical.proofs.CallLaws.{same-pass}
use Rattle.canonical.proofs.CallerSteps.{admitted, among-yes, turned-away}
use Rattle.canonical.proofs.asking.ask_same.Goals as goal

pub returns-in_err-admit-clause-asked : goal.returns-in_err-admit-clause-asked
unfolding same_questions
returns-in_err-admit-clause-asked g c =
    let e = c.in_err-admit in
    handed-on _ _ c.from_residual.ensures (turned-away g.met.C.Caller.laws _ _ e.ensures (no-some e.was) _)

pub returns-in_err-admit-clause-passed : goal.returns-in_err-admit-clause-passed
returns-in_err-admit-clause-passed g c z = absurd (no-some c.in_err-admit.was (sym (handed-on _ _ c.from_residual.ensures refl) ∙ z))

pub returns-clause-asked : goal.returns-clause-asked
returns-clause-asked g c = c.ask_grids.ensures ∙ sym (among-yes g.met.C.Caller.laws _ (admitted g.met.C.Caller.laws _ c.in_ok-admit.was c.admit.ensures) _)

pub returns-clause-passed : goal.returns-clause-passed
returns-clause-passed g c z =
    let y = sym c.ask_grids.ensures ∙ z in
    let l = ((same-pass _ _ _ _ _).0 y).0 in
    (g.met.C.Caller.laws.few _ (admitted g.met.C.Caller.laws _ c.in_ok-admit.was c.admit.ensures) l.rows-limits.1, y)
