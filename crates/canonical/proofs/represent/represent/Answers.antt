-- A refusal has the number of the first no; past the questions the least arrangement is written.
use Rattle.std.proofs.Common.{refl, sym, ◌∙◌}
use Rattle.refusals.proofs.NumberLaws.{no-some}
use Rattle.canonical.proofs.CallLaws.{represent-pass}
use Rattle.canonical.proofs.CallSteps.{represent-refused-by, represent-gives, narrowed-produces}
use Rattle.canonical.proofs.represent.represent.Goals as goal

pub returns-in_err-ask_represent-clause-answer : goal.returns-in_err-ask_represent-clause-answer
returns-in_err-ask_represent-clause-answer g c =
    let e = c.in_err-ask_represent in
    represent-refused-by _ _ _ _ _ _ _ _ c.from_residual.ensures e.ensures.asked (λ z. no-some e.was (e.ensures.asked ∙ z))

pub least_orders-least-requires : goal.least_orders-least-requires
least_orders-least-requires g c =
    let q = c.in_ok-ask_represent.ensures.passed refl in
    let f = (represent-pass _ _ _ _ _).0 q.1 in
    (q.0, f.0.column-limits.1, f.1.sized)

pub write_arrangement-requires : goal.write_arrangement-requires
write_arrangement-requires g c =
    let f = (represent-pass _ _ _ _ _).0 (c.in_ok-ask_represent.ensures.passed refl).1 in
    (f.0.rows-limits.1, f.0.column-limits.1, f.2)

pub returns-clause-answer : goal.returns-clause-answer
returns-clause-answer g c =
    let l = c.least_orders-least.ensures in
    let few = (c.in_ok-ask_represent.ensures.passed refl).0 in
    represent-gives _ _ _ _ _ _ _ (sym c.in_ok-ask_represent.ensures.asked)
    (record {
      number_is = refl;
      written = c.write_arrangement.ensures ∙ l.gives;
      produced = let narrow = g.met.C.Caller.laws.narrow in narrowed-produces _ _ few narrow l (c.narrowed.ensures.rows narrow) c.narrowed.ensures.columns;
    })
