use mathlib.Core.Path.{refl, sym, ◌∙◌}
use mathlib.Core.List.{[]}
use Rattle.refusals.proofs.NumberLaws.{handed-on, no-some, yes-is}
use Rattle.grids.specs.Questions.{first_no, question7}
use Rattle.grids.proofs.QuestionLaws.{first_no-pass, first_no-stop, one-capped, first-cells-no}
use Rattle.canonical.proofs.CallSteps.{represent-no, second-next}
use Rattle.canonical.proofs.asking.ask_grids.Goals as goal

pub returns-in_err-ask_grid : goal.returns-in_err-ask_grid
returns-in_err-ask_grid c = let e = c.in_err-ask_grid in handed-on _ _ c.from_residual.ensures (sym (represent-no _ _ _ _ _ _ e.ensures (no-some e.was)))

pub returns-then-not-is_capped : goal.returns-then-not-is_capped
unfolding question7
returns-then-not-is_capped c =
    sym (second-next _ _ _ _ _ _ (yes-is c.in_ok-ask_grid.was c.ask_grid.ensures) refl ∙ first_no-stop _ [] (first-cells-no _ _ _ (sym c.if-not-is_capped.ensures)))

pub returns : goal.returns
unfolding first_no
returns c =
    sym (second-next _ _ _ _ _ _ (yes-is c.in_ok-ask_grid.was c.ask_grid.ensures) refl ∙ first_no-pass _ [] (one-capped _ _ (sym c.if-not-is_capped.ensures)))
