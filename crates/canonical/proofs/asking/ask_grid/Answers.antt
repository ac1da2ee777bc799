use mathlib.Core.Path.{refl, sym}
use Rattle.refusals.proofs.NumberLaws.{handed-on, no-some, yes-is}
use Rattle.grids.proofs.QuestionLaws.{shape-refuses, cells-refuse, one-capped, first-cells-no}
use Rattle.canonical.specs.Represent.{represent_questions}
use Rattle.canonical.proofs.CallSteps.{none-refuses}
use Rattle.canonical.proofs.asking.ask_grid.Goals as goal

pub returns-in_err-ask_shape : goal.returns-in_err-ask_shape
unfolding represent_questions
returns-in_err-ask_shape c = let e = c.in_err-ask_shape in handed-on _ _ c.from_residual.ensures (sym (shape-refuses _ _ _ _ _ _ e.ensures _ (no-some e.was)))

pub returns-then-not-is_capped : goal.returns-then-not-is_capped
unfolding represent_questions
returns-then-not-is_capped c =
    sym (cells-refuse _ _ _ _ _ _ (yes-is c.in_ok-ask_shape.was c.ask_shape.ensures) refl _ _ (first-cells-no _ _ _ (sym c.if-not-is_capped.ensures)))

pub returns : goal.returns
unfolding represent_questions
returns c = sym (none-refuses _ _ _ _ _ _ _ (yes-is c.in_ok-ask_shape.was c.ask_shape.ensures) refl (one-capped _ _ (sym c.if-not-is_capped.ensures)))
