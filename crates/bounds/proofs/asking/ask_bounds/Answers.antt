-- `ask_bounds` meets its contract: each return has passed the questions before it.
use mathlib.Core.Path.{◌≡◌, sym, ◌∙◌}
use mathlib.Core.List.{[], ◌∷◌}
use mathlib.Core.Bool.{true}
use borrow.Author.Rules.{rules}
use Rattle.grids.specs.Questions.{question7}
use Rattle.grids.proofs.QuestionLaws.{two-capped, first-cells-no, second-cells-no}
use Rattle.bounds.proofs.PruneSteps.{bounds-lengths-no, bounds-cells-no, bounds-order-no, bounds-yes}
use Rattle.bounds.proofs.asking.ask_bounds.Goals as goal
use Rattle.bounds.proofs.asking.ask_bounds.Goals.{then-low-size-via-then-low-size, then-low-size-via-else-low-size+then-high-size, then-not-is_capped-via-then-not-is_capped, then-not-is_capped-via-else-not-is_capped+then-not-is_capped-2, After-is_ordered}

pub returns-then-low-size : goal.returns-then-low-size
returns-then-low-size c =
    bounds-lengths-no _ _ _ _
    (λ h. elim c.then-low-size.branch [
      | then-low-size-via-then-low-size w ↦ w.if-low-size.true h.0
      | then-low-size-via-else-low-size+then-high-size w ↦ w.if-high-size.true h.1
    ])

pub returns-then-not-is_capped : goal.returns-then-not-is_capped
returns-then-not-is_capped c =
    bounds-cells-no _ _ _ _ (c.if-low-size.false, c.if-high-size.false)
    (elim c.then-not-is_capped.branch [
      | then-not-is_capped-via-then-not-is_capped w ↦ first-cells-no _ _ _ (sym c.is_capped.ensures ∙ w.if-not-is_capped.true)
      | then-not-is_capped-via-else-not-is_capped+then-not-is_capped-2 w ↦
          second-cells-no _ _ _ _ (sym c.is_capped.ensures ∙ w.if-not-is_capped.false) (sym w.is_capped-else-not-is_capped.ensures ∙ w.if-not-is_capped-2.true)
    ])

-- past question 7

capped-all : (c : After-is_ordered) →
    let a = c.args in
    (question7 a.top (a.low.now ∷ a.high.now ∷ [])).answer ≡ true
capped-all c =
    two-capped _ _ _ (sym c.is_capped.ensures ∙ c.if-not-is_capped.false) (sym c.is_capped-else-not-is_capped.ensures ∙ c.if-not-is_capped-2.false)

pub returns-then-not-is_ordered : goal.returns-then-not-is_ordered
returns-then-not-is_ordered c =
    bounds-order-no _ _ _ _ (c.if-low-size.false, c.if-high-size.false) (capped-all ((goal.at.returns-then-not-is_ordered c).After-is_ordered))
    (λ h. let f = c.is_ordered.ensures.1 h in search rules)

pub returns : goal.returns
returns c =
    bounds-yes _ _ _ _ (c.if-low-size.false, c.if-high-size.false) (capped-all ((goal.at.returns c).After-is_ordered))
    (c.is_ordered.ensures.0 (search rules))
