-- `is_entry` meets its contract: no line, or the comparison with its entry.
use Rattle.register.proofs.PlaceSteps.{past-entry, at_entry}
use Rattle.register.proofs.places.is_entry.Goals as goal

pub returns-then-count-e : goal.returns-then-count-e
returns-then-count-e c = past-entry _ _ _ c.if-count-e.true

pub returns : goal.returns
returns c =
    let d = c.compare_entry in
    at_entry _ _ _ _ _ c.if-count-e.false c.is_eq.ensures d.ensures
