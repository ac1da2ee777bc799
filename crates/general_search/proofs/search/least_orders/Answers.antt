-- `least_orders` meets its contract. The search starts from the identities, with no row placed.
use mathlib.Core.Path.{refl, sym, ◌∙◌}
use Rattle.general_search.proofs.BoundLaws.{bound-none, bound-placed}
use Rattle.general_search.proofs.PlaceLaws.{root-searching, outcome-least}
use Rattle.general_search.proofs.search.least_orders.Goals as goal
use Rattle.general_search.proofs.search.least_orders.Goals.{then-search, else-search}

pub lowered-low-requires : goal.lowered-low-requires
lowered-low-requires c = root-searching _ _ _ _ c.requires.0 c.requires.1 c.root-root.ensures

pub place-requires : goal.place-requires
place-requires c =
    let s = root-searching _ _ _ _ c.requires.0 c.requires.1 c.root-root.ensures in
    elim c.if-search.branch [
      | then-search w ↦ rw (w.search-is, w.low-is) (bound-placed _ _ _ _ _ _ _ _ s w.lowered-low.ensures)
      | else-search w ↦
          let u = w.unknown-low.ensures in
          rw (w.search-is, w.low-is) (rw u.0 s, bound-none _ _ _ _ _ _ _ _ (refl, u.1 ∙ sym c.root-root.ensures.none-placed, u.2, u.3) (rw u.0 s.best-orders))
    ]

pub returns : goal.returns
returns c =
    elim c.if-search.branch [
      | then-search w ↦ outcome-least _ _ _ _ _ _ _ c.requires.2 (rw (w.search-is, c.root-root.ensures.none-placed) at c.place.ensures)
      | else-search w ↦ outcome-least _ _ _ _ _ _ _ c.requires.2 (rw (w.search-is, c.root-root.ensures.none-placed) at c.place.ensures)
    ]
