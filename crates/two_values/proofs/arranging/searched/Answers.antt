-- `searched` meets its contract.
use mathlib.Core.Path.{refl}
use native.Mathlib.Omega.{arith}
use Rattle.two_values.proofs.RefinedLaws.{places-are}
use Rattle.two_values.proofs.ArrangedLaws.{starting, searched-least}
use Rattle.two_values.proofs.arranging.searched.Goals as goal

pub place-requires : goal.place-requires
place-requires c =
    starting _ _ _ _ _ _ _ _ _ c.args.grid.now.tables (c.identity-rows.ensures (omega arith)) c.first_places-after.ensures refl refl refl

pub sorted-requires : goal.sorted-requires
sorted-requires c =
    let t = c.args.grid.now.tables in
    let k = c.place.ensures.known in
    (t.columns-fit, places-are _ _ _ _ _ t.columns-fit k.places.size k.places.holds)

pub returns : goal.returns
returns c =
    let t = c.args.grid.now.tables in
    let o = c.place.ensures in
    record {
      rows = o.known.rows;
      columns = c.sorted.ensures.columns;
      gives = searched-least _ _ _ _ _ _ _ _ _ t.columns-fit t.size o c.sorted.ensures;
    }
