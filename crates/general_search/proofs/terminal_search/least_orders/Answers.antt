-- `least_orders` meets its contract. The search starts from the identities, with no row placed, and with the bound by the counts.
use mathlib.Core.Path.{sym}
use native.Mathlib.Omega.{arith}
use Rattle.general_search.proofs.BoundLaws.{bound-placed}
use Rattle.general_search.proofs.PlaceLaws.{root-searching, placed-all, searched-least, outcome-least}
use Rattle.general_search.proofs.terminal_search.least_orders.Goals as goal

pub returns-then-m-eq0 : goal.returns-then-m-eq0
returns-then-m-eq0 c =
    let pre = c.requires in
    let z = c.root-root.ensures.none-placed in
    let s = rw z at (root-searching c.args.m c.args.n c.args.grid.now c.root-root.result (omega (arith, pre.0)) pre.1 c.root-root.ensures) in
    searched-least _ _ _ _ _ _ pre.2 (placed-all _ _ _ _ _ _ _ (sym c.if-m-eq0.true) s)

pub first_bound-low-requires : goal.first_bound-low-requires
first_bound-low-requires c =
    let pre = c.requires in
    let r = c.root-root.ensures in
    (root-searching _ _ _ _ (omega (arith, pre.0)) pre.1 r, r.none-placed, omega (arith, c.if-m-eq0.false), pre.0, c.all_counts-all.ensures)

pub place-requires : goal.place-requires
place-requires c =
    let pre = c.requires in
    bound-placed _ _ _ _ _ _ _ _ (root-searching _ _ _ _ (omega (arith, pre.0)) pre.1 c.root-root.ensures) c.first_bound-low.ensures

pub returns : goal.returns
returns c = outcome-least _ _ _ _ _ _ _ c.requires.2 (rw c.root-root.ensures.none-placed at c.place.ensures)
