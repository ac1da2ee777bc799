-- `halved` meets its contract: the entry in the middle says in which half the place is.
use native.Mathlib.Omega.{arith}
use lib.ListN.{length-map}
use Rattle.grids.proofs.ComparisonLaws.{less-yes, less-no}
use Rattle.layout.specs.Layout.{Entry, decode}
use Rattle.calls.proofs.ValidLaws.{valid-ascends, valid-count}
use Rattle.register.proofs.PlaceSteps.{halved-low, halved-high}
use Rattle.register.proofs.places.halved.Goals as goal

pub compare_entry-requires : goal.compare_entry-requires
compare_entry-requires c =
    (c.requires.0, omega (arith, c.requires.2, c.requires.1.within, length-map (decode c.args.register.now).entries (λ (x : Entry). x.grid), valid-count c.requires.0))

pub returns-then-is_lt : goal.returns-then-is_lt
returns-then-is_lt c =
    let d = c.compare_entry in
    halved-low c.args.span (valid-ascends c.requires.0) c.requires.1 c.requires.2 (less-yes _ _ _ _ d.ensures c.is_lt.ensures c.if-is_lt.true)

pub returns-else-is_lt : goal.returns-else-is_lt
returns-else-is_lt c =
    let d = c.compare_entry in
    halved-high c.args.span (valid-ascends c.requires.0) c.requires.1 c.requires.2 (less-no _ _ _ _ d.ensures c.is_lt.ensures c.if-is_lt.false)
