use native.Mathlib.Omega.{arith}
use lib.ListN.{length-map}
use Rattle.layout.specs.Layout.{Entry, grids_of, decode}
use Rattle.calls.proofs.ValidLaws.{valid-count}
use Rattle.calls.proofs.PlaceLaws.{between_start, between_lower}
use Rattle.register.proofs.places.lower_bound.Goals as goal

pub loop-span-init : goal.loop-span-init
loop-span-init c = rw (length-map (decode c.args.register.now).entries (λ (x : Entry). x.grid), valid-count c.requires) at (between_start (grids_of (decode c.args.register.now).entries) c.args.grid.now)

pub halved-span-requires : goal.halved-span-requires
halved-span-requires c = (c.requires, c.loop-span.invariant, omega arith)

pub loop-span-smaller : goal.loop-span-smaller
loop-span-smaller c = c.halved-span.ensures.shorter

pub loop-span-preserved : goal.loop-span-preserved
loop-span-preserved c = c.halved-span.ensures.between

pub returns : goal.returns
returns c = between_lower c.loop-span.invariant (omega arith)
