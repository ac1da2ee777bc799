use Rattle.std.proofs.Common.{arith}
use Rattle.search.proofs.SymmetryLaws.{spreads-refl, spreads-images}
use Rattle.search.proofs.symmetries.KnownSymmetries.spread.Goals as goal
use Rattle.search.proofs.symmetries.KnownSymmetries.spread.Goals.{then-fixes, else-fixes}

pub loop-s-init : goal.loop-s-init
loop-s-init c = spreads-refl _ _ _ _ _ _ c.args.covered.is_set

pub fixes-requires : goal.fixes-requires
fixes-requires c =
    let z = c.requires in
    (omega (arith, z.2.few), c.args.tables.now.are_tables.rows_fit, omega arith, z.1)

pub images-out-requires : goal.images-out-requires
images-out-requires c =
    let z = c.requires in
    (c.args.tables.now.are_tables.rows_fit, omega (arith, z.2.few))

pub loop-s-preserved : goal.loop-s-preserved
loop-s-preserved c =
    let l = c.loop-s in
    let z = c.requires in
    let y = z.2.each l.s (omega arith) in
    elim c.if-fixes.branch [
      | then-fixes w ↦ rw w.out-is (spreads-images _ _ _ _ _ _ l.s _ _ _ _ c.args.tables.now.are_tables.rows_fit z.0 z.1 y w.if-fixes.true c.fixes.ensures l.invariant w.images-out.ensures)
      | else-fixes w ↦ rw w.out-is l.invariant
    ]

pub returns : goal.returns
returns c = c.loop-s.invariant
