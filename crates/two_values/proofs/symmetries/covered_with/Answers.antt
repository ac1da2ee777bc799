use native.Mathlib.Omega.{arith}
use Rattle.two_values.proofs.SymmetryLaws.{symmetries-each, spreads-marked, spreads-images}
use Rattle.two_values.proofs.symmetries.covered_with.Goals as goal
use Rattle.two_values.proofs.symmetries.covered_with.Goals.{then-fixes, else-fixes}

pub returns-then-kept-eq0 : goal.returns-then-kept-eq0
returns-then-kept-eq0 c = spreads-marked _ _ _ _ _ _ _ (omega arith) (omega arith)

pub loop-map-preserved : goal.loop-map-preserved
loop-map-preserved c =
    let l = c.loop-map in
    let z = c.requires in
    let y = symmetries-each _ _ _ _ _ l.map-index z.2 c.loop-map-test.true in
    elim c.if-fixes.branch [
      | then-fixes w ↦ rw w.out-is (spreads-images _ _ _ _ _ _ _ _ _ _ c.args.grid.now.tables.rows_fit z.0 z.1.whole y w.if-fixes.true c.fixes.ensures l.invariant w.images-out.ensures)
      | else-fixes w ↦ rw w.out-is l.invariant
    ]
