use Rattle.std.proofs.Common.{arith}
use Rattle.search.proofs.SymmetryLaws.{row_at, reached-none, reached-next}
use Rattle.search.proofs.symmetries.KnownSymmetries.images.Goals as goal
use Rattle.search.proofs.symmetries.KnownSymmetries.images.Goals.{then-image-lt8+then-has, else-image-lt8}

pub loop-r-init : goal.loop-r-init
loop-r-init c = reached-none _ _ _ _ c.args.covered.is_set

pub with-out-requires : goal.with-out-requires
with-out-requires c = c.if-image-lt8.true

pub loop-r-preserved : goal.loop-r-preserved
loop-r-preserved c =
    let l = c.loop-r in
    let a = c.args in
    elim c.if-image-lt8.branch [
      | then-image-lt8+then-has w ↦ rw w.out-is (reached-next _ _ _ _ _ l.r _ _ (omega arith) (w.has.ensures.yes w.if-has.true) (row_at a.self.now.maps _) w.with-out.result.is_set w.with-out.ensures l.invariant)
      | else-image-lt8 w ↦ rw w.out-is l.invariant
    ]

pub returns : goal.returns
returns c = c.loop-r.invariant
