use native.Mathlib.Omega.{arith}
use Rattle.grids.proofs.OrderLaws.{≼-antisymm}
use Rattle.grids.proofs.ComparisonLaws.{less-yes, less-no, greater-yes, greater-no}
use Rattle.general_search.proofs.SearchLaws.{searching-better}
use Rattle.general_search.proofs.BoundLaws.{none-marked, lowest-none, lowest-less, lowest-greater, lowest-equal, lowest-bound}
use Rattle.general_search.proofs.state.Search.lowered.Goals as goal
use Rattle.general_search.proofs.state.Search.lowered.Goals.{then-is_gt, else-is_gt+then-is_lt, else-is_gt+else-is_lt}
use lib.ListN.{length-replicate}
use mathlib.Core.Bool.{false}

pub loop-t-init : goal.loop-t-init
loop-t-init c =
    let u = c.unknown-low.ensures in
    rw (u.0, u.1, u.2, u.3) (lowest-none _ _ _ _ _ _ _ _ c.requires.best-orders (length-replicate 8 false) none-marked)

pub candidate-next-requires-clause-searching : goal.candidate-next-requires-clause-searching
candidate-next-requires-clause-searching c =
    (_, searching-better _ _ _ _ _ _ _ _ c.requires c.loop-t.invariant.improves)

pub bounds-low-t : goal.bounds-low-t
bounds-low-t c = omega (arith, c.loop-t-test.true, c.requires.rows_fit)

pub loop-t-preserved : goal.loop-t-preserved
loop-t-preserved c =
    let l = c.loop-t in
    let tm = c.loop-t-test.true in
    let pre = c.requires in
    let s = searching-better _ _ _ _ _ _ _ _ pre l.invariant.improves in
    let next = c.candidate-next.ensures in
    let found = c.compare_at-found.ensures in
    let test = c.is_gt.ensures in
    elim c.if-is_gt.branch [
      | then-is_gt w ↦
          rw w.low-is
          (lowest-greater _ _ _ _ _ _ _ _ _ _ _ _ _ s next l.invariant (omega (arith, tm)) (omega (arith, tm, pre.rows_fit)) (greater-yes _ _ _ _ found test w.if-is_gt.true))
      | else-is_gt+then-is_lt w ↦
          rw w.low-is
          (lowest-less _ _ _ _ _ _ _ _ _ _ _ _ _ s next l.invariant (omega (arith, tm)) (less-yes _ _ _ _ found w.is_lt.ensures w.if-is_lt.true))
      | else-is_gt+else-is_lt w ↦
          rw w.low-is
          (lowest-equal _ _ _ _ _ _ _ _ _ _ _ _ _ s next l.invariant (omega (arith, tm))
          (≼-antisymm _ _ (greater-no _ _ _ _ found test w.if-is_gt.false) (less-no _ _ _ _ found w.is_lt.ensures w.if-is_lt.false)))
    ]

pub returns : goal.returns
returns c = lowest-bound _ _ _ _ c.loop-t.t _ _ _ _ (omega arith) c.loop-t.invariant
