-- `follow` and `place` meet their contracts.
use mathlib.Core.Path.{refl, sym}
use mathlib.Core.Bool.{true≢false}
use native.Mathlib.Omega.{arith}
use Rattle.general_search.proofs.SearchLaws.{searching-better}
use Rattle.general_search.proofs.BoundLaws.{bound-none, bound-placed}
use Rattle.general_search.proofs.FollowSteps.{further, follow-cut, follow-jump, follow-last, follow-settled, follow-again, goes_back}
use Rattle.general_search.proofs.PlaceLaws.{followed-above, followed-repeated, followed-self, followed-better, followed-all, outcome-better, outcome-searched}
use Rattle.general_search.proofs.state.Search.+follow_place.Goals as goal
use Rattle.general_search.proofs.state.Search.+follow_place.Goals.{follow-then-goes_back-via-then-goes_back, follow-then-goes_back-via-else-goes_back+then-settled, place-then-made, place-else-made, place-then-not-above-t+then-not-repeated+else-goes_back, place-else-not-above-t, place-else-not-above-t-via-then-not-above-t+else-not-repeated, place-else-not-above-t-via-else-not-above-t}

-- ---- `follow`

pub follow-returns-then-is_gt : goal.follow-returns-then-is_gt
follow-returns-then-is_gt t c =
    let p = c.requires in
    follow-cut _ _ _ _ _ _ _ _ _ _ p.0 p.1 p.2 p.3 p.4 c.compare_at-found.ensures _ _ _ c.is_gt.ensures c.if-is_gt.true refl refl

pub follow-last-requires : goal.follow-last-requires
follow-last-requires t c =
    let p = c.requires in
    (further _ _ _ _ _ _ _ _ _ _ p.0 p.1 p.2 p.3 p.4 c.compare_at-found.ensures _ c.lesser-out.ensures _ c.is_gt.ensures c.if-is_gt.false _ c.split.ensures, omega (arith, c.if-self-k.true))

pub follow-returns-then-self-k : goal.follow-returns-then-self-k
follow-returns-then-self-k t c =
    let p = c.requires in
    follow-last _ _ _ _ _ _ _ _ _ _ p.0 p.1 p.2 p.3 p.4 c.compare_at-found.ensures _ c.lesser-out.ensures _ _ c.last.ensures.1 c.last.ensures.0

pub follow-bounded-low-requires : goal.follow-bounded-low-requires
follow-bounded-low-requires t c =
    let p = c.requires in
    further _ _ _ _ _ _ _ _ _ _ p.0 p.1 p.2 p.3 p.4 c.compare_at-found.ensures _ c.lesser-out.ensures _ c.is_gt.ensures c.if-is_gt.false _ c.split.ensures

pub follow-place-deeper-requires : goal.follow-place-deeper-requires
follow-place-deeper-requires t c =
    let p = c.requires in (
      omega (arith, p.1, p.2),
      bound-placed _ _ _ _ _ _ _ _ (further _ _ _ _ _ _ _ _ _ _ p.0 p.1 p.2 p.3 p.4 c.compare_at-found.ensures _ c.lesser-out.ensures _ c.is_gt.ensures c.if-is_gt.false _ c.split.ensures)
          c.bounded-low.ensures,
    )

pub follow-returns-then-goes_back : goal.follow-returns-then-goes_back
follow-returns-then-goes_back t c =
    let p = c.requires in
    let back = goes_back _ _ c.place-deeper.result _ p.0.placed-fits c.goes_back.ensures in
    let deeper = outcome-better _ _ _ _ _ _ _ _ _ c.bounded-low.ensures.improves c.place-deeper.ensures in
    elim c.then-goes_back.branch [
      | follow-then-goes_back-via-then-goes_back w ↦
          follow-jump _ _ _ _ _ _ _ _ _ _ p.0 p.1 p.2 p.3 p.4 c.compare_at-found.ensures _ c.lesser-out.ensures _ _ deeper (back.0 w.if-goes_back.true)
      | follow-then-goes_back-via-else-goes_back+then-settled w ↦
          follow-settled _ _ _ _ _ _ _ _ _ _ p.0 p.1 p.2 p.3 p.4 c.compare_at-found.ensures _ c.lesser-out.ensures _ _ deeper (back.1 w.if-goes_back.false) _
          w.settled.ensures w.if-settled.true
    ]

pub follow-place-requires : goal.follow-place-requires
follow-place-requires t c =
    let p = c.requires in
    let f = further _ _ _ _ _ _ _ _ _ _ p.0 p.1 p.2 p.3 p.4 c.compare_at-found.ensures _ c.lesser-out.ensures _ c.is_gt.ensures c.if-is_gt.false _ c.split.ensures in
    let i = (outcome-better _ _ _ _ _ _ _ _ _ c.bounded-low.ensures.improves c.place-deeper.ensures).improves in
    let u = c.unknown.ensures in
    let s = searching-better _ _ _ _ _ _ _ _ f i in
    (omega (arith, p.1, p.2), (rw u.0 s, bound-none _ _ _ _ _ _ _ _ (refl, u.1, u.2, u.3) (rw u.0 i.orders)))

pub follow-returns : goal.follow-returns
follow-returns t c =
    let p = c.requires in
    let deeper = outcome-better _ _ _ _ _ _ _ _ _ c.bounded-low.ensures.improves c.place-deeper.ensures in
    follow-again _ _ _ _ _ _ _ _ _ _ p.0 p.1 p.2 p.3 p.4 c.compare_at-found.ensures _ c.lesser-out.ensures _ _ deeper _ (rw c.unknown.ensures.0 at c.place.ensures)

-- ---- `place`

pub place-follow-found-requires : goal.place-follow-found-requires
place-follow-found-requires t c =
    let l = c.loop-t.invariant in
    let s = c.requires.0 in (
      omega arith,
      (
        searching-better _ _ _ _ _ _ _ _ s l.0.improves,
        omega (arith, c.requires.1.first),
        c.loop-t-test.true,
        followed-self _ _ _ _ _ _ _ _ _ s l.0,
        elim c.if-made.branch [ place-then-made w ↦ rw w.next-is (l.2 w.if-made.true) | place-else-made w ↦ rw w.next-is w.candidate-next.ensures ],
      ),
    )

pub place-returns-then-goes_back : goal.place-returns-then-goes_back
place-returns-then-goes_back t c =
    let back = goes_back _ _ c.follow-found.result _ c.requires.0.placed-fits c.goes_back.ensures in
    outcome-better _ _ _ _ _ _ _ _ _ c.loop-t.invariant.0.improves (c.follow-found.ensures.returns (back.0 c.if-goes_back.true))

pub place-loop-t-preserved : goal.place-loop-t-preserved
place-loop-t-preserved t c =
    let l = c.loop-t in
    let h = l.invariant.0 in
    let tm = c.loop-t-test.true in
    let p = c.requires in
    let s = p.0 in (
      elim c.if-not-above-t.branch [
        | place-then-not-above-t+then-not-repeated+else-goes_back w ↦
            let back = goes_back _ _ w.follow-found.result _ s.placed-fits w.goes_back.ensures in
            rw w.found-is (followed-better _ _ _ _ _ _ _ _ _ s h _ (w.follow-found.ensures.goes_on (back.1 w.if-goes_back.false)))
        | place-else-not-above-t w ↦
            rw w.found-is (elim w.else-not-above-t.branch [
              | place-else-not-above-t-via-then-not-above-t+else-not-repeated v ↦
                  let r = v.repeated.ensures.found v.if-not-repeated.false in
                  followed-repeated _ _ _ _ _ _ _ _ _ s h r.0 r.1 r.2 tm r.3
              | place-else-not-above-t-via-else-not-above-t v ↦ followed-above _ _ _ _ _ _ _ _ _ s h (p.1.above l.t (omega arith) tm v.if-not-above-t.false)
            ])
      ],
      elim c.if-not-above-t.branch [
        | place-then-not-above-t+then-not-repeated+else-goes_back w ↦
            rw w.found-is ((goes_back _ _ w.follow-found.result _ s.placed-fits w.goes_back.ensures).1 w.if-goes_back.false)
        | place-else-not-above-t w ↦ rw w.found-is l.invariant.1
      ],
      λ y. absurd (true≢false (sym y)),
    )

pub place-returns : goal.place-returns
place-returns t c =
    let l = c.loop-t in
    outcome-searched _ _ _ _ _ _ _ _ l.invariant.1 (followed-all _ _ _ _ l.t _ _ _ _ c.requires.0 l.invariant.0 c.loop-t-test.false)
