use Rattle.std.proofs.Common.{sym, ◌∙◌, inl, inr, arith}
use Rattle.search.proofs.NodeLaws.{standing-node}
use Rattle.search.proofs.PlaceLaws.{cut, outcome-for}
use Rattle.search.proofs.TurnLaws.{some_next, begun-either, begun-order, begun-equal, begun-copy, turn-first, turn-row, turn-row-below, turn-skip, turn-stands, turn-back, turn-next, turn-all}
use Rattle.search.proofs.placing.+place.Goals as goal
use Rattle.search.proofs.placing.+place.Goals.{then-is_written, else-is_written, then-is_followed+else-now-k, else-is_followed}

pub is_settled-requires : goal.is_settled-requires
is_settled-requires t c = c.requires.placed-fits

pub returns-then-is_cut : goal.returns-then-is_cut
returns-then-is_cut t c =
    let s = c.requires in
    let ready = c.with_keys-now.ensures in
    outcome-for _ _ _ ready.best
    (cut ready.stands (omega (arith, s.placed-fits, c.if-k-tables.false)) _ c.next_rows-next.ensures _ _ ready.ready c.key-known.ensures c.is_cut.ensures c.if-is_cut.true)

pub matched-requires : goal.matched-requires
matched-requires t c =
    let s = c.requires in
    let ready = c.with_keys-now.ensures in
    let h =
    begun-either {old = c.args.found} ready.stands (omega (arith, s.placed-fits, c.if-k-tables.false)) c.next_rows-next.ensures ready.best ready.ready c.key-known.ensures c.is_cut.ensures c.if-is_cut.false c.is_lower-fresh.ensures c.is_written.ensures {now = c.if-is_written.now}
    (elim c.if-is_written.branch [ then-is_written w ↦ inl (w.if-is_written.true, w.now-is ∙ w.set_key.ensures) | else-is_written w ↦ inr (w.if-is_written.false, w.now-is) ]) in
    let last = c.is_last.ensures c.if-is_last.true in
    (h.stands.rows, begun-order h last.0 last.1, (h.following 0).symmetries, begun-equal h last.0 last.1)

pub returns-then-is_last : goal.returns-then-is_last
returns-then-is_last t c =
    let s = c.requires in
    let ready = c.with_keys-now.ensures in
    let h =
    begun-either {old = c.args.found} ready.stands (omega (arith, s.placed-fits, c.if-k-tables.false)) c.next_rows-next.ensures ready.best ready.ready c.key-known.ensures c.is_cut.ensures c.if-is_cut.false c.is_lower-fresh.ensures c.is_written.ensures {now = c.if-is_written.now}
    (elim c.if-is_written.branch [ then-is_written w ↦ inl (w.if-is_written.true, w.now-is ∙ w.set_key.ensures) | else-is_written w ↦ inr (w.if-is_written.false, w.now-is) ]) in
    let last = c.is_last.ensures c.if-is_last.true in
    begun-copy h last.0 last.1 _ c.matched.ensures

pub chosen-rows-requires : goal.chosen-rows-requires
chosen-rows-requires t c =
    let s = c.requires in
    let ready = c.with_keys-now.ensures in
    let h =
    begun-either {old = c.args.found} ready.stands (omega (arith, s.placed-fits, c.if-k-tables.false)) c.next_rows-next.ensures ready.best ready.ready c.key-known.ensures c.is_cut.ensures c.if-is_cut.false c.is_lower-fresh.ensures c.is_written.ensures {now = c.if-is_written.now}
    (elim c.if-is_written.branch [ then-is_written w ↦ inl (w.if-is_written.true, w.now-is ∙ w.set_key.ensures) | else-is_written w ↦ inr (w.if-is_written.false, w.now-is) ]) in
    (standing-node h.stands h.within, some_next h.next, h.next.left)

pub loop-t-init : goal.loop-t-init
loop-t-init t c =
    let s = c.requires in
    let ready = c.with_keys-now.ensures in
    let h =
    begun-either {old = c.args.found} ready.stands (omega (arith, s.placed-fits, c.if-k-tables.false)) c.next_rows-next.ensures ready.best ready.ready c.key-known.ensures c.is_cut.ensures c.if-is_cut.false c.is_lower-fresh.ensures c.is_written.ensures {now = c.if-is_written.now}
    (elim c.if-is_written.branch [ then-is_written w ↦ inl (w.if-is_written.true, w.now-is ∙ w.set_key.ensures) | else-is_written w ↦ inr (w.if-is_written.false, w.now-is) ]) in
    (rw c.empty-covered.ensures (turn-first h c.chosen-rows.ensures), h)

pub is_followed-requires : goal.is_followed-requires
is_followed-requires t c = turn-row-below c.loop-t-test.true c.loop-t.invariant.0

pub deeper-deeper-requires : goal.deeper-deeper-requires
deeper-deeper-requires t c =
    let h = c.loop-t.invariant.0 in
    (standing-node h.stands h.within, h.next, h.following.first, c.loop-t-test.true, turn-row c.loop-t-test.true h)

pub place-now-requires : goal.place-now-requires
place-now-requires t c =
    let h = c.loop-t.invariant.0 in
    let d = c.deeper-deeper.ensures in
    (omega (arith, c.decreases, h.within, d.placed), turn-stands c.loop-t-test.true h _ c.is_followed.ensures c.if-is_followed.true _ d)

pub returns-then-now-k : goal.returns-then-now-k
returns-then-now-k t c =
    let h = c.loop-t.invariant.0 in
    let start = c.loop-t.invariant.1 in
    turn-back c.loop-t-test.true h _ c.is_followed.ensures c.if-is_followed.true _ c.deeper-deeper.ensures _ c.place-now.ensures c.if-now-k.true _ (sym start.kept-best ∙ start.same-best)

pub covered_with-covered-requires : goal.covered_with-covered-requires
covered_with-covered-requires t c =
    let h = c.loop-t.invariant.0 in
    let s = h.stands in
    (h.within, s.rows, c.place-now.ensures.symmetries, turn-row-below c.loop-t-test.true h)

pub loop-t-preserved : goal.loop-t-preserved
loop-t-preserved t c =
    let l = c.loop-t in
    let tm = c.loop-t-test.true in
    let test = c.is_followed.ensures in
    elim c.if-is_followed.branch [
      | then-is_followed+else-now-k w ↦ (
        rw (w.now-is, w.fresh-is, w.covered-is) (turn-next tm l.invariant.0 _ test w.if-is_followed.true _ w.deeper-deeper.ensures _ w.place-now.ensures w.if-now-k.false _ w.covered_with-covered.ensures),
        l.invariant.1,
      )
      | else-is_followed w ↦ (rw (w.now-is, w.fresh-is, w.covered-is) (turn-skip tm l.invariant.0 _ test w.if-is_followed.false), l.invariant.1)
    ]

pub returns : goal.returns
returns t c =
    let start = c.loop-t.invariant.1 in
    turn-all c.loop-t-test.false c.loop-t.invariant.0 _ (sym start.kept-best ∙ start.same-best)
