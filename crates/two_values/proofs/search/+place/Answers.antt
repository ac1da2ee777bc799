use mathlib.Core.Path.{refl, sym, ◌∙◌}
use mathlib.Core.Bool.{true≢false}
use native.Mathlib.Omega.{arith}
use Rattle.two_values.proofs.DominationLaws.{none-marked}
use Rattle.two_values.proofs.PlaceLaws.{standing-small, standing-fits, standing-row, cut, turn-first, turn-skip, turn-stands, turn-back, turn-next, turn-all}
use Rattle.two_values.proofs.PlaceSums.{sum-distinct}
use Rattle.two_values.proofs.search.+place.Goals as goal
use Rattle.two_values.proofs.search.+place.Goals.{then-keys-at+then-left-t+then-not-covered-at+else-found-k, else-keys-at, else-keys-at-via-then-keys-at+then-left-t+else-not-covered-at, else-keys-at-via-then-keys-at+else-left-t, else-keys-at-via-else-keys-at}

pub row_keys-keys-requires : goal.row_keys-keys-requires
row_keys-keys-requires t c = let s = c.requires in (s.tables.by-columns.bits, standing-small _ _ _ _ _ _ _ _ _ _ _ s, standing-fits _ _ _ _ _ _ _ _ _ _ _ s)

pub tells_all-requires : goal.tells_all-requires
tells_all-requires t c = standing-small _ _ _ _ _ _ _ _ _ _ _ c.requires

pub completed-requires : goal.completed-requires
completed-requires t c =
    let s = c.requires in
    (s, omega (arith, s.placed-fits, c.if-k-m.false), sum-distinct _ _ _ _ _ s.tables.columns-fit s.places (c.tells_all.ensures c.if-tells_all.true), c.row_keys-keys.ensures)

pub returns-then-is_cut : goal.returns-then-is_cut
returns-then-is_cut t c =
    let s = c.requires in
    cut _ _ _ _ _ _ _ _ _ _ _ s (omega (arith, s.placed-fits, c.if-k-m.false)) _ c.row_keys-keys.ensures _ _ _ _ c.lowest-least.ensures refl
    c.is_cut.ensures c.if-is_cut.true c.rekey.ensures

pub loop-t-init : goal.loop-t-init
loop-t-init t c =
    let s = c.requires in (
      refl,
      turn-first _ _ _ _ _ _ _ _ _ _ _ _ _ _ _ _ _ _ _ s (omega (arith, s.placed-fits, c.if-k-m.false)) c.row_keys-keys.ensures c.lowest-least.ensures c.left-left.ensures
          refl c.is_cut.ensures c.if-is_cut.false c.is_lower-fresh.ensures c.rekey-2.ensures refl none-marked,
    )

pub bounds-covered-at : goal.bounds-covered-at
bounds-covered-at t c = standing-row _ _ _ _ _ _ _ _ _ _ _ c.loop-t.invariant.1.stands _ c.loop-t-test.true _ c.number-row.ensures

pub refined-requires : goal.refined-requires
refined-requires t c =
    let h = c.loop-t.invariant.1 in
    (h.stands.tables.by_rows.bits, standing-row _ _ _ _ _ _ _ _ _ _ _ h.stands _ c.loop-t-test.true _ c.number-row.ensures, standing-small _ _ _ _ _ _ _ _ _ _ _ h.stands)

pub place-requires : goal.place-requires
place-requires t c =
    let h = c.loop-t.invariant.1 in
    (omega (arith, c.decreases, h.within), turn-stands _ _ _ _ _ _ _ _ _ _ _ _ _ _ _ _ _ _ c.loop-t-test.true h _ c.number-row.ensures c.if-keys-at.true c.if-left-t.true _ c.swapped.ensures _ c.refined.ensures)

pub returns-then-found-k : goal.returns-then-found-k
returns-then-found-k t c =
    turn-back _ _ _ _ _ _ _ _ _ _ _ _ _ _ _ _ _ _ c.loop-t-test.true c.loop-t.invariant.1 _ c.number-row.ensures c.if-keys-at.true c.if-left-t.true _ c.swapped.ensures _
    c.place.ensures c.if-found-k.true _ c.rekey-2.ensures.best

pub covered_with-covered-requires : goal.covered_with-covered-requires
covered_with-covered-requires t c =
    let h = c.loop-t.invariant.1 in
    (h.within, h.stands.rows, c.place.ensures.symmetries, standing-row _ _ _ _ _ _ _ _ _ _ _ h.stands _ c.loop-t-test.true _ c.number-row.ensures)

pub loop-t-preserved : goal.loop-t-preserved
loop-t-preserved t c =
    let l = c.loop-t in
    let tm = c.loop-t-test.true in
    let row = c.number-row.ensures in
    let h = l.invariant.1 in
    elim c.if-keys-at.branch [
      | then-keys-at+then-left-t+then-not-covered-at+else-found-k w ↦ (
        rw w.covered-is w.covered_with-covered.ensures.size,
        rw (w.found-is, w.fresh-is, w.covered-is) (turn-next _ _ _ _ _ _ _ _ _ _ _ _ _ _ _ _ _ _ tm h _ row w.if-keys-at.true w.if-left-t.true _ w.swapped.ensures _ w.place.ensures (λ z. omega (arith, w.if-found-k.false)) _ w.covered_with-covered.ensures),
      )
      | else-keys-at w ↦ (
        rw w.covered-is l.invariant.0,
        rw (w.found-is, w.fresh-is, w.covered-is) (turn-skip _ _ _ _ _ _ _ _ _ _ _ _ _ _ _ _ _ _ tm h _ row (elim w.else-keys-at.branch [
          | else-keys-at-via-then-keys-at+then-left-t+else-not-covered-at v ↦ λ z. v.if-not-covered-at.false
          | else-keys-at-via-then-keys-at+else-left-t v ↦ λ z. absurd (true≢false (sym z.stays ∙ v.if-left-t.false))
          | else-keys-at-via-else-keys-at v ↦ λ z. absurd (v.if-keys-at.false (rw row z.has-least))
        ])),
      )
    ]

pub returns : goal.returns
returns t c =
    let l = c.loop-t in
    turn-all _ _ _ _ _ _ _ _ _ _ _ _ _ _ l.t _ _ _ c.loop-t-test.false l.invariant.1 _ c.rekey-2.ensures.best
