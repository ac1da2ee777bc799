use Rattle.std.proofs.Common.{◌≡◌, ℕ, ◌-◌, ◌<◌, get_or, ap, arith}
use Rattle.search.specs.ColumnLists.{column_at, end_of, levels_of}
use Rattle.search.proofs.TallyLaws.{column-small}
use Rattle.search.proofs.SiftedLaws.{sifts-none, sifts-block, sifts-lone, starts_none, starts-next}
use Rattle.search.proofs.sifting.sifted.Goals as goal

pub loop-s-init : goal.loop-s-init
loop-s-init c = (omega arith, starts_none _, c.requires.1, sifts-none _ _ _ _)

pub returns-then-is_lone : goal.returns-then-is_lone
returns-then-is_lone c =
    let l = c.loop-s in
    record { sifts = sifts-lone _ _ _ _ _ _ l.invariant.0 l.left.is_set l.invariant.2 (c.is_lone.ensures c.if-is_lone.true) l.invariant.3; some = l.invariant.2 }

pub bounds-places-column : goal.bounds-places-column
bounds-places-column c = omega (arith, c.column_at-column.ensures, column-small c.args.columns.0 c.loop-s.s)

pub loop-s-preserved : goal.loop-s-preserved
loop-s-preserved c =
    let l = c.loop-s in
    let a = c.args in
    let sn : l.s < a.tables.now.n = omega arith in
    let same : get_or a.places.now.counts c.column_at-column.result.0 0 ≡ get_or a.places.now.counts (column_at a.columns.0 l.s) 0 = ap (λ (z : ℕ). get_or a.places.now.counts z 0) c.column_at-column.ensures in
    let ends : ℕ → ℕ = end_of a.columns.0 a.places.now.counts in
    let e : ℕ = 16 - get_or a.places.now.counts c.column_at-column.result.0 0 in
    let es : e ≡ ends l.s = omega arith in
    let k = c.sifted_block-left in (
      omega (arith, c.requires.0.within l.s sn),
      starts-next _ _ c.requires.0 _ _ sn es l.invariant.1,
      k.ensures.some,
      sifts-block _ _ c.requires.0 _ _ sn es (levels_of a.tables.now.words a.columns.0) _ _ _ l.invariant.1 l.invariant.3 k.ensures.leads,
    )

pub returns : goal.returns
returns c =
    let l = c.loop-s in
    let e : l.s ≡ c.args.tables.now.n = omega arith in
    record { sifts = rw e at l.invariant.3; some = l.invariant.2 }
