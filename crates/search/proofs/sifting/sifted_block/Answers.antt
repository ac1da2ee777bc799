use Rattle.std.proofs.Common.{◌≡◌, ◌+◌, ◌-◌, ◌<◌, ◌∙◌, arith, rules}
use Rattle.search.specs.ColumnLists.{levels_of}
use Rattle.search.proofs.TallyLaws.{tally-is, levels-cap, level-words}
use Rattle.search.proofs.SiftedLaws.{going_start, going-keep, going-skip, going-low, going-lone, at-most-le}
use Rattle.search.proofs.sifting.sifted_block.Goals as goal

pub loop-i-init : goal.loop-i-init
loop-i-init c =
    let a = c.args in
    let pre = c.requires in (
      omega arith,
      omega arith,
      (λ x l. c.counted-count.ensures x l ∙ tally-is 0 a.tables.now.words a.columns.0 x a.s (a.e - a.s)),
      going_start _ _ _ _ c.args.rest.is_set pre.2,
    )

pub returns-then-is_lone : goal.returns-then-is_lone
returns-then-is_lone c =
    let l = c.loop-i in
    record { leads = going-lone _ _ _ _ _ _ _ l.invariant.0 l.invariant.3 (c.is_lone.ensures c.if-is_lone.true); some = l.invariant.3.some }

pub kept-keep-requires : goal.kept-keep-requires
kept-keep-requires c =
    let l = c.loop-i in
    let a = c.args in (
      omega (arith, c.requires.1),
      (λ x b. omega (arith, l.invariant.2 x b, at-most-le (a.e - a.s) (levels_of a.tables.now.words a.columns.0 a.s x) l.v, c.requires.1)),
    )

pub counted-count-requires-then-is_empty : goal.counted-count-requires-then-is_empty
counted-count-requires-then-is_empty c =
    let l = c.loop-i in
    let a = c.args in
    let k = c.kept-keep in
    let z : k.result.bytes ≡ 0 = search rules in
    let iw : l.i < a.e - a.s = omega arith in
    let low : l.v < 15 = going-low _ _ _ _ _ _ _ _ _ iw l.invariant.3 k.ensures l.invariant.2 z (levels-cap a.tables.now.words a.columns.0 a.s (level-words _ _ a.tables.now.are_tables.by_rows.small a.tables.now.are_tables.by-columns)) in
    (c.requires.0, c.requires.1, omega arith)

pub loop-i-smaller-then-is_empty : goal.loop-i-smaller-then-is_empty
loop-i-smaller-then-is_empty c =
    let l = c.loop-i in
    let a = c.args in
    let k = c.kept-keep in
    let z : k.result.bytes ≡ 0 = search rules in
    let iw : l.i < a.e - a.s = omega arith in
    let low : l.v < 15 = going-low _ _ _ _ _ _ _ _ _ iw l.invariant.3 k.ensures l.invariant.2 z (levels-cap a.tables.now.words a.columns.0 a.s (level-words _ _ a.tables.now.are_tables.by_rows.small a.tables.now.are_tables.by-columns)) in
    omega arith

pub loop-i-preserved-then-is_empty : goal.loop-i-preserved-then-is_empty
loop-i-preserved-then-is_empty c =
    let l = c.loop-i in
    let a = c.args in
    let k = c.kept-keep in
    let z : k.result.bytes ≡ 0 = search rules in
    let iw : l.i < a.e - a.s = omega arith in
    let low : l.v < 15 = going-low _ _ _ _ _ _ _ _ _ iw l.invariant.3 k.ensures l.invariant.2 z (levels-cap a.tables.now.words a.columns.0 a.s (level-words _ _ a.tables.now.are_tables.by_rows.small a.tables.now.are_tables.by-columns)) in (
      l.invariant.0,
      omega arith,
      (λ x b. c.counted-count-then-is_empty.ensures x b ∙ tally-is (l.v + 1) a.tables.now.words a.columns.0 x a.s (a.e - a.s)),
      going-skip _ _ _ _ _ _ _ _ _ iw l.invariant.3 k.ensures l.invariant.2 z,
    )

pub loop-i-preserved : goal.loop-i-preserved
loop-i-preserved c =
    let l = c.loop-i in
    let k = c.kept-keep in
    let iw : l.i < c.args.e - c.args.s = omega arith in (
      omega arith,
      l.invariant.1,
      l.invariant.2,
      going-keep _ _ _ _ _ _ _ _ _ iw l.invariant.3 k.ensures l.invariant.2 k.result.is_set (search rules),
    )

pub returns : goal.returns
returns c =
    let l = c.loop-i in
    let a = c.args in
    let e : l.i ≡ a.e - a.s = omega arith in
    record { leads = rw e at l.invariant.3.leads; some = l.invariant.3.some }
