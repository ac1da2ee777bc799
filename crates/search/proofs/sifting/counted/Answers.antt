use Rattle.std.proofs.Common.{◌-◌, ◌<◌, sym, ◌∙◌, arith}
use Rattle.search.proofs.LaneLaws.{lane-zero}
use Rattle.search.proofs.TallyLaws.{tally-zero, column-small, level-word, level-words, counted-sum}
use Rattle.search.proofs.sifting.counted.Goals as goal

pub loop-u-init : goal.loop-u-init
loop-u-init c = (
  omega arith,
  (λ i l. lane-zero i ∙ sym (tally-zero c.args.v c.args.tables.now.words c.args.columns.0 i c.args.s (c.args.s - c.args.s) (omega arith))),
)

pub bounds-tables-column : goal.bounds-tables-column
bounds-tables-column c = omega (arith, c.column_at-column.ensures, column-small c.args.columns.0 c.loop-u.u)

pub at_most-count-requires : goal.at_most-count-requires
at_most-count-requires c =
    let small : c.column_at-column.result.0 < 16 = omega (arith, c.column_at-column.ensures, column-small c.args.columns.0 c.loop-u.u) in
    (level-word _ _ (level-words _ _ c.args.tables.now.are_tables.by_rows.small c.args.tables.now.are_tables.by-columns) small, c.requires.2)

pub loop-u-preserved : goal.loop-u-preserved
loop-u-preserved c =
    let l = c.loop-u in
    let a = c.args in
    let u16 : l.u < 16 = omega (arith, c.requires.1) in (
      omega (arith, l.invariant.0, c.at_most-count.ensures.small),
      counted-sum a.v a.tables.now.words a.columns.0 a.s l.u c.column_at-column.result.0 l.count c.at_most-count.result (omega arith) u16 c.column_at-column.ensures l.invariant.1 c.at_most-count.ensures.lanes,
    )
