use Rattle.std.proofs.Common.{refl, ap, ◌+◌, ◌*◌, ◌∙◌, arith}
use Rattle.branches.specs.Keys.{number}
use Rattle.search.specs.ColumnLists.{column_at}
use Rattle.search.specs.Tables.{entry}
use Rattle.search.proofs.KeySteps.{column-most, digit-next, number-room}
use Rattle.search.proofs.keys.digits.Goals as goal

pub loop-j-init : goal.loop-j-init
unfolding number
loop-j-init c = refl

pub level-requires : goal.level-requires
level-requires c = (c.requires, omega (arith, c.column_at.ensures, column-most c.args.columns.0 c.loop-j.j))

pub overflow_mul-number : goal.overflow_mul-number
overflow_mul-number c =
    let l = c.loop-j in
    omega (arith, l.invariant, c.args.tables.now.are_tables.columns-fit, number-room l.j (λ i. entry c.args.tables.now.levels c.args.row.0 (column_at c.args.columns.0 i)) (λ i. c.args.tables.now.are_tables.by_rows.small _) (omega (arith, c.args.tables.now.are_tables.columns-fit)))

pub overflow_add-number : goal.overflow_add-number
overflow_add-number c =
    let l = c.loop-j in
    omega (arith, c.from.ensures, c.level.ensures, c.args.tables.now.are_tables.by_rows.small (c.args.row.0 * 16 + c.column_at.result.0), l.invariant, number-room l.j (λ i. entry c.args.tables.now.levels c.args.row.0 (column_at c.args.columns.0 i)) (λ i. c.args.tables.now.are_tables.by_rows.small _) (omega (arith, c.args.tables.now.are_tables.columns-fit)))

pub loop-j-preserved : goal.loop-j-preserved
loop-j-preserved c =
    let l = c.loop-j in
    digit-next l.j (λ i. entry c.args.tables.now.levels c.args.row.0 (column_at c.args.columns.0 i)) _ _ l.invariant (c.from.ensures ∙ c.level.ensures ∙ ap (entry c.args.tables.now.levels c.args.row.0) c.column_at.ensures)
