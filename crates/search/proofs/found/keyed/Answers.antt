use Rattle.std.proofs.Common.{◌∙◌, arith, length-set}
use Rattle.branches.proofs.RefinedLaws.{places-after}
use Rattle.search.proofs.SymmetryLaws.{row_below}
use Rattle.search.proofs.FoundLaws.{row-key}
use Rattle.search.proofs.LoopLaws.{filled_next}
use Rattle.search.proofs.found.keyed.Goals as goal

pub listed-columns-requires : goal.listed-columns-requires
listed-columns-requires c =
    let z = c.requires in
    (c.args.tables.now.are_tables.columns-fit, places-after _ _ _ _ _ c.args.tables.now.are_tables.columns-fit z.1)

pub digits-requires : goal.digits-requires
digits-requires c = row_below _ c.args.found.best c.loop-i.i c.args.tables.now.are_tables.rows_fit (omega arith) c.requires.0

pub loop-i-preserved : goal.loop-i-preserved
loop-i-preserved c =
    let l = c.loop-i in
    let next = row-key _ _ _ _ _ c.args.found.best _ _ l.i _ c.args.tables.now.are_tables.columns-fit c.args.tables.now.are_tables.by_rows c.requires.0 c.requires.1 c.listed-columns.ensures (omega arith) c.digits.ensures in
    (length-set l.keys _ _ ∙ l.invariant.0, filled_next l.invariant.1 _ (omega (arith, c.args.tables.now.are_tables.rows_fit)) next)
