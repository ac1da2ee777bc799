use Rattle.std.proofs.Common.{◌≡◌, refl, arith}
use Rattle.search.proofs.LoopLaws.{turned-cell}
use Rattle.search.proofs.TableLaws.{words-none, word_next, columns-table}
use Rattle.search.proofs.tables.by_columns.Goals as goal

pub loop-r-init : goal.loop-r-init
loop-r-init c = words-none _ _ refl

pub loop-c-preserved : goal.loop-c-preserved
loop-c-preserved c =
    let l = c.loop-c in
    rw c.from.ensures (turned-cell l.invariant _ (omega arith) (word_next c.args.levels.now c.requires _ _ _ _ (omega arith) (omega arith) (l.invariant.todo l.c (omega arith) (omega arith))))

pub returns : goal.returns
returns c =
    let l = c.loop-r in
    let e : l.r ≡ 0 = omega arith in
    columns-table c.args.levels.now c.requires _ (rw e at l.invariant)
