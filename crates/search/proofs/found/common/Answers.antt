use Rattle.std.proofs.Common.{arith, rules}
use Rattle.search.proofs.SymmetryLaws.{row_at}
use Rattle.search.proofs.FoundLaws.{common-more}
use Rattle.search.proofs.found.common.Goals as goal

pub loop-i-preserved : goal.loop-i-preserved
loop-i-preserved c =
    let l = c.loop-i in
    let a = c.args in
    common-more _ _ _ l.i _ _ (omega arith) (row_at a.a l.i) (row_at a.b l.i) (search rules) l.invariant
