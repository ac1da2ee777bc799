use Rattle.std.proofs.Common.{◌≡◌, length, ap, ◌∙◌, arith}
use Rattle.lines.proofs.TableLaws.{length-put, cells-none, cells-next}
use Rattle.lines.proofs.tables.fill.Given as given
use Rattle.lines.proofs.tables.fill.Goals as goal

pub loop-k-init : goal.loop-k-init
loop-k-init g c = (omega arith, cells-none c.args.table.now _ _ (given.F-post g c.args.last))

pub loop-k-preserved : goal.loop-k-preserved
loop-k-preserved g c =
    let l = c.loop-k in
    let d = c.put.ensures in
    (ap length d ∙ length-put _ _ _ _ _ ∙ l.invariant.0, rw d (cells-next l.table l.k c.args.a c.args.b _ (given.F-post g c.args.last) (omega arith) c.last.ensures l.invariant.1))

pub returns : goal.returns
returns g c = let e : c.loop-k.k ≡ c.args.cells = omega arith in rw e at c.loop-k.invariant.1
