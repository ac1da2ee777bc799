use Rattle.std.proofs.Common.{◌≡◌, refl, ◌∙◌, arith}
use Rattle.search.proofs.TableLaws.{run_none, run-next, bit-cell, bits-table}
use Rattle.search.proofs.tables.by_bits.Goals as goal

pub loop-c-init : goal.loop-c-init
loop-c-init c = run_none _ _ refl

pub loop-r-preserved : goal.loop-r-preserved
loop-r-preserved c =
    let l = c.loop-r in
    run-next l.invariant _ _ (omega arith) (omega arith) (c.from.ensures ∙ bit-cell _ _ _ _ (omega arith))

pub returns : goal.returns
returns c =
    let l = c.loop-c in
    let e : l.c ≡ c.args.n = omega arith in
    let p = c.requires in
    bits-table _ _ _ _ _ _ _ p.0 p.1 p.2 p.3 p.4 p.5 c.level-lowest.ensures (rw e at l.invariant)
