use mathlib.Core.Path.{refl}
use Prim.Native.Nat.{◌-◌}
use native.Mathlib.Omega.{arith}
use Rattle.layout.specs.Layout.{head_length}
use Rattle.layout.proofs.LineLaws.{start-zero}
use Rattle.scan.proofs.EntryLaws.{Begins, line_begins, cells-none, lines-one, lines_next, lines-first-not, lines-not, lines-all}
use Rattle.scan.proofs.LineLaws.{start-within}
use Rattle.scan.proofs.entries.lines_laid.Goals as goal
use Rattle.scan.proofs.entries.lines_laid.Goals.{In-loop-e}

pub line_laid-requires : goal.line_laid-requires
line_laid-requires c =
    let t = c.args.tables.now in
    (omega arith, omega (arith, start-zero t.size, start-within t.size 0 c.args.count (omega arith)), omega arith, cells-none _ _ _)

pub returns-then-not-line_laid : goal.returns-then-not-line_laid
returns-then-not-line_laid c =
    let f = c.line_laid in
    let t = c.args.tables.now in
    lines-first-not t.size t.top c.args.count head_length c.args.register.now (omega arith) refl f.result f.ensures c.if-not-line_laid.true

pub loop-e-init : goal.loop-e-init
loop-e-init c =
    let t = c.args.tables.now in
    lines-one t.size t.top head_length c.args.register.now refl (c.line_laid.ensures.0 c.if-not-line_laid.false)

-- where a line and the one before it begin, and that the line is within
begins : (c : In-loop-e) → Begins c.args.tables.now.size c.loop-e.e c.args.count c.line_length-length.result
begins c = line_begins _ _ _ _ c.loop-e.auto.e c.loop-e-test.true c.line_length-length.ensures.0

pub overflow_add-at : goal.overflow_add-at
overflow_add-at c =
    let b = begins ((goal.at.overflow_add-at c).In-loop-e) in
    omega (arith, b.within)

pub next_laid-requires : goal.next_laid-requires
next_laid-requires c =
    let b = begins ((goal.at.next_laid-requires c).In-loop-e) in
    let l = c.loop-e in
    (omega (arith, b.above), omega (arith, b.within), rw b.before (l.invariant.lines (l.e - 1) (omega arith)))

pub returns-then-not-next_laid : goal.returns-then-not-next_laid
returns-then-not-next_laid c =
    let b = begins ((goal.at.returns-then-not-next_laid c).In-loop-e) in
    let f = c.next_laid in
    let t = c.args.tables.now in
    lines-not t.size t.top c.loop-e.e _ _ c.args.register.now c.loop-e.auto.e b.here b.before c.args.count c.loop-e-test.true f.result f.ensures c.if-not-next_laid.true

pub loop-e-preserved : goal.loop-e-preserved
loop-e-preserved c =
    let b = begins ((goal.at.loop-e-preserved c).In-loop-e) in
    let t = c.args.tables.now in
    lines_next t.size t.top c.loop-e.e _ _ c.args.register.now c.loop-e.auto.e b.here b.before c.loop-e.invariant (c.next_laid.ensures.0 c.if-not-next_laid.false)

pub returns : goal.returns
returns c = lines-all _ _ c.loop-e.e _ _ (omega arith) c.loop-e.invariant
