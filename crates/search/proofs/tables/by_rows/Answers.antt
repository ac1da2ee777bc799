use Rattle.std.proofs.Common.{◌≡◌, ◌+◌, ◌*◌, refl, inl, inr, arith}
use Rattle.search.proofs.TableLaws.{ReadAs, run_none, read_none, read-next, read-done, rows-table}
use Rattle.search.proofs.tables.by_rows.Goals as goal
use Rattle.search.proofs.tables.by_rows.Goals.{In-loop-i, then-n-eq16, else-n-eq16}

read : (c : In-loop-i) → ReadAs c.args.m c.args.n c.args.grid.now c.if-n-eq16.rows.0 c.if-n-eq16.rows.1
read c =
    elim c.if-n-eq16.branch [
      | then-n-eq16 w ↦ rw w.rows-is (inl (w.if-n-eq16.true, refl, refl))
      | else-n-eq16 w ↦ rw w.rows-is (inr (refl, refl))
    ]

pub loop-i-init : goal.loop-i-init
loop-i-init c = (
  λ b. run_none _ _ refl,
  λ e. read_none _ c.args.n c.args.grid.now c.if-n-eq16.rows.0 c.if-n-eq16.rows.1 _ c.requires.0 c.requires.1 c.requires.2
      (elim c.if-n-eq16.branch [
        | then-n-eq16 w ↦ rw w.rows-is (inl (w.if-n-eq16.true, refl, refl))
        | else-n-eq16 w ↦ rw w.rows-is (inr (refl, refl))
      ]) refl e,
)

pub loop-j-init : goal.loop-j-init
loop-j-init c =
    let l = c.loop-i in
    let e : l.i * 16 + 0 ≡ l.i * 16 = omega arith in
    rw e (l.invariant.0 c.loop-i-test.true)

pub loop-j-preserved : goal.loop-j-preserved
loop-j-preserved c =
    read-next _ _ _ _ _ _ c.requires.0 c.requires.1 c.requires.2 (read ((goal.at.loop-j-preserved c).In-loop-i)) _ _ _ c.loop-i-test.true c.loop-j-test.true c.level.ensures
    c.loop-j.invariant

pub loop-i-preserved : goal.loop-i-preserved
loop-i-preserved c =
    read-done _ _ _ _ _ _ c.requires.0 c.requires.1 c.requires.2 (read ((goal.at.loop-i-preserved c).In-loop-i)) _ _ c.loop-i-test.true (omega arith) c.loop-j.invariant

pub returns : goal.returns
returns c = rows-table _ _ _ _ c.requires.0 c.requires.1 (c.loop-i.invariant.1 (omega arith))
