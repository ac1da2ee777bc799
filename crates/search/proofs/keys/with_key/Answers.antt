use Rattle.std.proofs.Common.{arith}
use Rattle.search.proofs.KeySteps.{row_at, row_within, with_none, with-next, with-skip}
use Rattle.search.proofs.keys.with_key.Goals as goal
use Rattle.search.proofs.keys.with_key.Goals.{then-keys-row, else-keys-row}

pub loop-t-init : goal.loop-t-init
loop-t-init c = rw c.empty-out.ensures (with_none _ _ _ _)

pub bounds-keys-row : goal.bounds-keys-row
bounds-keys-row c = row_within c.args.rows c.requires.2 c.loop-t.t (omega arith) _

pub with-out-requires : goal.with-out-requires
with-out-requires c = row_within c.args.rows c.requires.2 c.loop-t.t (omega arith) _

pub loop-t-preserved : goal.loop-t-preserved
loop-t-preserved c =
    let l = c.loop-t in
    let row = row_at c.args.rows c.requires.2 l.t (omega arith) (record { 0 = 0 }) in
    elim c.if-keys-row.branch [
      | then-keys-row w ↦ rw w.out-is (with-next l.t _ _ _ _ _ _ (omega arith) row l.invariant w.if-keys-row.true _ w.with-out.result.is_set w.with-out.ensures)
      | else-keys-row w ↦ rw w.out-is (with-skip l.t _ _ _ _ _ _ (omega arith) row l.invariant w.if-keys-row.false)
    ]
