use Rattle.std.proofs.Common.{arith}
use Rattle.search.proofs.KeySteps.{row_within, key-at, lowest-one, lowest-next}
use Rattle.search.proofs.keys.lowest.Goals as goal

pub bounds-keys-rows : goal.bounds-keys-rows
bounds-keys-rows c =
    row_within c.args.rows c.requires.2 c.args.k (omega arith) _

pub loop-t-init : goal.loop-t-init
loop-t-init c =
    lowest-one c.args.k _ _ _ (key-at c.args.rows c.requires.2 c.args.k (omega arith) _ c.args.keys.now)

pub bounds-keys-rows-in-loop-t : goal.bounds-keys-rows-in-loop-t
bounds-keys-rows-in-loop-t c =
    let l = c.loop-t in
    row_within c.args.rows c.requires.2 l.t (omega arith) _

pub loop-t-preserved : goal.loop-t-preserved
loop-t-preserved c =
    let l = c.loop-t in
    let key = key-at c.args.rows c.requires.2 l.t (omega arith) (record { 0 = 0 }) c.args.keys.now in
    lowest-next l.invariant _ key (omega arith) _ c.min-least.ensures
