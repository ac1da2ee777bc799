use native.Mathlib.Omega.{arith}
use Rattle.two_values.proofs.DominationLaws.{drops-none, drops-twice}
use Rattle.two_values.proofs.LoserLaws.{drops-loser}
use Rattle.two_values.proofs.contests.Contest.against.Goals as goal
use Rattle.two_values.proofs.contests.Contest.against.Goals.{in-Some, in_default}

pub loop-t-init : goal.loop-t-init
loop-t-init c = drops-none _ _ _ _ _ _ c.requires.0

pub loop-t-preserved : goal.loop-t-preserved
loop-t-preserved c =
    let l = c.loop-t in
    let h = c.args.self.now.prepared in
    elim c.match-loser.branch [
      | in-Some w ↦ rw w.out-is
          (drops-twice _ _ _ _ _ _ _ _ l.invariant
          (drops-loser _ _ _ _ _ _ _ _ _ _ _ h _ l.invariant.size _ l.t _ c.requires.1 (omega arith) (omega arith) w.in-Some.ensures))
      | in_default w ↦ rw w.out-is l.invariant
    ]
