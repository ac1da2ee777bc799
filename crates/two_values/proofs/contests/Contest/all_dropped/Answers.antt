use Rattle.two_values.proofs.DominationLaws.{drops-none, drops-twice}
use Rattle.two_values.proofs.contests.Contest.all_dropped.Goals as goal

pub loop-s-init : goal.loop-s-init
loop-s-init c = drops-none _ _ _ _ _ _ c.requires

pub returns-then-eq : goal.returns-then-eq
returns-then-eq c = drops-twice _ _ _ _ _ _ _ _ c.loop-s.invariant c.against-out.ensures

pub loop-s-preserved : goal.loop-s-preserved
loop-s-preserved c = drops-twice _ _ _ _ _ _ _ _ c.loop-s.invariant c.against-out.ensures
