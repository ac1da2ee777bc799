use Rattle.search.proofs.SideLaws.{first-over}
use Rattle.search.proofs.ThinnedLaws.{has-below, held_start, held-second, held_first, held-less}
use Rattle.search.proofs.domination.held_against.Goals as goal

pub loop-b-init : goal.loop-b-init
loop-b-init c = held_start _ _ _ _ _ _ _ c.args.left.is_set c.args.against.is_set c.requires.0 c.requires.1 c.requires.2

pub covered-requires : goal.covered-requires
covered-requires c = let p = c.requires in (has-below _ _ p.0, has-below _ _ c.in-Some.ensures.0)

pub loop-b-smaller-in-None : goal.loop-b-smaller-in-None
loop-b-smaller-in-None c = held-less c.loop-b.invariant _ _ c.in-Some.ensures.0 c.in-Some.ensures.1

pub without-requires : goal.without-requires
without-requires c = has-below _ _ c.requires.0

pub returns-in-Some-First : goal.returns-in-Some-First
returns-in-Some-First c =
    held_first c.loop-b.invariant _ _ c.in-Some.ensures.0 c.in-Some.ensures.1 _
    (first-over _ (c.covered.ensures.first (rw c.in-Some-First.field-0-is at c.in-Some-First.is))) c.without.result.is_set c.without.ensures

pub without-out-requires : goal.without-out-requires
without-out-requires c = has-below _ _ c.in-Some.ensures.0

pub loop-b-smaller : goal.loop-b-smaller
loop-b-smaller c = held-less c.loop-b.invariant _ _ c.in-Some.ensures.0 c.in-Some.ensures.1

pub loop-b-preserved : goal.loop-b-preserved
loop-b-preserved c =
    held-second c.loop-b.invariant _ _ c.in-Some.ensures.0 c.in-Some.ensures.1 _ c.pop_first.new.self.is_set
    (c.covered.ensures.second (rw c.in-Some-Second.field-0-is at c.in-Some-Second.is)) c.without-out.result.is_set c.without-out.ensures
