use Rattle.search.proofs.ThinnedLaws.{undone-start, undone-less, undone-next}
use Rattle.search.proofs.domination.undominated.Goals as goal

pub loop-a-init : goal.loop-a-init
loop-a-init c = undone-start _ _ _ _ _ c.args.rows.is_set

pub loop-a-smaller : goal.loop-a-smaller
loop-a-smaller c = undone-less c.loop-a.invariant _ _ c.in-Some.ensures.0 c.in-Some.ensures.1 _ _ c.both-todo.ensures

pub loop-a-preserved : goal.loop-a-preserved
loop-a-preserved c =
    undone-next c.loop-a.invariant _ _ c.in-Some.ensures.0 c.in-Some.ensures.1 _ _ c.both-todo.ensures c.held_against-left.ensures c.both-todo.result.is_set
