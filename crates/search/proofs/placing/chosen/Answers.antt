-- `chosen` meets its contract: a set is as good as itself, and what is left of it, once covered rows are taken, is as good too.
use Rattle.search.proofs.ThinnedLaws.{thinned-thins}
use Rattle.search.proofs.TurnLaws.{thins-itself, node-left}
use Rattle.search.proofs.placing.chosen.Goals as goal

pub returns-then-known-ne0 : goal.returns-then-known-ne0
returns-then-known-ne0 c = thins-itself c.args.rows.is_set

pub returns-then-is_lone : goal.returns-then-is_lone
returns-then-is_lone c = thins-itself c.args.rows.is_set

pub returns : goal.returns
returns c =
    let s = c.requires in
    thinned-thins _ _ _ _ _ _ _ _ _ (node-left s.0) _ s.2 _ c.undominated.ensures
