-- `by_one` meets its contract.
use Rattle.search.proofs.SideLaws.{exchanged, one_side}
use Rattle.search.proofs.domination.by_one.Goals as goal

pub returns : goal.returns
returns c =
    let e = exchanged _ _ _ _ _ _ _ _ c.requires.0 c.requires.1 (c.is_crossed.ensures c.if-not-is_crossed.false) c.oriented-p.ensures in
    one_side _ _ _ _ _ _ _ _ _ c.requires.2 e c.told.ensures
