-- `by_two` meets its contract.
use Rattle.search.proofs.SideLaws.{exchanged, apart-turned, two-sides}
use Rattle.search.proofs.domination.by_two.Goals as goal

pub returns : goal.returns
returns c =
    let first = exchanged _ _ _ _ _ _ _ _ c.requires.0 c.requires.1 (c.is_crossed.ensures c.if-not-is_crossed.false) c.oriented.ensures in
    let second = exchanged _ _ _ _ _ _ _ _ c.requires.2 c.requires.3 (c.is_crossed-2.ensures c.if-not-is_crossed-2.false) c.oriented-2.ensures in
    two-sides _ _ _ _ _ _ _ _ _ _ _ c.requires.4 first second (apart-turned c.oriented.ensures c.oriented-2.ensures c.requires.5) c.told.ensures
