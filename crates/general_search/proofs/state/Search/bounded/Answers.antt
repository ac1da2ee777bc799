-- `bounded` meets its contract: the best as it is, or lowered.
use Rattle.general_search.proofs.BoundLaws.{bound-none}
use Rattle.general_search.proofs.state.Search.bounded.Goals as goal

pub returns-else-self : goal.returns-else-self
returns-else-self c = bound-none _ _ _ _ _ _ _ _ c.unknown.ensures c.requires.best-orders
