-- `covered_with` meets its contract: where no symmetry is kept the set stays as it is, and else it takes the row, and is spread.
use Rattle.search.proofs.SymmetryLaws.{spreads-with}
use Rattle.search.proofs.symmetries.KnownSymmetries.covered_with.Goals as goal

pub returns-else-self-eq0 : goal.returns-else-self-eq0
returns-else-self-eq0 c = spreads-with _ _ _ _ _ _ _ _ _ c.with.ensures c.spread.ensures
