-- `lowered` meets its contract. The loop's invariant: `out` improves the best, comes after none of the candidates before position t,
-- covers those before `from` and those marked in `above`, and is the candidate at `from` where it was made so.
use Rattle.general_search.proofs.BoundLaws.{Lowest}
use Rattle.general_search.proofs.state.Search.lowered.Given as goal

abbrev pub invariant-loop-t : goal.invariant-loop-t
invariant-loop-t l = Lowest l.self.m l.self.n l.self.grid.now l.branch.k l.t l.branch.placed l.branch.breaks l.fn.best l.low.best l.low.from l.low.above l.low.made
