-- The loop of `parting` has found the numbers before `i` the same.
use Rattle.std.proofs.Common.{◌≡◌, ℕ, ◌<◌, get_or}
use Rattle.permutations.proofs.permutation.Permutation.parting.Given as goal

abbrev pub invariant-loop-i : goal.invariant-loop-i
invariant-loop-i g l = (j : ℕ) → j < l.i → get_or l.self.at j 0 ≡ get_or l.other.at j 0
