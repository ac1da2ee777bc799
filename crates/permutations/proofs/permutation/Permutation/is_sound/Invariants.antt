-- The loop of `is_sound` has found each number below `k` among the first positions.
use Rattle.std.proofs.Common.{ℕ, ◌<◌, take}
use Rattle.permutations.specs.Permutations.{position}
use Rattle.permutations.proofs.permutation.Permutation.is_sound.Given as goal

abbrev pub invariant-loop-k : goal.invariant-loop-k
invariant-loop-k g l = (j : ℕ) → j < l.k → position (take l.self.size l.self.at) j < l.self.size
