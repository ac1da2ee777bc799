-- The loop of `identity` has filled the positions before `i` with their own numbers, as far as a byte holds them.
use Rattle.std.proofs.Common.{◌≡◌, ℕ, ◌<◌, ◌%◌, length, get_or}
use Rattle.permutations.proofs.permutation.Permutation.identity.Given as goal

abbrev pub invariant-loop-i : goal.invariant-loop-i
invariant-loop-i g l = (length l.at ≡ g.row.N) × ((j : ℕ) → j < l.i → get_or l.at j 0 ≡ j % 256)
