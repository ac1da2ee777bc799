-- The loop of `inverse` has written each position before `i` at the number that it holds; from the size on each position holds its own.
use Rattle.std.proofs.Common.{◌≡◌}
use Rattle.permutations.proofs.NumbersSteps.{Scattered}
use Rattle.permutations.proofs.permutation.Permutation.inverse.Given as goal

abbrev pub invariant-loop-i : goal.invariant-loop-i
invariant-loop-i g l = (l.out.size ≡ l.self.size) × Scattered g.row.N l.self.size l.self.at l.i l.out.at
