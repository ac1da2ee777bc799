-- The loop of `composed` has filled the positions before `i`; the others hold their own numbers.
use Rattle.std.proofs.Common.{take}
use Rattle.permutations.specs.Permutations.{composed}
use Rattle.permutations.specs.Padded.{padded}
use Rattle.permutations.specs.Numbered.{Lists}
use Rattle.permutations.proofs.permutation.Permutation.composed.Given as goal

abbrev pub invariant-loop-i : goal.invariant-loop-i
invariant-loop-i g l =
    Lists (padded g.row.N l.i (composed l.self.size (take l.self.size l.self.at) (take l.self.size l.other.at))) l.self.size l.out
