-- `differences` meets its contract. The loop's invariant: in how many of the first c columns the rows differ.
use Rattle.std.proofs.Common.{◌≡◌}
use Rattle.search.proofs.DifferenceLaws.{counted}
use Rattle.search.proofs.pairs.differences.Given as goal

abbrev pub invariant-loop-c : goal.invariant-loop-c
invariant-loop-c l = l.count ≡ counted l.levels l.p l.q l.c
