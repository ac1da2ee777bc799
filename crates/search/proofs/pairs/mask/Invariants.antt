-- `mask` meets its contract, which says nothing: no sum and no shift goes too far.
use Rattle.std.proofs.Common.{◌<◌}
use Rattle.search.proofs.pairs.mask.Given as goal

abbrev pub invariant-loop-c : goal.invariant-loop-c
invariant-loop-c l = l.out < 65536
