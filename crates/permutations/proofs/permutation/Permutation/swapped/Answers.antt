use Rattle.std.proofs.Common.{◌∙◌}
use Rattle.permutations.proofs.SwapLaws.{swapped-of}
use Rattle.permutations.proofs.permutation.Permutation.swapped.Goals as goal

pub returns : goal.returns
returns g c =
    let once = c.set.ensures in
    let twice = c.set-2.ensures in
    record {
      numbers = swapped-of _ _ _ _ _ _ _ c.number-first.ensures c.number-second.ensures once.numbers twice.numbers;
      size = twice.size ∙ once.size;
    }
