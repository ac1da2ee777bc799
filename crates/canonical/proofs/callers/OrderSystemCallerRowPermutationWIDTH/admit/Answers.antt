use Rattle.std.proofs.Common.{refl}
use Rattle.grids.specs.Questions.{first_no}
use Rattle.canonical.proofs.callers.OrderSystemCallerRowPermutationWIDTH.admit.Goals as goal

pub returns : goal.returns
unfolding first_no
returns c = refl
