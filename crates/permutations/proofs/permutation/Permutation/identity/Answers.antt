use Rattle.std.proofs.Common.{◌∙◌, ◌<◌, ◌≢◌, ◌%◌, length, arith, get_or-set_other, get_or-set_same, below_more, length-set}
use Rattle.std.proofs.Math.Nat.{mod-eq_of_lt}
use Rattle.permutations.proofs.NumbersSteps.{own-numbers}
use Rattle.permutations.proofs.permutation.Permutation.identity.Goals as goal

pub loop-i-preserved : goal.loop-i-preserved
loop-i-preserved g c =
    let l = c.loop-i in
    let n = l.invariant.0 in (
      length-set l.at l.i (l.i % 256) ∙ n,
      below_more _ _
          (λ k h. let ne : k ≢ l.i = omega arith in rw get_or-set_other (l.invariant.1 k h))
          (let lt : l.i < length l.at = omega arith in rw get_or-set_same),
    )

pub returns : goal.returns
returns g c =
    let l = c.loop-i in
    λ fits.
    record {
      numbers = c.listed.ensures.numbers ∙ own-numbers g.row.N l.at l.invariant.0 (λ j h. l.invariant.1 j (omega arith) ∙ mod-eq_of_lt (omega arith));
      size = c.listed.ensures.size;
    }
