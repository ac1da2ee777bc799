use Rattle.std.proofs.Common.{sym, take, arith, below_more}
use Rattle.permutations.proofs.PermutationLaws.{position-within}
use Rattle.permutations.proofs.PaddedLaws.{is_sound-yes, is_sound-no}
use Rattle.permutations.proofs.NumbersSteps.{listing-sound, contained, not-contained}
use Rattle.permutations.proofs.permutation.Permutation.is_sound.Goals as goal
use Rattle.permutations.proofs.permutation.Permutation.is_sound.Goals.{then-size-eq0-via-then-size-eq0, then-size-eq0-via-else-size-eq0+then-size}

pub returns-then-size-eq0 : goal.returns-then-size-eq0
returns-then-size-eq0 g c =
    let p = c.args.self.now in
    sym
    (is_sound-no g.row.N p.size p.at λ s.
    elim c.then-size-eq0.branch [
      | then-size-eq0-via-then-size-eq0 w ↦ omega (arith, s.some, w.if-size-eq0.true)
      | then-size-eq0-via-else-size-eq0+then-size w ↦ omega (arith, s.fits, w.if-size.true)
    ])

pub returns-then-not-contains : goal.returns-then-not-contains
returns-then-not-contains g c =
    let p = c.args.self.now in
    sym
    (is_sound-no g.row.N p.size p.at λ s.
    let at = position-within p.size (take p.size p.at) s.permutation c.loop-k.k (omega arith) in
    not-contained (take p.size p.at) c.loop-k.k _ (omega (arith, at.0, s.permutation.size)) at.1 c.if-not-contains.ensures.cases)

pub loop-k-preserved : goal.loop-k-preserved
loop-k-preserved g c =
    let p = c.args.self.now in
    below_more _ _ c.loop-k.invariant (contained p.size p.at c.loop-k.k c.if-not-contains.ensures.cases)

pub returns : goal.returns
returns g c =
    let p = c.args.self.now in
    sym
    (is_sound-yes g.row.N p.size p.at
    (listing-sound g.row.N p.size p.at (omega arith) (omega arith) (omega arith) λ k h. c.loop-k.invariant k (omega arith)))
