use Rattle.std.proofs.Common.{◌∙◌, sym, take, arith}
use Rattle.permutations.specs.Permutations.{IsPermutation}
use Rattle.permutations.proofs.PaddedLaws.{sound, composed_padded-sizes, composed_padded-first, composed_padded-second}
use Rattle.permutations.proofs.NumbersSteps.{padded-none, padded-more, padded-end, composed-entry, composed-sound, entry-within}
use Rattle.permutations.proofs.permutation.Permutation.composed.Goals as goal
use Rattle.permutations.proofs.permutation.Permutation.composed.Goals.{then-self-other-via-then-self-other, then-self-other-via-else-self-other+then-not-is_sound, then-self-other-via-else-self-other+else-not-is_sound+then-not-is_sound-2}

pub returns-then-self-other : goal.returns-then-self-other
returns-then-self-other g c =
    let N = g.row.N in
    let p = c.args.self in
    let r = c.args.other in
    let o = c.identity-out.ensures (omega arith) in
    λ fits.
    record {
      numbers = o.numbers ∙ sym (elim c.then-self-other.branch [
        | then-self-other-via-then-self-other w ↦ composed_padded-sizes N p.size p.at r.size r.at w.if-self-other.true
        | then-self-other-via-else-self-other+then-not-is_sound w ↦ composed_padded-first N p.size p.at r.size r.at (sym w.if-not-is_sound.ensures)
        | then-self-other-via-else-self-other+else-not-is_sound+then-not-is_sound-2 w ↦ composed_padded-second N p.size p.at r.size r.at (rw w.if-self-other.false (sym w.if-not-is_sound-2.ensures))
      ]);
      size = o.size;
    }

pub loop-i-init : goal.loop-i-init
loop-i-init g c = let o = c.identity-out.ensures (omega arith) in record { numbers = o.numbers ∙ padded-none g.row.N _; size = o.size }

pub sent-requires : goal.sent-requires
sent-requires g c =
    let s = sound g.row.N c.args.self.size c.args.self.at (sym c.if-not-is_sound.ensures) in
    let r = c.args.other in
    let q = sound g.row.N r.size r.at (sym c.if-not-is_sound-2.ensures) in
    (omega (arith, s.fits), omega (arith, q.fits, entry-within r.size r.at q.permutation c.loop-i.i))

pub bounds-out-i : goal.bounds-out-i
bounds-out-i g c = let s = sound g.row.N c.args.self.size c.args.self.at (sym c.if-not-is_sound.ensures) in omega (arith, s.fits)

pub loop-i-preserved : goal.loop-i-preserved
loop-i-preserved g c =
    let p = c.args.self in
    let r = c.args.other in
    let l = c.loop-i in
    let fits = (sound g.row.N p.size p.at (sym c.if-not-is_sound.ensures)).fits in
    let o : IsPermutation p.size (take p.size r.at) = rw c.if-self-other.false (sound g.row.N r.size r.at (sym c.if-not-is_sound-2.ensures)).permutation in
    record {
      numbers = padded-more g.row.N _ _ l.i _ (omega arith) l.invariant.numbers (c.sent.ensures ∙ composed-entry p.size p.at r.at l.i o (omega arith));
      size = l.invariant.size;
    }

pub returns : goal.returns
returns g c =
    let N = g.row.N in
    let p = c.args.self in
    let r = c.args.other in
    let l = c.loop-i in
    λ fits.
    record {
      numbers =
          padded-end N l.i p.size _ _ (omega arith) (omega arith) l.invariant.numbers
          ∙ sym (composed-sound N p.size p.at r.size r.at c.if-self-other.false (sym c.if-not-is_sound.ensures) (sym c.if-not-is_sound-2.ensures));
      size = l.invariant.size;
    }
