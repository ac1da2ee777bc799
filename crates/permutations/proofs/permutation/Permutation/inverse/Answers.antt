use Rattle.std.proofs.Common.{◌∙◌, sym, arith}
use Rattle.permutations.proofs.PaddedLaws.{sound, inverse_padded-is, inverse_padded-no}
use Rattle.permutations.proofs.NumbersSteps.{entry-within, scattered-none, scattered-more, scattered-all}
use Rattle.permutations.proofs.permutation.Permutation.inverse.Goals as goal

pub returns-then-not-is_sound : goal.returns-then-not-is_sound
returns-then-not-is_sound g c =
    let p = c.args.self in
    let o = c.identity-out.ensures (omega arith) in
    λ fits.
    record { numbers = o.numbers ∙ sym (inverse_padded-no g.row.N p.size p.at (sym c.if-not-is_sound.ensures)); size = o.size }

pub loop-i-init : goal.loop-i-init
loop-i-init g c =
    let p = c.args.self in
    let o = c.identity-out.ensures (omega arith) in
    let s = sound g.row.N p.size p.at (sym c.if-not-is_sound.ensures) in
    (o.size, rw o.numbers (scattered-none g.row.N p.size p.at s.fits s.permutation))

pub overflow_cast-out : goal.overflow_cast-out
overflow_cast-out g c = let s = sound g.row.N c.args.self.size c.args.self.at (sym c.if-not-is_sound.ensures) in omega (arith, s.fits)

pub bounds-self-i : goal.bounds-self-i
bounds-self-i g c = let s = sound g.row.N c.args.self.size c.args.self.at (sym c.if-not-is_sound.ensures) in omega (arith, s.fits)

pub bounds-out-self : goal.bounds-out-self
bounds-out-self g c =
    let p = c.args.self in
    let s = sound g.row.N p.size p.at (sym c.if-not-is_sound.ensures) in
    omega (arith, s.fits, entry-within p.size p.at s.permutation c.loop-i.i)

pub loop-i-preserved : goal.loop-i-preserved
loop-i-preserved g c =
    let p = c.args.self in
    let l = c.loop-i in
    let s = sound g.row.N p.size p.at (sym c.if-not-is_sound.ensures) in
    (l.invariant.0, scattered-more g.row.N p.size p.at s.fits s.permutation l.i l.out.at (omega arith) l.invariant.1)

pub returns : goal.returns
returns g c =
    let p = c.args.self in
    let l = c.loop-i in
    let t = sym c.if-not-is_sound.ensures in
    let s = sound g.row.N p.size p.at t in
    λ fits.
    record {
      numbers = scattered-all g.row.N p.size p.at s.fits s.permutation l.i l.out.at (omega arith) l.invariant.1 ∙ sym (inverse_padded-is g.row.N p.size p.at t);
      size = l.invariant.0;
    }
