use Rattle.std.proofs.Common.{◌≡◌, refl, arith}
use lib.ListN.{get_or-replicate}
use Rattle.search.proofs.LoopLaws.{summed-none, summed-cell, shifted-exact, shifted_fits, keys-summed}
use Rattle.search.proofs.keys.row_keys.Goals as goal

pub loop-c-init : goal.loop-c-init
loop-c-init c = summed-none 8 _ _ _ refl (λ x b. get_or-replicate 8 x 0 0 b)

pub overflow_add-out-in-loop-r : goal.overflow_add-out-in-loop-r
overflow_add-out-in-loop-r c =
    let l = c.loop-r in
    let col = c.loop-c.c in
    omega (
      arith,
      l.invariant.sum.todo l.r (omega arith) (omega arith),
      shifted-exact c.args.bits.now c.args.places.now.counts c.requires.0 c.args.places.now.small col l.r,
      shifted_fits c.args.bits.now c.args.places.now.counts c.requires.0 c.requires.1 col l.r (omega arith),
    )

pub loop-r-preserved : goal.loop-r-preserved
loop-r-preserved c =
    let l = c.loop-r.invariant in
    summed-cell l _ (omega arith) (shifted-exact c.args.bits.now c.args.places.now.counts c.requires.0 c.args.places.now.small _ _)

pub returns : goal.returns
returns c = let l = c.loop-c in let e : l.c ≡ 16 = omega arith in keys-summed _ _ _ (rw e at l.invariant)
