use mathlib.Core.Path.{◌≡◌, refl}
use native.Mathlib.Omega.{arith}
use Prim.Native.Nat.{◌+◌, ◌*◌}
use lib.ListN.{get_or}
use Rattle.two_values.proofs.WordLaws.{WordedTo, worded-none, worded-cell, worded-turn, worded-small}
use Rattle.two_values.proofs.words.words.Goals as goal

pub loop-digit-init : goal.loop-digit-init
loop-digit-init g c = worded-none _ _ _ refl

pub overflow_mul-out : goal.overflow_mul-out
overflow_mul-out g c =
    let bits = c.requires.0 in
    let l = c.loop-line in
    record { fits = omega (arith, worded-small l.invariant 15 (omega arith) (λ e t. bits (e * g.row.LINES + t)) l.line (omega arith) (omega arith)) }

pub overflow_add-out-in-loop-line : goal.overflow_add-out-in-loop-line
overflow_add-out-in-loop-line g c =
    let bits = c.requires.0 in
    let l = c.loop-line in
    record { fits = omega (arith, bits (c.loop-digit.digit * g.row.LINES + l.line), worded-small l.invariant 15 (omega arith) (λ e t. bits (e * g.row.LINES + t)) l.line (omega arith) (omega arith)) }

pub loop-line-preserved : goal.loop-line-preserved
loop-line-preserved g c = worded-cell c.loop-line.invariant _ (omega arith) refl

pub loop-digit-preserved : goal.loop-digit-preserved
loop-digit-preserved g c = worded-turn c.loop-line.invariant (omega arith)

pub returns : goal.returns
returns g c =
    let l = c.loop-digit in
    let bits = c.requires.0 in
    let e : l.digit ≡ g.row.DIGITS = omega arith in
    let s : WordedTo g.row.LINES (λ e t. get_or c.args.table.now (e * g.row.LINES + t) 0) g.row.DIGITS 0 l.out = rw e at l.invariant in
    record { holds = λ r h. s.todo r (omega arith) h; small = λ r h. worded-small s 16 (omega arith) (λ e t. bits (e * g.row.LINES + t)) r (omega arith) h }
