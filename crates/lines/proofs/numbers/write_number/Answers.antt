use Rattle.std.proofs.Common.{◌-◌, ◌∙◌, arith, length-set}
use Rattle.lines.proofs.NumberLaws.{no_field, written_last, written_next, written_all}
use Rattle.lines.proofs.numbers.write_number.Goals as goal

pub returns-in_default : goal.returns-in_default
returns-in_default c = no_field _ _ (omega (arith, c.in_default.ensures))

pub loop-k-init : goal.loop-k-init
loop-k-init c =
    let last = c.in-Some.ensures in
    written_last _ _ c.args.out.now c.in-Some.last (omega (arith, last)) (simp length-set (omega (arith, last)))

pub loop-k-preserved : goal.loop-k-preserved
loop-k-preserved c = written_next (c.loop-k.k - 1) _ c.loop-k.invariant (omega arith) c.last_digit.ensures

pub shape_of-out : goal.shape_of-out
shape_of-out c = c.loop-k.invariant.size ∙ simp length-set

pub returns : goal.returns
returns c = written_all _ c.loop-k.invariant (omega arith) (simp length-set)
