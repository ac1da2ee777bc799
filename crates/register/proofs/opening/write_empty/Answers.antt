use Rattle.std.proofs.Common.{refl, sym, ◌∙◌, arith}
use lib.Seq.{length-take-le}
use Rattle.layout.specs.Layout.{head_length}
use Rattle.calls.proofs.ValidMoves.{room-part}
use Rattle.register.proofs.OpenSteps.{head-written, room, blank-written, blanks-written, limits-size, head-fits}
use Rattle.register.proofs.opening.write_empty.Goals as goal

pub overflow_mul-size : goal.overflow_mul-size
overflow_mul-size c = omega (arith, limits-size _ c.requires.0)

pub slice_bounds-write_head-end : goal.slice_bounds-write_head-end
slice_bounds-write_head-end c = head-fits _ c.args.register.now c.requires.1

pub slice_bounds-write_head-end-2 : goal.slice_bounds-write_head-end-2
slice_bounds-write_head-end-2 c = sym (length-take-le head_length c.args.register.now (head-fits _ c.args.register.now c.requires.1))

pub write_head-requires : goal.write_head-requires
write_head-requires c = length-take-le head_length c.args.register.now (head-fits _ c.args.register.now c.requires.1)

pub loop-e-init : goal.loop-e-init
loop-e-init c = head-written _ c.args.register.now c.write_head.new.out c.requires.1 c.write_head.ensures

pub line_start-start-requires : goal.line_start-start-requires
line_start-start-requires c = (limits-size _ c.requires.0, omega (arith, c.requires.0.capacity-limits))

pub slice_bounds-write_blank-count : goal.slice_bounds-write_blank-count
slice_bounds-write_blank-count c = (room c.requires.0 c.loop-e.invariant (omega arith) c.line_start-start.ensures.0).start-inside

pub slice_bounds-write_blank-start : goal.slice_bounds-write_blank-start
slice_bounds-write_blank-start c = (room c.requires.0 c.loop-e.invariant (omega arith) c.line_start-start.ensures.0).start-inside

pub write_blank-requires : goal.write_blank-requires
write_blank-requires c =
    (limits-size _ c.requires.0, omega (arith, room-part (room c.requires.0 c.loop-e.invariant (omega arith) c.line_start-start.ensures.0) refl))

pub loop-e-preserved : goal.loop-e-preserved
loop-e-preserved c = blank-written c.requires.0 c.loop-e.invariant (omega arith) c.line_start-start.ensures.0 c.write_blank.new.part c.write_blank.ensures

pub shape_of-register : goal.shape_of-register
shape_of-register c = c.loop-e.invariant.sized ∙ sym c.requires.1

pub returns : goal.returns
returns c = blanks-written c.loop-e.invariant (omega arith)
