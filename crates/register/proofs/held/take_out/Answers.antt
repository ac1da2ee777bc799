-- `take_out` meets its contract: the line is taken out and the count goes down.
use mathlib.Core.Path.{refl, sym}
use native.Mathlib.Omega.{arith}
use Rattle.calls.proofs.ValidMoves.{room-part, put-fits}
use Rattle.calls.proofs.ValidSteps.{gone-is}
use Rattle.register.proofs.SoughtSteps.{here, small, line-room}
use Rattle.register.proofs.held.take_out.Goals as goal

pub line_start-start-requires : goal.line_start-start-requires
line_start-start-requires c = let z = small c.requires in (z.0, z.1)

pub overflow_add-moved : goal.overflow_add-moved
overflow_add-moved c = omega (arith, small c.requires)

pub overflow_sub-moved : goal.overflow_sub-moved
overflow_sub-moved c = omega (arith, here c.requires)

pub line_length-requires : goal.line_length-requires
line_length-requires c = (small c.requires).0

pub overflow_mul-moved : goal.overflow_mul-moved
overflow_mul-moved c = omega (arith, (line-room c.requires c.line_start-start.ensures.0 c.line_length.ensures.0).small)

pub slice_bounds-remove_line-count : goal.slice_bounds-remove_line-count
slice_bounds-remove_line-count c = (line-room c.requires c.line_start-start.ensures.0 c.line_length.ensures.0).start-inside

pub slice_bounds-remove_line-start : goal.slice_bounds-remove_line-start
slice_bounds-remove_line-start c = (line-room c.requires c.line_start-start.ensures.0 c.line_length.ensures.0).start-inside

pub remove_line-requires : goal.remove_line-requires
remove_line-requires c =
    let s = c.requires in
    let l = c.line_length in
    ((small s).0, room-part (line-room s c.line_start-start.ensures.0 l.ensures.0) (sym l.ensures.0))

pub overflow_sub-count : goal.overflow_sub-count
overflow_sub-count c = omega (arith, here c.requires)

pub write_count-requires : goal.write_count-requires
write_count-requires c =
    let d = c.remove_line in
    put-fits (line-room c.requires c.line_start-start.ensures.0 c.line_length.ensures.0) c.remove_line.new.part c.remove_line.auto.part

pub returns : goal.returns
returns c =
    let s = c.requires in
    let d = c.remove_line in
    gone-is s.valid s.lower s.found refl c.line_start-start.ensures.0 c.line_length.ensures.0 c.remove_line.new.part d.ensures c.write_count.ensures
