-- `enter_new` meets its contract: the register is full, or the line is put in and the count goes up.
use mathlib.Core.Path.{refl, sym}
use native.Mathlib.Omega.{arith}
use Rattle.calls.proofs.ValidLaws.{valid-sizes}
use Rattle.calls.proofs.ValidMoves.{put-fits, room-part}
use Rattle.calls.proofs.ValidSteps.{place-small, enter-full, enter-new}
use Rattle.register.proofs.SoughtSteps.{new-room}
use Rattle.register.proofs.entering.enter_new.Goals as goal

pub returns-then-capacity-count : goal.returns-then-capacity-count
returns-then-capacity-count c =
    let s = c.requires.0 in
    (enter-full s.valid s.lower s.found _ refl (omega (arith, c.requires.1)))

pub line_start-start-requires : goal.line_start-start-requires
line_start-start-requires c =
    let s = c.requires.0 in
    ((valid-sizes s.valid).cells_fit, omega (arith, place-small s.valid s.lower))

pub overflow_sub-moved : goal.overflow_sub-moved
overflow_sub-moved c = let s = c.requires.0 in (place-small s.valid s.lower).0

pub line_length-requires : goal.line_length-requires
line_length-requires c = (valid-sizes c.requires.0.valid).cells_fit

pub overflow_mul-moved : goal.overflow_mul-moved
overflow_mul-moved c = omega (arith, (new-room c.requires.0 c.requires.1 c.if-capacity-count.false c.line_start-start.ensures.0 c.line_length.ensures.0).small)

pub slice_bounds-insert_line-count : goal.slice_bounds-insert_line-count
slice_bounds-insert_line-count c = (new-room c.requires.0 c.requires.1 c.if-capacity-count.false c.line_start-start.ensures.0 c.line_length.ensures.0).start-inside

pub slice_bounds-insert_line-start : goal.slice_bounds-insert_line-start
slice_bounds-insert_line-start c = (new-room c.requires.0 c.requires.1 c.if-capacity-count.false c.line_start-start.ensures.0 c.line_length.ensures.0).start-inside

pub insert_line-requires : goal.insert_line-requires
insert_line-requires c =
    let p = c.requires in
    let s = p.0 in
    let l = c.line_length in
    ((valid-sizes s.valid).cells_fit, s.client-is.0, s.client-is.1, room-part (new-room s p.1 c.if-capacity-count.false c.line_start-start.ensures.0 l.ensures.0) (sym l.ensures.0))

pub write_count-requires : goal.write_count-requires
write_count-requires c =
    let d = c.insert_line in
    put-fits (new-room c.requires.0 c.requires.1 c.if-capacity-count.false c.line_start-start.ensures.0 c.line_length.ensures.0) c.insert_line.new.part c.insert_line.auto.part

pub overflow_cast-result : goal.overflow_cast-result
overflow_cast-result c = let s = c.requires.0 in omega (arith, place-small s.valid s.lower)

pub overflow_add-result : goal.overflow_add-result
overflow_add-result c = let s = c.requires.0 in omega (arith, place-small s.valid s.lower)

pub returns : goal.returns
returns c =
    let s = c.requires.0 in
    let d = c.insert_line in
    enter-new s.valid s.lower s.found _ refl (omega (arith, c.requires.1)) s.client-is.0 s.client-is.1 c.line_start-start.ensures.0 c.line_length.ensures.0 c.insert_line.new.part d.ensures c.write_count.ensures
