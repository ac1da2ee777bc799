-- `hold` meets its contract: someone holds the grid then, and its line states so; or nobody does.
use mathlib.Core.Path.{refl}
use Rattle.calls.proofs.ValidSteps.{changed-is, gone-kept}
use Rattle.register.proofs.SoughtSteps.{small, line-room, line-lent, line-states}
use Rattle.register.proofs.held.hold.Goals as goal

pub line_start-start-requires : goal.line_start-start-requires
line_start-start-requires c = let z = small c.requires in (z.0, z.1)

pub slice_bounds-still_held-count : goal.slice_bounds-still_held-count
slice_bounds-still_held-count c = (line-room c.requires c.line_start-start.ensures.0 refl).start-inside

pub slice_bounds-still_held-start : goal.slice_bounds-still_held-start
slice_bounds-still_held-start c = (line-room c.requires c.line_start-start.ensures.0 refl).start-inside

pub still_held-requires : goal.still_held-requires
still_held-requires c = line-lent c.requires c.line_start-start.ensures.0

pub slice_bounds-write_holding-count : goal.slice_bounds-write_holding-count
slice_bounds-write_holding-count c = (line-room c.requires c.line_start-start.ensures.0 refl).start-inside

pub slice_bounds-write_holding-start : goal.slice_bounds-write_holding-start
slice_bounds-write_holding-start c = (line-room c.requires c.line_start-start.ensures.0 refl).start-inside

pub write_holding-requires : goal.write_holding-requires
write_holding-requires c = line-lent c.requires c.line_start-start.ensures.0

pub returns-then-still_held : goal.returns-then-still_held
returns-then-still_held c =
    let s = c.requires in
    let q = c.line_start-start.ensures.0 in
    let d = c.write_holding in
    changed-is s.valid s.lower s.found refl q _ _ (rw (line-states s q) at c.still_held.ensures) c.if-still_held.true s.client-is.0 s.client-is.1 c.write_holding.new.part d.ensures

pub returns : goal.returns
returns c =
    let s = c.requires in
    gone-kept s.valid s.lower s.found refl _ _ (rw (line-states s c.line_start-start.ensures.0) at c.still_held.ensures) c.if-still_held.false c.take_out.ensures
