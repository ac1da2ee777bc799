-- `holding` meets its contract: what the line states is what the client holds.
use mathlib.Core.Path.{refl}
use Rattle.calls.specs.Entries.{held_by}
use Rattle.register.proofs.SoughtSteps.{small, line-room, line-lent, line-states}
use Rattle.register.proofs.held.holding.Goals as goal

pub line_start-start-requires : goal.line_start-start-requires
line_start-start-requires c = let z = small c.requires in (z.0, z.1)

pub slice_bounds-read_holding-count : goal.slice_bounds-read_holding-count
slice_bounds-read_holding-count c = (line-room c.requires c.line_start-start.ensures.0 refl).start-inside

pub slice_bounds-read_holding-start : goal.slice_bounds-read_holding-start
slice_bounds-read_holding-start c = (line-room c.requires c.line_start-start.ensures.0 refl).start-inside

pub read_holding-requires : goal.read_holding-requires
read_holding-requires c = line-lent c.requires c.line_start-start.ensures.0

pub returns : goal.returns
unfolding held_by
returns c = rw (line-states c.requires c.line_start-start.ensures.0) at c.read_holding.ensures.0
