-- `compare_entry` meets its contract: what is read from the line is the entry's grid.
use native.Mathlib.Omega.{arith}
use lib.ListN.{length}
use Rattle.permutations.proofs.ListLaws.{part-within, part_length}
use Rattle.calls.proofs.ValidLaws.{valid-sizes, entry-fits}
use Rattle.register.proofs.PlaceSteps.{entry-line, entry_length, entry-compared}
use Rattle.register.proofs.places.compare_entry.Goals as goal

pub line_length-width-requires : goal.line_length-width-requires
line_length-width-requires c = (valid-sizes c.requires.0).cells_fit

pub line_start-start-requires : goal.line_start-start-requires
line_start-start-requires c =
    let z = valid-sizes c.requires.0 in
    (z.cells_fit, omega (arith, c.requires.1, z.count_fits, z.capacity-fits))

pub overflow_add-end : goal.overflow_add-end
overflow_add-end c =
    omega (arith, c.line_start-start.ensures.1, c.line_length-width.ensures.1)

pub slice_bounds-read_line-end : goal.slice_bounds-read_line-end
slice_bounds-read_line-end c =
    omega (arith, (entry-fits c.requires.0 c.args.e c.requires.1).0, c.line_start-start.ensures.0, c.line_length-width.ensures.0)

pub slice_bounds-cells-end : goal.slice_bounds-cells-end
slice_bounds-cells-end c = (valid-sizes c.requires.0).cells_fit

pub read_line-requires : goal.read_line-requires
read_line-requires c =
    entry-line c.requires.0 c.args.e c.requires.1 c.line_start-start.ensures.0 c.line_length-width.ensures.0 _ (omega arith)

pub slice_bounds-compare_grids-end : goal.slice_bounds-compare_grids-end
slice_bounds-compare_grids-end c =
    let d = c.read_line in
    part-within c.read_line.new.cells _ (length c.args.grid.now) (entry_length c.requires.0 c.args.e c.requires.1 c.line_start-start.ensures.0 c.line_length-width.ensures.0 c.read_line.new.cells (part_length _ (length c.args.grid.now) (valid-sizes c.requires.0).cells_fit) d.ensures)

pub returns : goal.returns
returns c =
    let d = c.read_line in
    entry-compared c.requires.0 c.args.e c.requires.1 c.line_start-start.ensures.0 c.line_length-width.ensures.0 c.read_line.new.cells _ c.args.grid.now (part_length _ (length c.args.grid.now) (valid-sizes c.requires.0).cells_fit) d.ensures c.compare_grids.ensures.found-is
