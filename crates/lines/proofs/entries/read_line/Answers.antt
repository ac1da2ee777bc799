use Rattle.std.proofs.Common.{◌+◌, ◌*◌, ◌≤◌, length, arith}
use Rattle.layout.specs.Layout.{cell_width}
use Rattle.layout.proofs.LineLaws.{cells-inside}
use Rattle.lines.proofs.LineLaws.{length-line, cell-small, read_next, read_all}
use Rattle.lines.proofs.NumberLaws.{number-lent}
use Rattle.lines.proofs.entries.read_line.Goals as goal
use Rattle.lines.proofs.entries.read_line.Goals.{In-loop-k}

inside : (c : In-loop-k) → cell_width * c.loop-k.k + cell_width ≤ length c.args.line.now
inside c = omega (arith, length-line c.requires.1, cells-inside (length c.args.cells.now))

pub slice_bounds-read_number-end : goal.slice_bounds-read_number-end
slice_bounds-read_number-end c = inside ((goal.at.slice_bounds-read_number-end c).In-loop-k)

pub overflow_cast-cell : goal.overflow_cast-cell
overflow_cast-cell c =
    let n = number-lent cell_width (cell_width * c.loop-k.k) c.args.line.now (inside ((goal.at.overflow_cast-cell c).In-loop-k)) c.read_number.ensures in
    omega (arith, n.0, cell-small c.loop-k.k c.requires.1 (omega arith))

pub loop-k-preserved : goal.loop-k-preserved
loop-k-preserved c =
    read_next _ c.loop-k.invariant (omega arith)
    (number-lent cell_width (cell_width * c.loop-k.k) c.args.line.now (inside ((goal.at.loop-k-preserved c).In-loop-k)) c.read_number.ensures).0

pub shape_of-cells : goal.shape_of-cells
shape_of-cells c = c.loop-k.invariant.so_far.size

pub returns : goal.returns
returns c = read_all c.loop-k.invariant (omega arith)
