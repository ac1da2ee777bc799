-- `read_holding` meets its contract: the holding's bytes are lent to the reader of a number.
use Rattle.std.proofs.Common.{◌+◌, ◌≤◌, length, arith}
use Rattle.layout.specs.Layout.{cell_width}
use Rattle.lines.proofs.HoldingLaws.{holding-inside, holding-stated}
use Rattle.lines.proofs.NumberLaws.{number-lent}
use Rattle.lines.proofs.holdings.read_holding.Goals as goal
use Rattle.lines.proofs.holdings.read_holding.Goals.{After-place-at}

inside : (c : After-place-at) → c.place-at.result + cell_width ≤ length c.args.line.now
inside c = let a = c.args in omega (arith, holding-inside a.size a.client (omega arith) (omega arith))

pub slice_bounds-read_number-end : goal.slice_bounds-read_number-end
slice_bounds-read_number-end c = inside ((goal.at.slice_bounds-read_number-end c).After-place-at)

pub returns : goal.returns
returns c =
    let a = c.args in
    let n = number-lent cell_width c.place-at.result a.line.now (inside ((goal.at.returns c).After-place-at)) c.read_number.ensures in
    (holding-stated a.size a.line.now a.client (omega arith) (omega arith) (rw c.place-at.ensures at n.0), n.1)
