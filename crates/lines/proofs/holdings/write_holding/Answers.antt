-- `write_holding` meets its contract: the holding's bytes are lent to the writer of a number.
use Rattle.std.proofs.Common.{ℕ, ◌+◌, ◌≤◌, ◌++◌, length, take, drop, ap, ◌∙◌, arith}
use Rattle.layout.specs.Decimal.{field}
use Rattle.layout.specs.Layout.{cell_width}
use Rattle.lines.proofs.FillLaws.{in_place}
use Rattle.lines.proofs.HoldingLaws.{holding-inside}
use Rattle.lines.proofs.holdings.write_holding.Goals as goal
use Rattle.lines.proofs.holdings.write_holding.Goals.{After-place-at}

inside : (c : After-place-at) → c.place-at.result + cell_width ≤ length c.args.part.now
inside c = let a = c.args in omega (arith, holding-inside a.size a.client (omega arith) (omega arith))

pub slice_bounds-write_number-end : goal.slice_bounds-write_number-end
slice_bounds-write_number-end c = inside ((goal.at.slice_bounds-write_number-end c).After-place-at)

pub returns : goal.returns
returns c =
    let a = c.args in
    in_place cell_width a.part.now _ c.place-at.result a.number (inside ((goal.at.returns c).After-place-at)) c.write_number.ensures
    ∙ ap (λ (i : ℕ). take i a.part.now ++ (field cell_width a.number ++ drop cell_width (drop i a.part.now))) c.place-at.ensures
