-- `write_line` meets its contract.
use Rattle.std.proofs.Common.{◌≡◌, ℕ, ◌-◌, ◌*◌, length, take, drop, arith, length-set, length-drop, length-take-le}
use Rattle.layout.specs.Layout.{cell_width, entry_width, line_length, changed}
use Rattle.layout.specs.Lines.{first_entry}
use Rattle.layout.proofs.HoldingLaws.{first-fitted}
use Rattle.lines.proofs.LineLaws.{entry-written}
use Rattle.lines.proofs.entries.write_line.Goals as goal

pub write_fields-requires : goal.write_fields-requires
unfolding line_length entry_width
write_fields-requires c = (omega arith, omega arith)

pub slice_bounds-write_fields-start : goal.slice_bounds-write_fields-start
unfolding line_length entry_width
slice_bounds-write_fields-start c = omega arith

pub slice_bounds-write_fields-count : goal.slice_bounds-write_fields-count
unfolding line_length entry_width
slice_bounds-write_fields-count c = omega arith

pub write_fields-requires-2 : goal.write_fields-requires-2
unfolding line_length entry_width
write_fields-requires-2 c =
    let a = c.args in
    let o = c.write_fields.new.part in
    let at : ℕ = cell_width * length a.grid.now in
    let l : length (take (length o - at) (drop at o)) ≡ length o - at = length-take-le (length o - at) (drop at o) (omega (arith, length-drop at o)) in
    simp length-set (omega arith, omega (arith, l))

pub overflow_sub-part : goal.overflow_sub-part
unfolding line_length entry_width
overflow_sub-part c = omega arith

pub bounds-part-line_length : goal.bounds-part-line_length
unfolding line_length entry_width
bounds-part-line_length c = omega arith

pub returns : goal.returns
unfolding line_length changed
returns c =
    let a = c.args in
    entry-written a.part.now (first_entry a.client a.grid.now) (length c.write_fields.new.part - cell_width * length a.grid.now) (c.line_length.result - 1)
    (first-fitted a.client a.grid.now).held c.requires.3 (omega arith) (omega arith) c.write_fields.ensures c.write_fields-2.ensures
