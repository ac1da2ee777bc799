-- `insert_line` meets its contract.
use Rattle.std.proofs.Common.{length, ◌∙◌, arith}
use Rattle.layout.specs.Layout.{line_length, entry_line}
use Rattle.layout.specs.Lines.{first_entry}
use Rattle.lines.proofs.LineLaws.{moved-on, inserted}
use Rattle.lines.proofs.entries.insert_line.Goals as goal

pub returns : goal.returns
returns c =
    let a = c.args in
    inserted a.part.now (entry_line (first_entry a.client a.grid.now)) a.moved (line_length (length a.grid.now)) c.line_length-by.ensures.0
    (c.copy_within.ensures.after ∙ moved-on a.part.now a.moved c.line_length-by.result) c.write_line.ensures (omega arith)
