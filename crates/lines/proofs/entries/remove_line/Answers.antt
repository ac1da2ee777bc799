-- `remove_line` meets its contract.
use Rattle.std.proofs.Common.{◌∙◌}
use Rattle.layout.specs.Layout.{line_length, blank_line}
use Rattle.lines.proofs.LineLaws.{moved-back, removed}
use Rattle.lines.proofs.entries.remove_line.Goals as goal

pub returns : goal.returns
returns c =
    let a = c.args in
    let m = c.copy_within in
    removed a.part.now (blank_line a.size) a.moved (line_length a.size) c.line_length-by.ensures.0
    (m.ensures.after ∙ moved-back a.part.now a.moved c.line_length-by.result) m.ensures.len c.write_blank.ensures c.requires.1
