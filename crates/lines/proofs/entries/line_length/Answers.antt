-- `line_length` meets its contract.
use Rattle.std.proofs.Common.{arith}
use Rattle.layout.specs.Layout.{entry_width, line_length}
use Rattle.lines.proofs.entries.line_length.Goals as goal

pub returns : goal.returns
unfolding line_length entry_width
returns c = omega arith
