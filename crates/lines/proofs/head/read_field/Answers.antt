-- `read_field` meets its contract: the six bytes are lent to the reader of a number.
use Rattle.layout.specs.Layout.{number_width}
use Rattle.lines.proofs.NumberLaws.{number-lent}
use Rattle.lines.proofs.head.read_field.Goals as goal

pub returns : goal.returns
returns c = number-lent number_width c.args.at c.args.bytes.now c.requires c.read_number.ensures
