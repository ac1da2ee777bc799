-- `read_head` meets its contract.
use Rattle.layout.specs.Layout.{count, decode_shape}
use Rattle.lines.proofs.head.read_head.Goals as goal

pub returns : goal.returns
unfolding count decode_shape
returns c = record { shape = cc; counts = c.read_field-5.ensures.0 }
