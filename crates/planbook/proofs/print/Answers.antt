-- `print`'s slices are large enough for every input.
use Rattle.std.proofs.Common.{arith}
use Rattle.protocol.proofs.SliceLaws.{has-room}
use Rattle.planbook.proofs.print.Goals as goal

pub print_into-printed-requires : goal.print_into-printed-requires
print_into-printed-requires g c =
    has-room _ _ (omega (arith, c.room-register.ensures)) (omega (arith, c.room-out.ensures))
