-- `agreed` meets its contract. The loop's invariant: the bytes of the blocks before this one are the same.
use Prim.Native.Nat.{◌*◌}
use Rattle.scan.specs.Cells.{Same}
use Rattle.scan.proofs.order.agreed.Given as goal

abbrev pub invariant-loop-block : goal.invariant-loop-block
invariant-loop-block l = Same l.register l.p l.q (16 * l.block)
