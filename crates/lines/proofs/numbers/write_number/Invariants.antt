-- `write_number` meets its contract. The loop's invariant: the field is written from place `k` on.
use Rattle.std.proofs.Common.{length}
use Rattle.lines.proofs.NumberLaws.{Written}
use Rattle.lines.proofs.numbers.write_number.Given as goal

abbrev pub invariant-loop-k : goal.invariant-loop-k
invariant-loop-k l = Written l.number (length l.initial.out) l.k l.left l.out
