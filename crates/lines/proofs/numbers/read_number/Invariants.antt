-- `read_number` meets its contract. The loop's invariant: the bytes before this one are read.
use Rattle.lines.proofs.NumberLaws.{ReadTo}
use Rattle.lines.proofs.numbers.read_number.Given as goal

abbrev pub invariant-loop-byte : goal.invariant-loop-byte
invariant-loop-byte l = ReadTo l.field l.byte-index l.number
