-- `write_fields` meets its contract. The loop's invariant: the first `k` numbers are written.
use Rattle.lines.proofs.LineLaws.{FieldsTo}
use Rattle.lines.proofs.entries.write_fields.Given as goal

abbrev pub invariant-loop-k : goal.invariant-loop-k
invariant-loop-k l = FieldsTo l.k l.numbers l.initial.part l.part
