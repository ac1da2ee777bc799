-- `is_field` meets its contract: the field is written, and the bytes are compared with it.
use native.Mathlib.Omega.{arith}
use Rattle.transcript.proofs.FieldLaws.{field_told, front_long}
use Rattle.transcript.proofs.fields.is_field.Goals as goal

pub slice_bounds-eq-end : goal.slice_bounds-eq-end
slice_bounds-eq-end c = front_long _ _ _ c.write_number.auto.out (omega arith)

pub returns : goal.returns
returns c = field_told c.args.bytes.now _ c.write_number.new.out _ c.args.number (omega arith) c.write_number.ensures c.eq.ensures
