-- `write_field` meets its contract: the six bytes are lent to the writer of a number.
use Rattle.lines.proofs.HeadLaws.{field-written}
use Rattle.lines.proofs.head.write_field.Goals as goal

pub returns : goal.returns
returns c =
    field-written c.args.out.now _ c.args.at c.args.number c.requires c.write_number.ensures
