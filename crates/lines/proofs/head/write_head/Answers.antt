-- `write_head` meets its contract: each field is written behind the one before it.
use Rattle.std.proofs.Common.{length, sym, ap, ◌∙◌}
use Rattle.layout.proofs.LayoutLaws.{length-head}
use Rattle.lines.specs.Head.{shape_of}
use Rattle.lines.proofs.HeadLaws.{head-written}
use Rattle.lines.proofs.head.write_head.Goals as goal

pub returns : goal.returns
returns c =
    head-written c.args.out.now (shape_of c.args.head) c.args.head.count c.requires c.write_field.ensures c.write_field-2.ensures c.write_field-3.ensures c.write_field-4.ensures c.write_field-5.ensures

pub shape_of-out : goal.shape_of-out
shape_of-out c =
    ap length (returns c) ∙ length-head (shape_of c.args.head) c.args.head.count ∙ sym c.requires
