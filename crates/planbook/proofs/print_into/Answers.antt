-- `print_into` meets its contract: with room enough, the bytes that count are what planbook prints.
use Rattle.protocol.proofs.SliceLaws.{count-within, count-prints}
use Rattle.planbook.proofs.print_into.Goals as goal

pub returns : goal.returns
returns c =
    let e = c.transcribe.ensures in (
      count-within c.args.input.now c.args.register.now c.args.out.now e c.transcribe.auto.out,
      count-prints c.args.input.now c.args.register.now c.args.out.now e c.requires,
    )
