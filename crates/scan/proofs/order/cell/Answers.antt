-- `cell` meets its contract.
use mathlib.Core.Path.{◌∙◌}
use Rattle.lines.proofs.FieldLaws.{stated-at}
use Rattle.scan.proofs.order.cell.Goals as goal

pub returns : goal.returns
returns c =
    c.stated.ensures ∙ stated-at c.args.register.now c.args.at _ c.requires.2 c.requires.1
