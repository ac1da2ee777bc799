-- `cell_count` meets its contract.
use mathlib.Core.Path.{sym, ap}
use native.Mathlib.Omega.{arith}
use Rattle.transcript.specs.Commands.{command_number}
use Rattle.transcript.proofs.LeadLaws.{no-count, cells-three, cells-other}
use Rattle.transcript.proofs.commands.Command.cell_count.Goals as goal

pub returns-in-Enter : goal.returns-in-Enter
returns-in-Enter c = (sym (cells-other _ _ (no-count c.args.self c.in-Enter.is)), omega arith)

pub returns-in-Count : goal.returns-in-Count
returns-in-Count c = (sym (cells-three _ _ (ap command_number c.in-Count.is)), omega arith)
