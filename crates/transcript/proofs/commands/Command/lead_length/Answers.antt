-- `lead_length` meets its contract.
use mathlib.Core.Path.{sym, ap}
use native.Mathlib.Omega.{arith}
use Rattle.transcript.specs.Commands.{command_number}
use Rattle.transcript.proofs.LeadLaws.{no-count, lead-three, lead-other}
use Rattle.transcript.proofs.commands.Command.lead_length.Goals as goal

pub returns-in-Enter : goal.returns-in-Enter
returns-in-Enter c = (sym (lead-other _ (no-count c.args.self c.in-Enter.is)), omega arith, omega arith)

pub returns-in-Count : goal.returns-in-Count
returns-in-Count c = (sym (lead-three _ (ap command_number c.in-Count.is)), omega arith, omega arith)
