-- `write_report` meets its contract: each field is written behind the one before it, and what stood behind the line stays.
use mathlib.Core.Path.{ap, ◌∙◌}
use lib.ListN.{length}
use Rattle.transcript.specs.Commands.{printed_command}
use Rattle.transcript.proofs.ReportSteps.{report-written, report-sized}
use Rattle.transcript.proofs.reports.write_report.Goals as goal

pub returns : goal.returns
returns c =
    let l = c.args.line in
    report-written c.args.out.now (printed_command l.command) l.number l.place c.requires (rw c.printed.ensures at c.write_field.ensures) c.write_field-2.ensures c.write_field-3.ensures

pub shape_of-out : goal.shape_of-out
shape_of-out c =
    let l = c.args.line in
    ap length (returns c) ∙ report-sized c.args.out.now (printed_command l.command) l.number l.place c.requires
