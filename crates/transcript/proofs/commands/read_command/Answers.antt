-- `read_command` meets its contract: a line that is refused is not laid, and where every part of it is laid the line is.
use mathlib.Core.Path.{refl}
use native.Mathlib.Omega.{arith}
use Rattle.transcript.proofs.CommandLaws.{in-range, laid-parts, laid-whole, lead-no, cells-no, command-read, unlaid}
use Rattle.transcript.proofs.commands.read_command.Goals as goal
use Rattle.transcript.proofs.commands.read_command.Goals.{else-line-end-via-then-line-end+then-line-end-eq10+then-lead_laid+else-read_cells, else-line-end-via-then-line-end+then-line-end-eq10+else-lead_laid, else-line-end-via-then-line-end+else-line-end-eq10, else-line-end-via-else-line-end}

pub returns-in_err-command : goal.returns-in_err-command
returns-in_err-command c = rw c.from_residual.ensures (c.in_err-command.ensures c.args.size)

pub lead_laid-requires : goal.lead_laid-requires
lead_laid-requires c = (c.in_ok-command.ensures, omega (arith, c.lead_length-lead.ensures.0, c.if-line-end.true))

pub returns-then-read_cells : goal.returns-then-read_cells
returns-then-read_cells c =
    let s = c.in_ok-command.ensures in
    command-read c.args.size c.args.line.now s.command-is c.lead_length-lead.ensures.0 c.cell_count-count.ensures.0 c.args.cells.now c.read_cells.new.cells (omega arith) c.read_cells.ensures
    c.in_ok-command.command refl s (in-range c.in_ok-command.command) c.if-line-end.true c.if-line-end-eq10.true (c.lead_laid.ensures.0 c.if-lead_laid.true) c.if-read_cells.true

pub returns-else-line-end : goal.returns-else-line-end
returns-else-line-end c =
    let l = c.args.line.now in
    let k = c.in_ok-command.ensures.command-is in
    let x = c.lead_length-lead.ensures.0 in
    let n = c.cell_count-count.ensures.0 in
    unlaid c.args.size l (elim c.else-line-end.branch [
      | else-line-end-via-else-line-end w ↦ λ t. w.if-line-end.false (laid-whole c.args.size l k x n t)
      | else-line-end-via-then-line-end+else-line-end-eq10 w ↦ λ t. w.if-line-end-eq10.false (laid-parts c.args.size l k x n t).feed
      | else-line-end-via-then-line-end+then-line-end-eq10+else-lead_laid w ↦ lead-no c.args.size l k x n w.lead_laid.ensures w.if-lead_laid.false
      | else-line-end-via-then-line-end+then-line-end-eq10+then-lead_laid+else-read_cells w ↦ cells-no c.args.size l k x n c.args.cells.now w.read_cells.new.cells (omega arith) w.read_cells.ensures w.if-read_cells.false
    ])
