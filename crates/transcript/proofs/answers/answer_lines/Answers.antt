use mathlib.Core.Path.{ap}
use native.Mathlib.Omega.{arith}
use lib.ListN.{length, length-drop}
use Rattle.calls.proofs.ValidMoves.{tail-part}
use Rattle.transcript.proofs.AnswerSteps.{answering-none, answering-next, answering-all, answering-room, answering-kept}
use Rattle.transcript.proofs.answers.answer_lines.Goals as goal

pub loop-at-init : goal.loop-at-init
loop-at-init c = answering-none c.requires

pub write_report-requires : goal.write_report-requires
write_report-requires c =
    let l = c.loop-at in
    let r = answering-room c.requires l.invariant (omega arith) in
    omega (arith, ap length (tail-part l.out l.printed (omega arith)), length-drop l.printed l.out)

pub loop-at-preserved : goal.loop-at-preserved
loop-at-preserved c =
    let l = c.loop-at in
    answering-next c.requires l.invariant (omega arith) c.line_end-end.ensures c.answer_line-report.ensures c.write_report.new.out c.write_report.ensures

pub shape_of-register : goal.shape_of-register
shape_of-register c = answering-kept c.requires c.loop-at.invariant

pub shape_of-out : goal.shape_of-out
shape_of-out c = c.loop-at.invariant.written.size

pub returns : goal.returns
returns c = answering-all c.requires c.loop-at.invariant (omega arith)
