-- `answer_line` meets its contract: the line is not laid, or its command is answered.
use mathlib.Core.Path.{◌∙◌}
use native.Mathlib.Omega.{arith}
use lib.Seq.{length-take-le}
use Rattle.transcript.proofs.CallSteps.{answer-malformed, answer-made}
use Rattle.transcript.proofs.answers.answer_line.Goals as goal

pub returns-in_default : goal.returns-in_default
returns-in_default c =
    let s = c.args.start in
    let x = c.refusing.ensures in
    answer-malformed s.rows s.columns s.top c.args.line.now c.args.register.now (rw c.size-size.ensures.0 at c.in_default.ensures) (x.0, x.1 ∙ c.into.ensures, x.2)

pub make_call-placed-requires : goal.make_call-placed-requires
make_call-placed-requires c =
    let n = c.cell_count in
    length-take-le n.result c.read_command.new.cells (omega (arith, n.ensures.1, c.read_command.auto.cells)) ∙ rw c.size-size.ensures.0 at n.ensures.0

pub returns : goal.returns
returns c =
    let s = c.args.start in
    let z = c.size-size.ensures.0 in
    answer-made s.rows s.columns s.top c.args.line.now c.args.register.now (rw z at c.in-Some.ensures) (rw z at c.cell_count.ensures.0) c.make_call-placed.ensures
