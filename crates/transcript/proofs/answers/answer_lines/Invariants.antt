-- `answer_lines` meets its contract. The loop's invariant: the lines before `at` are answered. The measure is what is left of the input.
use Prim.Native.Nat.{◌-◌}
use lib.ListN.{length}
use Rattle.transcript.proofs.AnswerSteps.{Answering}
use Rattle.transcript.proofs.answers.answer_lines.Given as goal

abbrev pub invariant-loop-at : goal.invariant-loop-at
invariant-loop-at l = Answering l.input l.initial.out l.register l.out l.at l.printed

abbrev pub decreases-loop-at : goal.decreases-loop-at
decreases-loop-at l = length l.input - l.at
