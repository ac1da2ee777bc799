-- The loop's invariant: `greatest` is the greatest of the cells so far.
use Rattle.grids.proofs.QuestionSteps.{Greatest}
use Rattle.grids.proofs.questions.is_capped.Given as goal

abbrev pub invariant-loop-cell : goal.invariant-loop-cell
invariant-loop-cell l = Greatest l.cells l.cell-index l.greatest
