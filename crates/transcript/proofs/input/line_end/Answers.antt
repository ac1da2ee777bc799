-- `line_end` meets its contract: the line ends behind the first line feed from its place on, or with the input where there is none.
use Rattle.transcript.proofs.InputSteps.{line-feed, line-no-feed}
use Rattle.transcript.proofs.input.line_end.Goals as goal

pub returns-in-Some : goal.returns-in-Some
returns-in-Some c = line-feed c.args.input.now c.args.at c.requires c.in-Some.found c.in-Some.ensures

pub returns-in-None : goal.returns-in-None
returns-in-None c = line-no-feed c.args.input.now c.args.at c.requires c.in-None.ensures
