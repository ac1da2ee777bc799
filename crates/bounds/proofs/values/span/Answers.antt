-- `span` meets its contract: by number, the values from low to high are one more than their difference.
use Rattle.bounds.proofs.PruneSteps.{span_counts}
use Rattle.bounds.proofs.values.span.Goals as goal

pub overflow_sub-high : goal.overflow_sub-high
overflow_sub-high c = (span_counts _ _ c.requires).0

pub returns : goal.returns
returns c = rw c.from.ensures (span_counts _ _ c.requires).1
