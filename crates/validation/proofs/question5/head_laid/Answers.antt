-- `head_laid` meets its contract.
use Rattle.validation.proofs.Question5Laws.{head-decides}
use Rattle.validation.proofs.question5.head_laid.Goals as goal

pub returns : goal.returns
returns c = head-decides _ _ _ c.write_head.ensures c.starts_with.ensures.value
