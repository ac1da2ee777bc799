use Rattle.std.proofs.Common.{sym, ◌∙◌, rules}
use Rattle.permutations.proofs.ListLaws.{tabulate-is}
use Rattle.search.proofs.orders.columns_of.Goals as goal

pub returns : goal.returns
returns c = record { numbers = c.listed.ensures.numbers ∙ sym (tabulate-is 0 c.from_fn.result 16 _ (search rules) (λ j j16. search rules)); size = c.listed.ensures.size }
