-- `kept` meets its contract.
use Rattle.std.proofs.Common.{arith}
use Rattle.search.proofs.RowSetLaws.{kept-fits, kept_set, kept-has}
use Rattle.search.proofs.sifting.kept.Goals as goal

pub overflow_add-result : goal.overflow_add-result
overflow_add-result c = record { fits = kept-fits c.args.count c.args.i (omega arith) c.requires.1 }

pub returns : goal.returns
returns c = let p = c.requires in kept-has _ _ _ p.0 p.1 c.args.left.is_set

pub invariant_of-result : goal.invariant_of-result
invariant_of-result c = let p = c.requires in record { is_set = kept_set _ _ _ p.0 p.1 c.args.left.is_set }
