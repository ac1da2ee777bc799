-- `exchanged` meets its contract, by that of `swap`.
use Rattle.std.proofs.Common.{arith}
use Rattle.search.proofs.RowLaws.{rows-exchanged}
use Rattle.search.proofs.node.exchanged.Goals as goal

pub returns : goal.returns
returns c = let a = c.args in rw c.swap.ensures.after (rows-exchanged a.rows a.k a.t (omega arith) (omega arith))
