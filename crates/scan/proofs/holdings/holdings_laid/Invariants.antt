-- `holdings_laid` meets its contract. The loop's invariant: `laid` and `none` are the answers for the first `k` fields.
use Rattle.scan.proofs.HeldLaws.{HeldTo}
use Rattle.scan.proofs.holdings.holdings_laid.Given as goal

abbrev pub invariant-loop-k : goal.invariant-loop-k
invariant-loop-k l = HeldTo l.register l.at l.k l.laid l.none
