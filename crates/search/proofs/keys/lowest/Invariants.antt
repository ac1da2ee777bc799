-- `lowest` meets its contract. The loop's invariant: `least` is the least key of the rows from position k up to t.
use Rattle.std.proofs.Common.{map}
use Rattle.permutations.specs.Rows.{row_number}
use Rattle.search.specs.Keys.{Lowest}
use Rattle.search.proofs.keys.lowest.Given as goal

abbrev pub invariant-loop-t : goal.invariant-loop-t
invariant-loop-t l = Lowest l.t l.k (map row_number l.rows) l.keys l.least
