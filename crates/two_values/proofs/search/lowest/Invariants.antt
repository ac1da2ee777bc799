-- `lowest` meets its contract. The loop's invariant: `least` is the least number of the rows from position k up to t.
use Prim.Native.Nat.{◌<◌}
use Rattle.permutations.specs.Rows.{row_numbers}
use Rattle.two_values.specs.Search.{Lowest}
use Rattle.two_values.proofs.search.lowest.Given as goal

abbrev pub invariant-loop-t : goal.invariant-loop-t
invariant-loop-t l = (l.k < l.t) × Lowest l.t l.k (row_numbers l.rows) l.keys l.least
