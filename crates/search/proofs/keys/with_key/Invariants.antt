-- `with_key` meets its contract. The loop's invariant: the set has the rows from position k up to t that have the key.
use Rattle.std.proofs.Common.{map}
use Rattle.permutations.specs.Rows.{row_number}
use Rattle.search.specs.Keys.{WithKey}
use Rattle.search.proofs.keys.with_key.Given as goal

abbrev pub invariant-loop-t : goal.invariant-loop-t
invariant-loop-t l = WithKey l.t l.k (map row_number l.rows) l.keys l.key l.out.bytes
