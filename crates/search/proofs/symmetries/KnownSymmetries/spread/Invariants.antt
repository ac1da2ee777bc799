-- `spread` meets its contract. The loop's invariant: what covers the rows of the set at first covers those of the set now.
use Rattle.search.specs.Search.{rows_of, Spreads}
use Rattle.search.proofs.symmetries.KnownSymmetries.spread.Given as goal

abbrev pub invariant-loop-s : goal.invariant-loop-s
invariant-loop-s l = Spreads l.tables.m l.tables.n l.tables.grid.now l.k (rows_of l.rows) l.initial.out.bytes l.out.bytes
