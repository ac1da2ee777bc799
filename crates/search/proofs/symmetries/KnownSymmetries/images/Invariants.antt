-- `images` meets its contract. The loop's invariant: only rows that are reached are of the set.
use Rattle.search.specs.Search.{rows_of}
use Rattle.search.specs.Symmetries.{Images}
use Rattle.search.proofs.symmetries.KnownSymmetries.images.Given as goal

abbrev pub invariant-loop-r : goal.invariant-loop-r
invariant-loop-r l = Images l.m (rows_of l.self.maps) l.s l.initial.out.bytes l.out.bytes
