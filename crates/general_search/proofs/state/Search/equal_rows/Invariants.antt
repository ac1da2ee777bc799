-- `equal_rows` meets its contract. The loop's invariant: the rows have the same cells before column j.
use mathlib.Core.Path.{◌≡◌}
use Prim.Native.Nat.{ℕ, ◌<◌}
use Rattle.grids.specs.Grids.{cell}
use Rattle.general_search.proofs.state.Search.equal_rows.Given as goal

abbrev pub invariant-loop-j : goal.invariant-loop-j
invariant-loop-j l = (c : ℕ) → c < l.j → cell l.self.n l.self.grid.now l.a.0 c ≡ cell l.self.n l.self.grid.now l.b.0 c
