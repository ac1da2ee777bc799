-- `fill` meets its contract. The loop's invariant: the bytes of the first `k` cells are written.
use Rattle.std.proofs.Common.{◌≡◌, length}
use Rattle.lines.specs.Tables.{Cellwise}
use Rattle.lines.proofs.tables.fill.Given as goal

abbrev pub invariant-loop-k : goal.invariant-loop-k
invariant-loop-k g l = (length l.table ≡ 384) × Cellwise l.table l.k l.a l.b (goal.F-post g l.last)
