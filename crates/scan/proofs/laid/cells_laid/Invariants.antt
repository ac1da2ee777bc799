-- `cells_laid` meets its contract. The loop's invariant: `laid` is the answer for the first `k` bytes.
use mathlib.Core.Path.{◌≡◌}
use Rattle.scan.specs.Fits.{all_fit}
use Rattle.scan.proofs.laid.cells_laid.Given as goal

abbrev pub invariant-loop-k : goal.invariant-loop-k
invariant-loop-k l = l.laid ≡ all_fit l.k l.register l.before l.tables.base l.tables.teen l.tables.span l.cap
