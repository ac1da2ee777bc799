-- `all_counts` meets its contract. The loop's invariant: the rows before position t are counted.
use mathlib.Core.Path.{◌≡◌}
use lib.ListN.{length}
use Rattle.permutations.specs.Rows.{row_numbers}
use Rattle.general_search.specs.Counts.{CountsRows}
use Rattle.general_search.proofs.terminal_search.all_counts.Given as goal

abbrev pub invariant-loop-t : goal.invariant-loop-t
invariant-loop-t l = (length l.out ≡ 5) × CountsRows l.t l.n l.grid (row_numbers l.rows) l.out
