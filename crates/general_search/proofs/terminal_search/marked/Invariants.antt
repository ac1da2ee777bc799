-- `marked` meets its contract. The loop's invariant: only positions with lesser counts are marked.
use mathlib.Core.Path.{◌≡◌}
use lib.ListN.{length}
use Rattle.general_search.specs.Counts.{MarksLess}
use Rattle.general_search.proofs.terminal_search.marked.Given as goal

abbrev pub invariant-loop-t : goal.invariant-loop-t
invariant-loop-t l = (length l.above ≡ 8) × MarksLess l.fn.all l.first l.above
