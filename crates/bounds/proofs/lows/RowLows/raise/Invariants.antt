-- `raise` meets its contract. The loop's invariant: the lows before column `c` are raised, and the others are as they were.
use Rattle.std.proofs.Common.{◌≡◌, ℕ, ◌<◌, ◌≤◌, get_or}
use Rattle.grids.specs.Order.{higher}
use Rattle.bounds.specs.Rows.{low_for}
use Rattle.bounds.proofs.lows.RowLows.raise.Given as goal

abbrev pub invariant-loop-c : goal.invariant-loop-c
invariant-loop-c l =
    ((j : ℕ) → j < l.c → get_or l.lows j 0 ≡ higher (get_or l.fn.lows j 0) (low_for l.self (get_or l.high j 0))) ×
    ((j : ℕ) → l.c ≤ j → get_or l.lows j 0 ≡ get_or l.fn.lows j 0)
