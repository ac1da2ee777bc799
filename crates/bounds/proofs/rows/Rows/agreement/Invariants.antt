-- `agreement` meets its contract. The loop's invariant: the lows and the sorted row agree from `from` up to `t`.
use mathlib.Core.Path.{◌≡◌}
use Prim.Native.Nat.{ℕ, ◌-◌, ◌≤◌, ◌<◌}
use Rattle.bounds.specs.Rows.{cell_at}
use Rattle.bounds.proofs.rows.Rows.agreement.Given as goal

abbrev pub invariant-loop-t : goal.invariant-loop-t
invariant-loop-t l = (j : ℕ) → l.from ≤ j → j < l.t → cell_at l.self.lows.now j ≡ cell_at l.self.sorted (j - l.shift)
