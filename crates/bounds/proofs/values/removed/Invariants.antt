-- `removed` meets its contract. The loop's invariant: the count is that of the cells before `k`, at most 16 for each.
use mathlib.Core.Path.{◌≡◌}
use mathlib.Core.List.{List}
use Prim.Native.Nat.{ℕ, ◌*◌, ◌≤◌}
use lib.ListN.{length}
use Rattle.bounds.specs.Narrowed.{Inside, removed_by}
use Rattle.bounds.proofs.values.removed.Given as goal

pub record SoFar (low high lows highs : List ℕ) (count k : ℕ) : Type 0 where
  pub few : count ≤ 16 * k
  pub counted : (top : ℕ) → Inside (length low) top low high lows highs → count ≡ removed_by k top low high lows highs

abbrev pub invariant-loop-k : goal.invariant-loop-k
invariant-loop-k l = SoFar l.low l.high l.lows l.highs l.count l.k
