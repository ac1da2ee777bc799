-- Two ways to count: bounds as sent, and what prune leaves of them. On a register reached by calls they give one number, zero where prune says 102.
--
--   CountsAlike i b low high  ==  they do so on the register b, with the rows, columns and top that it states
--   BothCounts i         ==  they do so on every register that an open within the limits and any calls leave, for all slices of bytes
use Rattle.std.specs.Prelude.{◌≡◌, List, ℕ}
use Rattle.permutations.specs.Lists.{All}
use Rattle.grids.specs.Lent.{Bytes}
use Rattle.layout.specs.Layout.{Shape, decode_shape, InLimits}
use Rattle.machine.specs.CallLists.{Call, Implementation, LentCall, left}
use Rattle.machine.specs.Demand3.{pruned_for}

pub record CountsAlike (i : Implementation) (b low high : List ℕ) : Type 0 where
  -- prune says 0: the number, the count and the bytes are the same
  pub alike : (pruned_for (decode_shape b) low high).number ≡ 0 →
      i.counts b (pruned_for (decode_shape b) low high).low (pruned_for (decode_shape b) low high).high ≡ i.counts b low high
  -- prune says 102: the count of the bounds as sent is zero
  pub zero : (pruned_for (decode_shape b) low high).number ≡ 102 → i.counts b low high ≡ record { number = 0; place = 0; bytes = b }

unfoldable pub BothCounts : Implementation → Type 0
BothCounts i =
    (s : Shape) (slice : List ℕ) → InLimits s → Bytes slice → (i.opens s slice).number ≡ 0 → (calls : List Call) → All LentCall calls →
    (low high : List ℕ) → Bytes low → Bytes high → CountsAlike i (left i (i.opens s slice).bytes calls) low high
