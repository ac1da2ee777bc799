-- The values of a grid.
--
--   small-cell  ==  a cell of a small grid is at most 15, and so is the 0 past its end
use Rattle.std.proofs.Common.{ℕ, ◌<◌, ◌≤◌, List, length, arith}
use Rattle.std.proofs.lemmas.List.{get_or_past}
use native.Mathlib.Decide.{dec_lt}
use Rattle.grids.specs.Values.{HasCell}
use Rattle.branches.specs.Keys.{Small}

pub small-cell : (g : List ℕ) (v : ℕ) → Small g → HasCell g v → v ≤ 15
unfolding Small
small-cell g v s h = go (dec_lt h.0 (length g))
  where
    go : Dec (h.0 < length g) → v ≤ 15
    go (yes b) = omega (arith, s h.0 b, h.1)
    go (no b) = omega (arith, get_or_past g h.0 0 (omega arith), h.1)
