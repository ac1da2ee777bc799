-- The values next to a value, by rank. Between functions: no answer of a call is defined here.
--
--   IsNext top x y      ==  of the values 0 to top, y is the one that ranks next above x
--   IsPrevious top x y  ==  of the values 0 to top, y is the one that ranks next below x
use Rattle.std.specs.Prelude.{ℕ, ◌≤◌, ◌<◌}
use Rattle.grids.specs.Order.{rank}

pub record IsNext (top x y : ℕ) : Type 0 where
  pub within : y ≤ top
  pub above : rank x < rank y
  pub first : (v : ℕ) → v ≤ top → rank x < rank v → rank y ≤ rank v

pub record IsPrevious (top x y : ℕ) : Type 0 where
  pub within : y ≤ top
  pub below : rank y < rank x
  pub last : (v : ℕ) → v ≤ top → rank v < rank x → rank v ≤ rank y
