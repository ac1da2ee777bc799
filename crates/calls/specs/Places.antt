-- Where a grid belongs in an ascending list. Between functions: no answer of a call is defined here.
--
--   Lower l r p           ==  p grids of l come before r, those in front
--   Between l r low high  ==  the grids before low come before r, and those from high on do not
use Rattle.std.specs.Prelude.{List, [], ℕ, ◌≤◌, ◌<◌, length, get_or}
use Rattle.grids.specs.Order.{◌≼◌, ◌≺◌}

pub record Lower (l : List (List ℕ)) (r : List ℕ) (p : ℕ) : Type 0 where
  pub within : p ≤ length l
  pub before : (i : ℕ) → i < p → get_or l i [] ≺ r
  pub after : (i : ℕ) → p ≤ i → i < length l → r ≼ get_or l i []

pub record Between (l : List (List ℕ)) (r : List ℕ) (low high : ℕ) : Type 0 where
  pub ordered : low ≤ high
  pub within : high ≤ length l
  pub before : (i : ℕ) → i < low → get_or l i [] ≺ r
  pub after : (i : ℕ) → high ≤ i → i < length l → r ≼ get_or l i []
