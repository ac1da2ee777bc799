-- The limits of the numbers of line 1. Between functions: no answer of a call is defined here.
--
--   WithinLimits rows columns top capacity count  ==  each number is within its limits, and the count is at most the capacity
use Rattle.std.specs.Prelude.{ℕ, ◌≤◌}
use Rattle.grids.specs.Questions.{Limits}

pub record WithinLimits (rows columns top capacity count : ℕ) : Type 0 where
  pub grid-limits : Limits rows columns top
  pub capacity-limits : (1 ≤ capacity) × (capacity ≤ 500)
  pub count_fits : count ≤ capacity
