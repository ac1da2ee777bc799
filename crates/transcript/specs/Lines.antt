-- The lines of the input, by their places. Between functions: no answer of a call is defined here.
--
--   NextLine input at end  ==  the line that begins at a place ends at another, and the further lines follow it there
use Rattle.std.specs.Prelude.{◌≡◌, List, ◌∷◌, ℕ, ◌-◌, ◌≤◌, ◌<◌, length, take, drop}
use Rattle.protocol.specs.Input.{lines}

pub record NextLine (input : List ℕ) (at end : ℕ) : Type 0 where
  pub further : at < end
  pub within : end ≤ length input
  pub line : lines (drop at input) ≡ take (end - at) (drop at input) ∷ lines (drop end input)
