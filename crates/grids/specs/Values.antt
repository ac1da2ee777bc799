-- The values that a grid has. Between functions: no answer of a call is defined here.
--
--   TwoValued g low  ==  the cells of g are `low` and at most one value more, which ranks higher
--   HasCell g v      ==  v is a cell of g, or 0, the cell past its end
use Rattle.std.specs.Prelude.{◌≡◌, List, ℕ, ◌≤◌, ◌<◌, length, get_or}
use Rattle.grids.specs.Order.{rank}

pub record TwoValued (g : List ℕ) (low : ℕ) : Type 0 where
  pub lowest : (i : ℕ) → i < length g → rank low ≤ rank (get_or g i 0)
  pub one_more : (i j : ℕ) → i < length g → j < length g → (get_or g i 0 ≡ low → ⊥) → (get_or g j 0 ≡ low → ⊥) → get_or g i 0 ≡ get_or g j 0

abbrev pub HasCell : List ℕ → ℕ → Type 0
HasCell g v = (i : ℕ) × (get_or g i 0 ≡ v)
