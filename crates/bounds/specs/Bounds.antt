-- Bounds on the cells of a grid, a list of lows and a list of highs: document 01's form.
--
--   IsBounds size top low high      ==  low and high are bounds: size values each, 0 to top, each low at most its high by rank
--   InBounds size top low high g    ==  the grid g lies in the bounds: size cells, each 0 to top and, by rank, within its low to its high
--   ranks_within a b v              ==  the value v ranks within a to b
--   between top a b                 ==  the values 0 to top that rank within a to b
--   in_bounds size top low high g   ==  the test of InBounds
--   fillings top low high s n       ==  all ways to fill n cells from cell s on
--   grids_within size top low high  ==  all grids that lie in the bounds
use Rattle.std.specs.Prelude.{◌≡◌, Bool, ◌&&◌, ℕ, zero, suc, ◌≤◌, ◌<◌, length, get_or, leb, eqb}
use mathlib.Core.List.{List, [], ◌∷◌, map, flat_map}
use Rattle.permutations.specs.Lists.{numbers, select, every}
use Rattle.grids.specs.Order.{rank}

pub record IsBounds (size top : ℕ) (low high : List ℕ) : Type 0 where
  pub low-size : length low ≡ size
  pub high-size : length high ≡ size
  pub low-cap : (k : ℕ) → k < size → get_or low k 0 ≤ top
  pub high-cap : (k : ℕ) → k < size → get_or high k 0 ≤ top
  pub in_order : (k : ℕ) → k < size → rank (get_or low k 0) ≤ rank (get_or high k 0)

pub record InBounds (size top : ℕ) (low high g : List ℕ) : Type 0 where
  pub sized : length g ≡ size
  pub capped : (k : ℕ) → k < size → get_or g k 0 ≤ top
  pub above : (k : ℕ) → k < size → rank (get_or low k 0) ≤ rank (get_or g k 0)
  pub below : (k : ℕ) → k < size → rank (get_or g k 0) ≤ rank (get_or high k 0)

unfoldable pub ranks_within : ℕ → ℕ → ℕ → Bool
ranks_within a b v = leb (rank a) (rank v) && leb (rank v) (rank b)

unfoldable pub between : ℕ → ℕ → ℕ → List ℕ
between top a b = select (ranks_within a b) (numbers (suc top))

unfoldable pub in_bounds : ℕ → ℕ → List ℕ → List ℕ → List ℕ → Bool
in_bounds size top low high g =
    eqb (length g) size && every (λ k. leb (get_or g k 0) top && ranks_within (get_or low k 0) (get_or high k 0) (get_or g k 0)) (numbers size)

unfoldable pub fillings : ℕ → List ℕ → List ℕ → ℕ → ℕ → List (List ℕ)
fillings top low high s zero = [] ∷ []
fillings top low high s (suc n) = flat_map (λ v. map (λ g. v ∷ g) (fillings top low high (suc s) n)) (between top (get_or low s 0) (get_or high s 0))

unfoldable pub grids_within : ℕ → ℕ → List ℕ → List ℕ → List (List ℕ)
grids_within size top low high = fillings top low high 0 size
