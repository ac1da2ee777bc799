-- The values that the grids of the bounds which obey a rule have in a cell. The rule is a parameter: a property of grids, or its test.
--
--   Obeyed Rule size top low high      ==  some grid in the bounds obeys the rule
--   Kept Rule size top low high k v    ==  some grid in the bounds that obeys the rule has the value v in cell k
--   obeyed, keeps                      ==  their tests, over all grids in the bounds
--   kept_values rule size top low high k  ==  the values 0 to top that are kept in cell k
--   lowest_from x l, highest_from x l    ==  the value among x and l that ranks lowest, highest
--   lowest l, highest l                ==  the value of l that does; 0 for no value
--   kept_low, kept_high rule size top low high  ==  the lowest and the highest value kept in each cell
--   removed_values rule size top low high k  ==  the values within the bounds of cell k that are not kept
--   removed rule size top low high     ==  how many these are, summed over the cells
use Rattle.std.specs.Prelude.{◌≡◌, Bool, true, false, not, ◌&&◌, ℕ, suc, ◌+◌, length, get_or, ltb, eqb}
use mathlib.Core.List.{List, [], ◌∷◌, foldr}
use Rattle.permutations.specs.Lists.{tabulate, numbers, select, some}
use Rattle.grids.specs.Order.{rank}
use Rattle.bounds.specs.Bounds.{InBounds, between, grids_within}

pub record Obeyed (Rule : List ℕ → Type 0) (size top : ℕ) (low high : List ℕ) : Type 0 where
  pub example : List ℕ
  pub inside : InBounds size top low high example
  pub obeys : Rule example

pub record Kept (Rule : List ℕ → Type 0) (size top : ℕ) (low high : List ℕ) (k v : ℕ) : Type 0 where
  pub example : List ℕ
  pub inside : InBounds size top low high example
  pub obeys : Rule example
  pub has : get_or example k 0 ≡ v

unfoldable pub obeyed : (List ℕ → Bool) → ℕ → ℕ → List ℕ → List ℕ → Bool
obeyed rule size top low high = some rule (grids_within size top low high)

unfoldable pub keeps : (List ℕ → Bool) → ℕ → ℕ → List ℕ → List ℕ → ℕ → ℕ → Bool
keeps rule size top low high k v = some (λ g. eqb (get_or g k 0) v && rule g) (grids_within size top low high)

unfoldable pub kept_values : (List ℕ → Bool) → ℕ → ℕ → List ℕ → List ℕ → ℕ → List ℕ
kept_values rule size top low high k = select (keeps rule size top low high k) (numbers (suc top))

unfoldable pub lowest_from : ℕ → List ℕ → ℕ
lowest_from x [] = x
lowest_from x (y ∷ l) = lowest_from (elim (ltb (rank y) (rank x)) [ true ↦ y | false ↦ x ]) l

unfoldable pub lowest : List ℕ → ℕ
lowest [] = 0
lowest (x ∷ l) = lowest_from x l

unfoldable pub highest_from : ℕ → List ℕ → ℕ
highest_from x [] = x
highest_from x (y ∷ l) = highest_from (elim (ltb (rank x) (rank y)) [ true ↦ y | false ↦ x ]) l

unfoldable pub highest : List ℕ → ℕ
highest [] = 0
highest (x ∷ l) = highest_from x l

unfoldable pub kept_low : (List ℕ → Bool) → ℕ → ℕ → List ℕ → List ℕ → List ℕ
kept_low rule size top low high = tabulate 0 size (λ k. lowest (kept_values rule size top low high k))

unfoldable pub kept_high : (List ℕ → Bool) → ℕ → ℕ → List ℕ → List ℕ → List ℕ
kept_high rule size top low high = tabulate 0 size (λ k. highest (kept_values rule size top low high k))

unfoldable pub removed_values : (List ℕ → Bool) → ℕ → ℕ → List ℕ → List ℕ → ℕ → List ℕ
removed_values rule size top low high k = select (λ v. not (keeps rule size top low high k v)) (between top (get_or low k 0) (get_or high k 0))

unfoldable pub removed : (List ℕ → Bool) → ℕ → ℕ → List ℕ → List ℕ → ℕ
removed rule size top low high = foldr ◌+◌ 0 (tabulate 0 size (λ k. length (removed_values rule size top low high k)))
