-- What a comparison of two lists of cells finds. Between functions: no answer of a call is defined here.
--
--   compared a b  ==  Less where a comes before b, Greater where b comes before a, Equal where they are equal
--   compared_cells x y  ==  the same of two cells
--   ComparesGrids a b r  ==  r is what a comparison of a with b finds, and how many leading cells agree
use Rattle.std.specs.Prelude.{◌≡◌, List, [], ◌∷◌, true, false, ℕ}
use Rattle.std.specs.declared.cmp.Ordering.{Ordering}
use Rattle.std.specs.declared.cmp.Ordering.TheVariants.{Less, Equal, Greater}
use Rattle.grids.specs.declared.comparisons.GridComparison.{GridComparison}
use Rattle.grids.specs.Order.{leq}
use Rattle.grids.specs.CommonPrefix.{common_prefix_length}

unfoldable pub compared : List ℕ → List ℕ → Ordering
compared a b = elim (leq a b) [ true ↦ elim (leq b a) [ true ↦ Equal | false ↦ Less ] | false ↦ Greater ]

abbrev pub compared_cells : ℕ → ℕ → Ordering
compared_cells x y = compared (x ∷ []) (y ∷ [])

pub record ComparesGrids (a b : List ℕ) (r : GridComparison) : Type 0 where
  pub found-is : r.found ≡ compared a b
  pub agreed-is : r.agreed ≡ common_prefix_length a b
