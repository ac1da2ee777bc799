-- The least arrangement of a grid: document 01's representative, the least grid of its class.
--
--   IsLeast m n g r     ==  r is an arrangement of g and comes no later than any
--   arrangements m n g  ==  all arrangements of g
--   lesser a b          ==  the one of a and b that comes first
--   least_of g l        ==  the first among g and the grids of l
--   least m n g         ==  the least arrangement of g, computed
use mathlib.Core.List.{List, [], ◌∷◌, map, flat_map}
use Rattle.std.specs.Prelude.{true, false, ℕ}
use Rattle.permutations.specs.Permutations.{permutations}
use Rattle.grids.specs.Order.{◌≼◌, leq}
use Rattle.grids.specs.Grids.{arrangement, OneClass}

pub record IsLeast (m n : ℕ) (g r : List ℕ) : Type 0 where
  pub arranged : OneClass m n g r
  pub no-later : (s : List ℕ) → OneClass m n g s → r ≼ s

unfoldable pub arrangements : ℕ → ℕ → List ℕ → List (List ℕ)
arrangements m n g = flat_map (λ p. map (λ q. arrangement m n p q g) (permutations n)) (permutations m)

unfoldable pub lesser : List ℕ → List ℕ → List ℕ
lesser a b = elim (leq a b) [ true ↦ a | false ↦ b ]

unfoldable pub least_of : List ℕ → List (List ℕ) → List ℕ
least_of g [] = g
least_of g (x ∷ l) = lesser x (least_of g l)

unfoldable pub least : ℕ → ℕ → List ℕ → List ℕ
least m n g = least_of g (arrangements m n g)
