-- How far two lists of cells agree.
--
--   common_prefix_length a b  ==  how many leading values of a and b are equal: document 02's leading cells that agree
use Rattle.std.specs.Prelude.{List, [], ◌∷◌, true, false, ℕ, suc, eqb}

unfoldable pub common_prefix_length : List ℕ → List ℕ → ℕ
common_prefix_length [] b = 0
common_prefix_length (x ∷ a) [] = 0
common_prefix_length (x ∷ a) (y ∷ b) = elim (eqb x y) [ true ↦ suc (common_prefix_length a b) | false ↦ 0 ]
