-- Allperm: row 0 is at most every permutation of every other row, rows compared from the left.
--
--   Allperm m n g  ==  the grid g of m rows and n columns has it
--   allperm m n g  ==  the test of it, over all permutations
use Rattle.std.specs.Prelude.{List, Bool, ℕ, ◌-◌, ◌<◌}
use Rattle.permutations.specs.Lists.{tabulate, every}
use Rattle.permutations.specs.Permutations.{IsPermutation, permutations}
use Rattle.grids.specs.Order.{◌≼◌, leq}
use Rattle.grids.specs.Grids.{row, permuted_row}

unfoldable pub Allperm : ℕ → ℕ → List ℕ → Type 0
Allperm m n g = (i : ℕ) → 0 < i → i < m → (q : List ℕ) → IsPermutation n q → row n g 0 ≼ permuted_row n g i q

unfoldable pub allperm : ℕ → ℕ → List ℕ → Bool
allperm m n g = every (λ i. every (λ q. leq (row n g 0) (permuted_row n g i q)) (permutations n)) (tabulate 1 (m - 1) (λ i. i))
