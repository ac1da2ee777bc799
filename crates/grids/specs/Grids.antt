-- Grids of m rows and n columns, as their m * n cells row after row; their arrangements and classes.
--
--   cell n g i j           ==  the cell in row i, column j of the grid g of n columns
--   grid_of m n f          ==  the grid of m rows and n columns with f i j in row i, column j
--   IsGrid m n top g       ==  g has m * n cells, each 0 to top
--   capped top g           ==  the test that every cell is at most top
--   is_grid m n top g      ==  the test of IsGrid
--   row n g i              ==  row i from the left
--   column m n g j         ==  column j from the top
--   permuted_row n g i q   ==  row i, its cells in the order q
--   arrangement m n p q g  ==  the arrangement of g by the row order p and the column order q: g (p i, q j) in row i, column j
--   OneClass m n a b       ==  some row order and some column order carry a to b: the two grids are in one class
--   one_class m n a b      ==  the test of it, over all orders
use Rattle.std.specs.Prelude.{◌≡◌, List, Bool, ◌&&◌, ℕ, ◌+◌, ◌*◌, ◌/◌, ◌%◌, ◌≤◌, ◌<◌, length, get_or, leb, eqb}
use Rattle.permutations.specs.Lists.{tabulate, every, some}
use Rattle.permutations.specs.Permutations.{IsPermutation, permutations}
use Rattle.grids.specs.Order.{equal}

abbrev pub cell : ℕ → List ℕ → ℕ → ℕ → ℕ
cell n g i j = get_or g (i * n + j) 0

unfoldable pub grid_of : ℕ → ℕ → (ℕ → ℕ → ℕ) → List ℕ
grid_of m n f = tabulate 0 (m * n) (λ k. f (k / n) (k % n))

pub record IsGrid (m n top : ℕ) (g : List ℕ) : Type 0 where
  pub sized : length g ≡ m * n
  pub capped : (k : ℕ) → k < m * n → get_or g k 0 ≤ top

unfoldable pub capped : ℕ → List ℕ → Bool
capped top g = every (λ x. leb x top) g

unfoldable pub is_grid : ℕ → ℕ → ℕ → List ℕ → Bool
is_grid m n top g = eqb (length g) (m * n) && capped top g

unfoldable pub row : ℕ → List ℕ → ℕ → List ℕ
row n g i = tabulate 0 n (λ j. cell n g i j)

unfoldable pub column : ℕ → ℕ → List ℕ → ℕ → List ℕ
column m n g j = tabulate 0 m (λ i. cell n g i j)

unfoldable pub permuted_row : ℕ → List ℕ → ℕ → List ℕ → List ℕ
permuted_row n g i q = tabulate 0 n (λ j. cell n g i (get_or q j 0))

unfoldable pub arrangement : ℕ → ℕ → List ℕ → List ℕ → List ℕ → List ℕ
arrangement m n p q g = grid_of m n (λ i j. cell n g (get_or p i 0) (get_or q j 0))

pub record OneClass (m n : ℕ) (a b : List ℕ) : Type 0 where
  pub rows : List ℕ
  pub columns : List ℕ
  pub row-permutation : IsPermutation m rows
  pub column-permutation : IsPermutation n columns
  pub gives : arrangement m n rows columns a ≡ b

unfoldable pub one_class : ℕ → ℕ → List ℕ → List ℕ → Bool
one_class m n a b = some (λ p. some (λ q. equal (arrangement m n p q a) b) (permutations n)) (permutations m)
