-- How often each value stands in a row. Between functions: no answer of a call is defined here.
-- The counts of a row are kept as one number to base 16: its first digit says how often the value of rank 0 stands in the row, the next one how often that of rank 1, and
-- so on to rank 14. Sixteen equal cells carry.
--
--   weight_at r           ==  16 to the power 14 - r, and 0 from r = 15 on
--   weight v              ==  what a cell of value v adds to the number of its row
--   counts l              ==  the number of the cells l
--   CountsRows m n g p c  ==  c holds the numbers of the first m rows of the order p
--   FirstGreatest t c r   ==  the greatest of the first t numbers of c stands first at r
--   MarksLess c r marks   ==  marks are set only where the number in c is less than that at r
use Rattle.std.specs.Prelude.{◌≡◌, Bool, List, [], ◌∷◌, true, false, ℕ, ◌+◌, ◌-◌, ◌*◌, ◌^◌, ◌≤◌, ◌<◌, get_or, ltb}
use Rattle.grids.specs.Order.{rank}
use Rattle.grids.specs.Grids.{row}

unfoldable pub weight_at : ℕ → ℕ
weight_at r = elim (ltb r 15) [ true ↦ 2 ^ (56 - 4 * r) | false ↦ 0 ]

unfoldable pub weight : ℕ → ℕ
weight v = weight_at (rank v)

unfoldable pub counts : List ℕ → ℕ
counts [] = 0
counts (x ∷ l) = weight x + counts l

unfoldable pub CountsRows : ℕ → ℕ → List ℕ → List ℕ → List ℕ → Type 0
CountsRows m n g p c = (s : ℕ) → s < m → get_or c s 0 ≡ counts (row n g (get_or p s 0))

pub record FirstGreatest (t : ℕ) (c : List ℕ) (r : ℕ) : Type 0 where
  pub within : r < t
  pub before : (s : ℕ) → s < r → get_or c s 0 < get_or c r 0
  pub greatest : (s : ℕ) → s < t → get_or c s 0 ≤ get_or c r 0

unfoldable pub MarksLess : List ℕ → ℕ → List Bool → Type 0
MarksLess c r marks = (s : ℕ) → (get_or marks s false ≡ true) → get_or c s 0 < get_or c r 0
