-- The register's bytes.
--
--   Shape          ==  rows, columns, top and capacity, as opened
--   Entry          ==  a grid and the holdings of the clients, client 1 first
--   Register       ==  a shape and the entries
--   clients, most_held  ==  how many clients there are, and the most that one can hold of a class
--   no_holdings     ==  holdings that are all 0
--   grids_of l      ==  the grids of entries
--   grid_size s     ==  how many cells a grid of the shape has
--   fields w l     ==  the numbers of l, w wide each
--   number_width, cell_width  ==  how wide a number of line 1 is, and a cell or a holding
--   head_numbers    ==  how many numbers line 1 has
--   rows_place, columns_place, top_place, capacity_place, count_place  ==  where each of them begins
--   head_length     ==  how many bytes line 1 has, the line feed included
--   entry_width size  ==  how many bytes the numbers of an entry with so many cells take, its holdings included
--   line_length size  ==  how many bytes its line has, the line feed included
--   line_start size e  ==  where line e of the entries begins, the first being 0
--   head_list s n   ==  the numbers of line 1: rows, columns, top, capacity and the count n
--   head_line s n   ==  line 1: these numbers and a line feed
--   entry_line e    ==  an entry's line: its cells and then its holdings, and a line feed
--   blank_line size ==  a line of spaces of the same length
--   layout r       ==  the register's bytes: line 1, the entries, and blank lines up to the capacity
--   layout_length s ==  how many bytes that is
--   number_at w i b ==  the number in the w bytes from i on
--   cells_of size l, holdings_of size l  ==  the cells that a line states, and the holdings behind them
--   entry_of size l ==  the entry that it states
--   count b        ==  the count that the bytes state
--   entry_at size b e  ==  the entry that line e of the entries states, the first being 0
--   decode_shape b  ==  the shape that the bytes state
--   decode b       ==  the register that the bytes state
--   InLimits s     ==  rows 1 to 8, columns 1 to 16, top 0 to 15, capacity 1 to 500
--   holding c h    ==  the holding of client c, 1 to 8; question 15 refuses any other client before, and here 0 has client 1's, 9 and above have 0
--   changed c x h  ==  holdings with x in its place
--   IsHoldings h   ==  a holding of 0 to 999 for each client, and not all are 0
--   Ascends l      ==  each grid of l comes before all later ones
--   IsRegister r   ==  limits, count at most capacity, entries of m times n cells at most top and of such holdings, their grids strictly ascending
--   some_held h     ==  not all holdings of h are 0
--   in_limits, is_holdings, is_entry, ascending, is_register  ==  their tests; an entry is compared with the next
--   laid_out b      ==  question 5: what the bytes state is such a register, and its layout is these bytes
use mathlib.Core.List.{List, [], ◌∷◌, ◌++◌, map, flatten, Memᴰ}
use Rattle.std.specs.Prelude.{◌≡◌, Bool, true, ◌&&◌, ℕ, ◌+◌, ◌-◌, ◌*◌, ◌≤◌, ◌<◌, length, get_or, set, take, drop, replicate, leb, ltb, eqb}
use Rattle.permutations.specs.Lists.{tabulate, every, some}
use Rattle.grids.specs.Order.{◌≺◌, less, equal}
use Rattle.grids.specs.Grids.{IsGrid, is_grid, capped}
use Rattle.grids.specs.Questions.{in_range, Limits}
use Rattle.layout.specs.Decimal.{field, value}

pub record Shape : Type 0 where
  pub rows : ℕ
  pub columns : ℕ
  pub top : ℕ
  pub capacity : ℕ

pub record Entry : Type 0 where
  pub grid : List ℕ
  pub holdings : List ℕ

pub record Register : Type 0 where
  pub shape : Shape
  pub entries : List Entry

abbrev pub clients : ℕ
clients = 8

abbrev pub most_held : ℕ
most_held = 999

abbrev pub no_holdings : List ℕ
no_holdings = replicate clients 0

abbrev pub grids_of : List Entry → List (List ℕ)
grids_of l = map (λ (e : Entry). e.grid) l

abbrev pub grid_size : Shape → ℕ
grid_size s = s.rows * s.columns

unfoldable pub fields : ℕ → List ℕ → List ℕ
fields w l = flatten (map (field w) l)

abbrev pub number_width : ℕ
number_width = 6

abbrev pub cell_width : ℕ
cell_width = 3

abbrev pub head_numbers : ℕ
head_numbers = 5

abbrev pub rows_place : ℕ
rows_place = 0 * number_width

abbrev pub columns_place : ℕ
columns_place = 1 * number_width

abbrev pub top_place : ℕ
top_place = 2 * number_width

abbrev pub capacity_place : ℕ
capacity_place = 3 * number_width

abbrev pub count_place : ℕ
count_place = 4 * number_width

abbrev pub head_length : ℕ
head_length = head_numbers * number_width + 1

unfoldable pub entry_width : ℕ → ℕ
entry_width size = cell_width * (size + clients)

unfoldable pub line_length : ℕ → ℕ
line_length size = entry_width size + 1

abbrev pub line_start : ℕ → ℕ → ℕ
line_start size e = head_length + e * line_length size

unfoldable pub entry_line : Entry → List ℕ
entry_line e = fields cell_width (e.grid ++ e.holdings) ++ (10 ∷ [])

unfoldable pub blank_line : ℕ → List ℕ
blank_line size = replicate (entry_width size) 32 ++ (10 ∷ [])

abbrev pub head_list : Shape → ℕ → List ℕ
head_list s n = s.rows ∷ s.columns ∷ s.top ∷ s.capacity ∷ n ∷ []

unfoldable pub head_line : Shape → ℕ → List ℕ
head_line s n = fields number_width (head_list s n) ++ (10 ∷ [])

unfoldable pub layout : Register → List ℕ
layout r =
    head_line r.shape (length r.entries)
    ++ (flatten (map entry_line r.entries) ++ flatten (replicate (r.shape.capacity - length r.entries) (blank_line (grid_size r.shape))))

unfoldable pub layout_length : Shape → ℕ
layout_length s = line_start (grid_size s) s.capacity

unfoldable pub number_at : ℕ → ℕ → List ℕ → ℕ
number_at w i b = value (take w (drop i b))

unfoldable pub cells_of : ℕ → List ℕ → List ℕ
cells_of size l = tabulate 0 size (λ k. number_at cell_width (cell_width * k) l)

unfoldable pub holdings_of : ℕ → List ℕ → List ℕ
holdings_of size l = tabulate 0 clients (λ k. number_at cell_width (cell_width * (size + k)) l)

abbrev pub entry_of : ℕ → List ℕ → Entry
entry_of size l = record { grid = cells_of size l; holdings = holdings_of size l }

unfoldable pub holding : ℕ → List ℕ → ℕ
holding c h = get_or h (c - 1) 0

unfoldable pub changed : ℕ → ℕ → List ℕ → List ℕ
changed c x h = set h (c - 1) x

unfoldable pub count : List ℕ → ℕ
count b = number_at number_width count_place b

unfoldable pub entry_at : ℕ → List ℕ → ℕ → Entry
entry_at size b e = entry_of size (take (line_length size) (drop (line_start size e) b))

unfoldable pub decode_shape : List ℕ → Shape
decode_shape b = record {
  rows = number_at number_width rows_place b;
  columns = number_at number_width columns_place b;
  top = number_at number_width top_place b;
  capacity = number_at number_width capacity_place b;
}

unfoldable pub decode : List ℕ → Register
decode b = record { shape = decode_shape b; entries = tabulate 0 (count b) (entry_at (grid_size (decode_shape b)) b) }

pub record InLimits (s : Shape) : Type 0 where
  pub grid-limits : Limits s.rows s.columns s.top
  pub capacity-limits : (1 ≤ s.capacity) × (s.capacity ≤ 500)

pub record IsHoldings (h : List ℕ) : Type 0 where
  pub sized : length h ≡ clients
  pub capped : (k : ℕ) → k < clients → get_or h k 0 ≤ most_held
  pub held : (k : ℕ) × (k < clients) × (0 < get_or h k 0)

abbrev pub Ascends : List (List ℕ) → Type 0
Ascends [] = Unit {0}
Ascends (x ∷ l) = ((y : List ℕ) → Memᴰ y l → x ≺ y) × Ascends l

pub record IsRegister (r : Register) : Type 0 where
  pub limits : InLimits r.shape
  pub count_fits : length r.entries ≤ r.shape.capacity
  pub entry-grids : (e : Entry) → Memᴰ e r.entries → IsGrid r.shape.rows r.shape.columns r.shape.top e.grid
  pub entry-holdings : (e : Entry) → Memᴰ e r.entries → IsHoldings e.holdings
  pub entries-ascend : Ascends (grids_of r.entries)

-- ---- the tests

unfoldable pub in_limits : Shape → Bool
in_limits s = in_range 1 8 s.rows && (in_range 1 16 s.columns && (in_range 0 15 s.top && in_range 1 500 s.capacity))

unfoldable pub some_held : List ℕ → Bool
some_held h = some (λ x. ltb 0 x) h

unfoldable pub is_holdings : List ℕ → Bool
is_holdings h = eqb (length h) clients && (capped most_held h && some_held h)

unfoldable pub is_entry : Shape → Entry → Bool
is_entry s e = is_grid s.rows s.columns s.top e.grid && is_holdings e.holdings

unfoldable pub ascending : List (List ℕ) → Bool
ascending [] = true
ascending (x ∷ []) = true
ascending (x ∷ y ∷ l) = less x y && ascending (y ∷ l)

unfoldable pub is_register : Register → Bool
is_register r =
    in_limits r.shape && (leb (length r.entries) r.shape.capacity && (every (is_entry r.shape) r.entries && ascending (grids_of r.entries)))

unfoldable pub laid_out : List ℕ → Bool
laid_out b = is_register (decode b) && equal (layout (decode b)) b
