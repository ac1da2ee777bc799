-- The search over partial row orders. Between functions: no answer of a call is defined here.
-- The best arrangement found so far, and the branch at hand, are each kept as a row order and a column order.
--
--   leading_rows k n g o      ==  the first k rows of the arrangement of g by the orders o
--   row_at n g k o            ==  its row k
--   lesser_orders found next best  ==  next, if it was found less; else best
--   IsOrders m n o           ==  o holds a permutation of m rows and one of n columns
--   Repeats n g p k t b      ==  b tells whether the row at position t of p equals one at a position from k up to t
--   Searching m n g k placed breaks best  ==  the search stands so: the first k rows of `placed` are placed, its columns are sorted by them, and `best` begins with the same rows
--   Candidate m n g k t placed breaks next  ==  `next` places the row at position t as well, and sorts the columns by it
--   Improves m n g k best out   ==  out comes no later than best, and begins with the same k rows
--   Bounded m n g k placed breaks best b  ==  b's best improves best, and covers the branches that b says it comes before; it is the candidate at `from` where b says so
--   Searched m n g k placed best out   ==  and comes no later than any arrangement of the branch
--   Alike m n g k placed out back      ==  an arrangement of the branch equals out's, by a row order that begins with out's first `back` rows
--   BranchOutcome m n g k placed best jumps f  ==  the search of the branch found f: where f goes back to a position before k, the branch is alike the best; else it is searched.
--                              Without jumps it is searched
--   Followed m n g k t placed best out  ==  out improves the best, and covers each branch with a row before position t placed next
--   FollowOutcome m n g k t placed best jumps f  ==  following the row at position t found f: where f goes back to a position before k, that is the outcome of the
--                              whole branch; else the rows up to t are followed
--   back_to m f              ==  the position that f goes back to; m if there is none
--   Settled m p k t f b        ==  where b says so, the branch of the row at position t of p was searched, or the best's row k stands before t
--   LeastOrders m n g o      ==  o gives the least arrangement
--   IsSearching, IsCandidate, IsBound, IsSearched, IsOutcome, FollowedTo, IsFollowed  ==  Searching, Candidate, Bounded, Searched, BranchOutcome, Followed and
--                              FollowOutcome, of a search and a branch
--   IsRoot m n b             ==  in the branch b no row is placed
use Rattle.std.specs.Prelude.{◌≡◌, List, Bool, true, false, ◌⊎◌, ℕ, suc, ◌+◌, ◌≤◌, ◌<◌, get_or, replicate, unwrap_or}
use Rattle.permutations.specs.Permutations.{IsPermutation, identity, swapped}
use Rattle.permutations.specs.Rows.{row_numbers, IsRowPermutation}
use Rattle.permutations.specs.Numbered.{Lists}
use Rattle.permutations.specs.Columns.{column_numbers, IsColumnPermutation}
use Rattle.std.specs.declared.cmp.Ordering.{Ordering}
use Rattle.std.specs.declared.cmp.Ordering.TheVariants.{Less, Equal, Greater}
use Rattle.grids.specs.Order.{◌≼◌}
use Rattle.grids.specs.Grids.{row, permuted_row, arrangement}
use Rattle.grids.specs.Sorted.{Ascending}
use Rattle.grids.specs.Least.{least}
use Rattle.branches.specs.Branches.{Begins, Covers}
use Rattle.permutations.specs.declared.orders.Orders.{Orders}
use Rattle.general_search.specs.declared.state.Search.{Search}
use Rattle.general_search.specs.declared.state.Branch.{Branch}
use Rattle.general_search.specs.declared.state.Bound.{Bound}
use Rattle.general_search.specs.declared.state.Found.{Found}
use Rattle.general_search.specs.Blocks.{Blocked, BlocksSorted}

abbrev pub leading_rows : ℕ → ℕ → List ℕ → Orders 8 → List ℕ
leading_rows k n g o = arrangement k n (row_numbers o.rows) (column_numbers o.columns) g

abbrev pub lesser_orders : Ordering → Orders 8 → Orders 8 → Orders 8
lesser_orders Less next best = next
lesser_orders Equal next best = best
lesser_orders Greater next best = best

abbrev pub row_at : ℕ → List ℕ → ℕ → Orders 8 → List ℕ
row_at n g k o = permuted_row n g (get_or (row_numbers o.rows) k 0) (column_numbers o.columns)

pub record IsOrders (m n : ℕ) (o : Orders 8) : Type 0 where
  pub rows : IsRowPermutation m o.rows
  pub columns : IsColumnPermutation n o.columns

pub record Repeats (n : ℕ) (g p : List ℕ) (k t : ℕ) (b : Bool) : Type 0 where
  pub found : b ≡ true → (s : ℕ) × (k ≤ s) × (s < t) × (row n g (get_or p s 0) ≡ row n g (get_or p t 0))
  pub none : b ≡ false → (s : ℕ) → k ≤ s → s < t → row n g (get_or p s 0) ≡ row n g (get_or p t 0) → ⊥

pub record Searching (m n : ℕ) (g : List ℕ) (k : ℕ) (placed : Orders 8) (breaks : List Bool) (best : Orders 8) : Type 0 where
  pub placed-fits : k ≤ m
  pub rows_fit : m ≤ 8
  pub columns-fit : n ≤ 16
  pub orders : IsOrders m n placed
  pub blocked : Blocked k n g (row_numbers placed.rows) (column_numbers placed.columns) breaks
  pub best-orders : IsOrders m n best
  pub leading : leading_rows k n g best ≡ leading_rows k n g placed

pub record Candidate (m n : ℕ) (g : List ℕ) (k t : ℕ) (placed : Orders 8) (breaks : List Bool) (next : Orders 8) : Type 0 where
  pub orders : IsOrders m n next
  pub rows : row_numbers next.rows ≡ swapped (row_numbers placed.rows) k t
  pub columns : BlocksSorted n g (get_or (row_numbers next.rows) k 0) breaks placed.columns n next.columns
  pub ascending : Ascending (suc k) n g (row_numbers next.rows) (column_numbers next.columns)
  pub leading : leading_rows k n g next ≡ leading_rows k n g placed

pub record Improves (m n : ℕ) (g : List ℕ) (k : ℕ) (best out : Orders 8) : Type 0 where
  pub orders : IsOrders m n out
  pub lower : leading_rows m n g out ≼ leading_rows m n g best
  pub leading : leading_rows k n g out ≡ leading_rows k n g best

pub record Bounded (m n : ℕ) (g : List ℕ) (k : ℕ) (placed : Orders 8) (breaks : List Bool) (best : Orders 8) (b : Bound) : Type 0 where
  pub improves : Improves m n g k best b.best
  pub first : k ≤ b.from
  pub before : (s : ℕ) → k ≤ s → s < b.from → Covers m n g (suc k) (swapped (row_numbers placed.rows) k s) (leading_rows m n g b.best)
  pub above : (s : ℕ) → b.from ≤ s → s < m → (get_or b.above s false ≡ true) → Covers m n g (suc k) (swapped (row_numbers placed.rows) k s) (leading_rows m n g b.best)
  pub candidate : b.made ≡ true → Candidate m n g k b.from placed breaks b.best

pub record Searched (m n : ℕ) (g : List ℕ) (k : ℕ) (placed best out : Orders 8) : Type 0 where
  pub improves : Improves m n g k best out
  pub covers : Covers m n g k (row_numbers placed.rows) (leading_rows m n g out)

pub record Alike (m n : ℕ) (g : List ℕ) (k : ℕ) (placed : List ℕ) (out : Orders 8) (back : ℕ) : Type 0 where
  pub rows : List ℕ
  pub columns : List ℕ
  pub row-permutation : IsPermutation m rows
  pub column-permutation : IsPermutation n columns
  pub begins : Begins k placed rows
  pub gives : arrangement m n rows columns g ≡ leading_rows m n g out
  pub agrees : (i : ℕ) → i < back → get_or rows i 0 ≡ get_or (row_numbers out.rows) i 0

abbrev pub back_to : ℕ → Found → ℕ
back_to m f = unwrap_or f.back m

pub record BranchOutcome (m n : ℕ) (g : List ℕ) (k : ℕ) (placed best : Orders 8) (jumps : Bool) (f : Found) : Type 0 where
  pub improves : Improves m n g k best f.best
  pub covers : k ≤ back_to m f → Covers m n g k (row_numbers placed.rows) (leading_rows m n g f.best)
  pub alike : back_to m f < k → Alike m n g k (row_numbers placed.rows) f.best (back_to m f)
  pub stays : jumps ≡ false → k ≤ back_to m f

pub record Followed (m n : ℕ) (g : List ℕ) (k t : ℕ) (placed best out : Orders 8) : Type 0 where
  pub improves : Improves m n g k best out
  pub covers : (s : ℕ) → k ≤ s → s < t → Covers m n g (suc k) (swapped (row_numbers placed.rows) k s) (leading_rows m n g out)

pub record FollowOutcome (m n : ℕ) (g : List ℕ) (k t : ℕ) (placed best : Orders 8) (jumps : Bool) (f : Found) : Type 0 where
  pub returns : back_to m f < k → BranchOutcome m n g k placed best jumps f
  pub goes_on : k ≤ back_to m f → Followed m n g k (t + 1) placed best f.best

pub record Settled (m : ℕ) (p : List ℕ) (k t : ℕ) (f : Found) (b : Bool) : Type 0 where
  pub searched-or-tried : b ≡ true → (k < back_to m f) ⊎ ((s : ℕ) × (k ≤ s) × (s < t) × (get_or p s 0 ≡ get_or (row_numbers f.best.rows) k 0))

pub record LeastOrders (m n : ℕ) (g : List ℕ) (o : Orders 8) : Type 0 where
  pub orders : IsOrders m n o
  pub gives : leading_rows m n g o ≡ least m n g

-- ---- the same, of a search s and a branch b

abbrev pub IsSearching : Search → Branch → Orders 8 → Type 0
IsSearching s b best = Searching s.m s.n s.grid.now b.k b.placed b.breaks best

abbrev pub IsCandidate : Search → Branch → ℕ → Orders 8 → Type 0
IsCandidate s b t next = Candidate s.m s.n s.grid.now b.k t b.placed b.breaks next

abbrev pub IsBound : Search → Branch → Orders 8 → Bound → Type 0
IsBound s b best low = Bounded s.m s.n s.grid.now b.k b.placed b.breaks best low

abbrev pub IsSearched : Search → Branch → Orders 8 → Orders 8 → Type 0
IsSearched s b best out = Searched s.m s.n s.grid.now b.k b.placed best out

abbrev pub IsOutcome : Search → Branch → Orders 8 → Bool → Found → Type 0
IsOutcome s b best jumps f = BranchOutcome s.m s.n s.grid.now b.k b.placed best jumps f

abbrev pub FollowedTo : Search → Branch → ℕ → Orders 8 → Orders 8 → Type 0
FollowedTo s b t best out = Followed s.m s.n s.grid.now b.k t b.placed best out

abbrev pub IsFollowed : Search → Branch → ℕ → Orders 8 → Bool → Found → Type 0
IsFollowed s b t best jumps f = FollowOutcome s.m s.n s.grid.now b.k t b.placed best jumps f

pub record IsRoot (m n : ℕ) (b : Branch) : Type 0 where
  pub none-placed : b.k ≡ 0
  pub rows : Lists (identity 8) m b.placed.rows
  pub columns : Lists (identity 16) n b.placed.columns
  pub no_breaks : b.breaks ≡ replicate 16 false
