-- The search over partial row orders. Between functions: no answer of a call is defined here.
-- The search keeps the row order of the best arrangement found so far. On a grid of two values it also keeps the keys of the best's rows; in a branch that leads to a new best, those of
-- the rows placed stand for it until all rows are placed: `fresh` says so. On any other grid the best's keys are made when they are first needed.
--
--   rows_of l             ==  the numbers of a list of rows
--   IsSymmetry m n g f   ==  the map f of row numbers carries a row order to another with the same arrangement
--   Symmetries m n g l count  ==  l holds `count` of them, eight numbers each
--   CoveredRows m n g k p r s  ==  of the rows of the set s, each branch with one of them placed next is covered by r
--   Spreads m n g k p a b ==  what covers the rows of the set a covers those of b
--   SpreadsWith m n g k p a row b ==  what covers the rows of the set a, and the given row, covers those of b
--   keys_of k, is_ready k ==  the eight keys that are made, or 0 each, and whether they are
--   keys_with k i v, keyed_at f i v  ==  the keys with v at position i, where they are made, and f with these keys
--   Known m n g two low f ==  what f holds of its best: how many columns come after each and, where they are ready, the keys of all rows
--   Follows m n g two low k p f ==  all is known of f's best, which begins with the same k rows of cells by another row order
--   Standing ..          ==  the search stands so: the first rows of the node's order are placed, and f holds the best
--   AtNode ..            ==  so much of it that is said of the node alone: not all rows are placed
--   Leaves m n g node s  ==  the set s has just those of the rows left that give the least next row
--   NextRows ..          ==  c holds the rows that give the least next row, its key where it is needed, and the refinement by one of them, where it was made
--   Deeper ..            ==  d is the node with the row at position t of c's order placed too
--   IsFollowed chosen covered row b  ==  b tells whether the row is chosen, and not covered yet
--   Keyed m n g low f r  ==  r is f with the keys of all of its best's rows, in a grid of any values
--   Matched m n g p f r  ==  r is f with one symmetry more, if there is room, and goes back to where the order p and the best part
--   CommonRows a b count r  ==  a and b begin with r entries in common, at most count, and no more
--   Cuts fresh known least b  ==  b tells whether the best's next row is known and lower than the least
--   Lowers fresh known least b  ==  b tells whether it is not known, or higher
--   Stands, IsNode, GivesNext, Finds  ==  `Standing`, `AtNode`, `NextRows` and `Outcome` by the tables of a grid
--   AreKnown t s          ==  s holds symmetries of the grid of t
--   SameRows t a b        ==  the row orders a and b give the same arrangement of the grid of t
--   Alike m n g k p best back  ==  a row order of the branch has the best's arrangement, begins with the best's first `back` rows, and goes on with another
--   Outcome ..           ==  the search of the branch found f
use Rattle.std.specs.Prelude.{◌≡◌, ℕ, suc, ◌+◌, ◌*◌, ◌<◌, ◌≤◌, Bool, true, false, Option, None, Some, IfSome, ◌⊎◌, List, [], ◌∷◌, map, length, ◌≢◌, slice_index, slice_index_or, slice_set}
use Rattle.permutations.specs.declared.rows.RowNumber.{RowNumber}
use Rattle.permutations.specs.Permutations.{IsPermutation, swapped}
use Rattle.permutations.specs.Padded.{IsPadded}
use Rattle.permutations.specs.Rows.{row_number}
use Rattle.grids.specs.Order.{◌≼◌}
use Rattle.grids.specs.Grids.{arrangement}
use Rattle.branches.specs.Branches.{Begins, Covers, IsNext}
use Rattle.branches.specs.SortedRows.{PlacesBy, sorted_rows, Refined, IsApart}
use Rattle.branches.specs.Keys.{key}
use Rattle.search.specs.declared.tables.GridTables.{GridTables}
use Rattle.search.specs.declared.symmetries.KnownSymmetries.{KnownSymmetries}
use Rattle.search.specs.declared.node.Node.{Node}
use Rattle.search.specs.declared.node.Candidates.{Candidates}
use Rattle.search.specs.declared.found.Found.{Found}
use Rattle.search.specs.RowSets.{IsRowSet, HasRow, RowsFrom}
use Rattle.search.specs.Tables.{entry, Tables, is_two, low_of}

abbrev pub rows_of : List RowNumber → List ℕ
rows_of l = map row_number l

pub record IsSymmetry (m n : ℕ) (g : List ℕ) (f : ℕ → ℕ) : Type 0 where
  pub rows : List ℕ
  pub columns : List ℕ
  pub other-rows : List ℕ
  pub other-columns : List ℕ
  pub row-permutation : IsPermutation m rows
  pub column-permutation : IsPermutation n columns
  pub other-row-permutation : IsPermutation m other-rows
  pub other-column-permutation : IsPermutation n other-columns
  pub gives : arrangement m n rows columns g ≡ arrangement m n other-rows other-columns g
  pub carries : (i : ℕ) → i < m → f (slice_index rows i) ≡ slice_index other-rows i

pub record Symmetries (m n : ℕ) (g l : List ℕ) (count : ℕ) : Type 0 where
  pub few : count ≤ 4
  pub size : length l ≡ 32
  pub each : (s : ℕ) → s < count → IsSymmetry m n g (λ r. slice_index l (s * 8 + r))

unfoldable pub CoveredRows : ℕ → ℕ → List ℕ → ℕ → List ℕ → List ℕ → ℕ → Type 0
CoveredRows m n g k p r s = (t : ℕ) → k ≤ t → t < m → HasRow s (slice_index p t) → Covers m n g (suc k) (swapped p k t) r

pub record Spreads (m n : ℕ) (g : List ℕ) (k : ℕ) (p : List ℕ) (a b : ℕ) : Type 0 where
  pub set : IsRowSet b
  pub covers : (r : List ℕ) → CoveredRows m n g k p r a → CoveredRows m n g k p r b

pub record SpreadsWith (m n : ℕ) (g : List ℕ) (k : ℕ) (p : List ℕ) (a row b : ℕ) : Type 0 where
  pub set : IsRowSet b
  pub covers : (r : List ℕ) → CoveredRows m n g k p r a → ((t : ℕ) → k ≤ t → t < m → slice_index p t ≡ row → Covers m n g (suc k) (swapped p k t) r) → CoveredRows m n g k p r b

abbrev pub keys_of : Option (List ℕ) → List ℕ
keys_of (Some l) = l
keys_of None = 0 ∷ 0 ∷ 0 ∷ 0 ∷ 0 ∷ 0 ∷ 0 ∷ 0 ∷ []

abbrev pub is_ready : Option (List ℕ) → Bool
is_ready (Some l) = true
is_ready None = false

abbrev pub keys_with : Option (List ℕ) → ℕ → ℕ → Option (List ℕ)
keys_with (Some l) i v = Some (slice_set l i v)
keys_with None i v = None

abbrev pub keyed_at : Found → ℕ → ℕ → Found
keyed_at f i v = record { best = f.best; after = f.after; keys = keys_with f.keys i v; symmetries = f.symmetries; back = f.back; apart = f.apart }

pub record Known (m n : ℕ) (g : List ℕ) (two : Bool) (low : ℕ) (f : Found) : Type 0 where
  pub rows : IsPadded 8 m (rows_of f.best)
  pub keys : is_ready f.keys ≡ true → (i : ℕ) → i < m → slice_index (keys_of f.keys) i ≡ key two n g low i (rows_of f.best)
  pub places : PlacesBy m n g (rows_of f.best) f.after.counts

pub record Follows (m n : ℕ) (g : List ℕ) (two : Bool) (low k : ℕ) (p : List ℕ) (f : Found) : Type 0 where
  pub known : Known m n g two low f
  pub leading : sorted_rows k n g (rows_of f.best) ≡ sorted_rows k n g p
  pub apart : Begins k p (rows_of f.best) → ⊥

pub record Standing (m n : ℕ) (g : List ℕ) (two : Bool) (low : ℕ) (y w x : List ℕ) (node : Node) (f : Found) : Type 0 where
  pub tables : Tables m n g two low y w x
  pub placed-fits : node.placed ≤ m
  pub rows : IsPadded 8 m (rows_of node.rows)
  pub places : PlacesBy node.placed n g (rows_of node.rows) node.after.counts
  pub rest : RowsFrom node.placed m (rows_of node.rows) node.rest.bytes
  pub keys-size : length (keys_of f.keys) ≡ 8
  pub ready : two ≡ true → is_ready f.keys ≡ true
  pub keys : two ≡ true → (i : ℕ) → i < node.placed → slice_index (keys_of f.keys) i ≡ key two n g low i (rows_of node.rows)
  pub follows : node.fresh ≡ false → Follows m n g two low node.placed (rows_of node.rows) f
  pub pairs : IsApart m n g f.apart
  pub back : f.back ≡ m
  pub symmetries : Symmetries m n g (rows_of f.symmetries.maps) f.symmetries.count

pub record AtNode (m n : ℕ) (g : List ℕ) (two : Bool) (low : ℕ) (y w x : List ℕ) (node : Node) : Type 0 where
  pub tables : Tables m n g two low y w x
  pub placed-fits : node.placed < m
  pub rows : IsPadded 8 m (rows_of node.rows)
  pub places : PlacesBy node.placed n g (rows_of node.rows) node.after.counts
  pub rest : RowsFrom node.placed m (rows_of node.rows) node.rest.bytes

pub record Leaves (m n : ℕ) (g : List ℕ) (node : Node) (s : ℕ) : Type 0 where
  pub set : IsRowSet s
  pub left : (r : ℕ) → HasRow s r → HasRow node.rest.bytes r
  pub only : (t : ℕ) → node.placed ≤ t → t < m → HasRow s (slice_index (rows_of node.rows) t) → IsNext m n g node.placed (rows_of node.rows) t
  pub every : (t : ℕ) → IsNext m n g node.placed (rows_of node.rows) t → HasRow s (slice_index (rows_of node.rows) t)
  pub some : s ≡ 0 → ⊥

pub record NextRows (m n : ℕ) (g : List ℕ) (two : Bool) (low : ℕ) (y : List ℕ) (node : Node) (c : Candidates) : Type 0 where
  pub set : IsRowSet c.rows.bytes
  pub left : (r : ℕ) → HasRow c.rows.bytes r → HasRow node.rest.bytes r
  pub only : (t : ℕ) → node.placed ≤ t → t < m → HasRow c.rows.bytes (slice_index (rows_of node.rows) t) → IsNext m n g node.placed (rows_of node.rows) t
  pub every : (t : ℕ) → IsNext m n g node.placed (rows_of node.rows) t → HasRow c.rows.bytes (slice_index (rows_of node.rows) t)
  pub some : (t : ℕ) × IsNext m n g node.placed (rows_of node.rows) t
  pub key-two : two ≡ true → (t : ℕ) → IsNext m n g node.placed (rows_of node.rows) t → c.key ≡ key two n g low node.placed (swapped (rows_of node.rows) node.placed t)
  pub key-known : node.fresh ≡ false → (t : ℕ) → IsNext m n g node.placed (rows_of node.rows) t → c.key ≡ key two n g low node.placed (swapped (rows_of node.rows) node.placed t)
  pub refined : IfSome c.made (λ made. Refined node.after.counts (entry y made.row.0) made.after.counts)

pub record Deeper (m : ℕ) (y : List ℕ) (node : Node) (t : ℕ) (fresh : Bool) (d : Node) : Type 0 where
  pub rows : rows_of d.rows ≡ swapped (rows_of node.rows) node.placed t
  pub placed : d.placed ≡ suc node.placed
  pub refined : Refined node.after.counts (entry y (slice_index (rows_of node.rows) t)) d.after.counts
  pub rest : RowsFrom (suc node.placed) m (swapped (rows_of node.rows) node.placed t) d.rest.bytes
  pub same-fresh : d.fresh ≡ fresh

pub record IsFollowed (chosen covered row : ℕ) (b : Bool) : Type 0 where
  pub has : b ≡ true → HasRow chosen row
  pub passed_over : b ≡ false → HasRow chosen row → HasRow covered row

pub record Keyed (m n : ℕ) (g : List ℕ) (low : ℕ) (f r : Found) : Type 0 where
  pub best : r.best ≡ f.best
  pub after : r.after.counts ≡ f.after.counts
  pub keys-size : length (keys_of r.keys) ≡ 8
  pub keys : (i : ℕ) → i < m → slice_index (keys_of r.keys) i ≡ key false n g low i (rows_of f.best)
  pub ready : is_ready r.keys ≡ true
  pub apart : r.apart ≡ f.apart
  pub back : r.back ≡ f.back
  pub symmetries : r.symmetries ≡ f.symmetries

pub record CommonRows (a b : List ℕ) (count r : ℕ) : Type 0 where
  pub up_to : r ≤ count
  pub same : (i : ℕ) → i < r → slice_index a i ≡ slice_index b i
  pub parts : r < count → slice_index a r ≢ slice_index b r

pub record Matched (m n : ℕ) (g p : List ℕ) (f r : Found) : Type 0 where
  pub best : r.best ≡ f.best
  pub after : r.after.counts ≡ f.after.counts
  pub keys : keys_of r.keys ≡ keys_of f.keys
  pub ready : is_ready r.keys ≡ is_ready f.keys
  pub apart : r.apart ≡ f.apart
  pub back : CommonRows p (rows_of f.best) m r.back
  pub symmetries : Symmetries m n g (rows_of r.symmetries.maps) r.symmetries.count

pub record Cuts (fresh : Bool) (known least : ℕ) (b : Bool) : Type 0 where
  pub yes : b ≡ true → (fresh ≡ false) × (known < least)
  pub no : b ≡ false → fresh ≡ false → least ≤ known

pub record Lowers (fresh : Bool) (known least : ℕ) (b : Bool) : Type 0 where
  pub yes : b ≡ true → fresh ≡ false → least < known
  pub no : b ≡ false → (fresh ≡ false) × (known ≤ least)

pub record Alike (m n : ℕ) (g : List ℕ) (k : ℕ) (p best : List ℕ) (back : ℕ) : Type 0 where
  pub rows : List ℕ
  pub row-permutation : IsPermutation m rows
  pub begins : Begins k p rows
  pub gives : sorted_rows m n g rows ≡ sorted_rows m n g best
  pub agrees : (i : ℕ) → i < back → slice_index rows i ≡ slice_index best i
  pub parts : slice_index_or rows back 0 ≡ slice_index best back → ⊥

pub record Outcome (m n : ℕ) (g : List ℕ) (two : Bool) (low k : ℕ) (p : List ℕ) (fresh : Bool) (before f : Found) : Type 0 where
  pub known : Known m n g two low f
  pub keys-size : length (keys_of f.keys) ≡ 8
  pub ready : two ≡ true → is_ready f.keys ≡ true
  pub leading : sorted_rows k n g (rows_of f.best) ≡ sorted_rows k n g p
  pub lower : fresh ≡ false → sorted_rows m n g (rows_of f.best) ≼ sorted_rows m n g (rows_of before.best)
  pub from : ((fresh ≡ false) × (rows_of f.best ≡ rows_of before.best)) ⊎ Begins k p (rows_of f.best)
  pub covers : k ≤ f.back → Covers m n g k p (sorted_rows m n g (rows_of f.best))
  pub alike : f.back < k → Alike m n g k p (rows_of f.best) f.back
  pub back : f.back ≤ m
  pub pairs : IsApart m n g f.apart
  pub symmetries : Symmetries m n g (rows_of f.symmetries.maps) f.symmetries.count

abbrev pub AreKnown : GridTables → KnownSymmetries → Type 0
AreKnown t s = Symmetries t.m t.n t.grid.now (rows_of s.maps) s.count

abbrev pub SameRows : GridTables → List RowNumber → List RowNumber → Type 0
SameRows t a b = sorted_rows t.m t.n t.grid.now (rows_of a) ≡ sorted_rows t.m t.n t.grid.now (rows_of b)

abbrev pub Stands : GridTables → Node → Found → Type 0
Stands t node f = Standing t.m t.n t.grid.now (is_two t.low) (low_of t.low) t.levels t.words t.bits node f

abbrev pub IsNode : GridTables → Node → Type 0
IsNode t node = AtNode t.m t.n t.grid.now (is_two t.low) (low_of t.low) t.levels t.words t.bits node

abbrev pub GivesNext : GridTables → Node → Candidates → Type 0
GivesNext t node c = NextRows t.m t.n t.grid.now (is_two t.low) (low_of t.low) t.levels node c

abbrev pub Finds : GridTables → Node → Found → Found → Type 0
Finds t node before f = Outcome t.m t.n t.grid.now (is_two t.low) (low_of t.low) node.placed (rows_of node.rows) node.fresh before f
