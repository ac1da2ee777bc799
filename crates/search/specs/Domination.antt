-- When a row covers another, by the tables. Between functions: no answer of a call is defined here.
-- Rows a and b differ in columns that are paired so that a has in one what b has in the other, and the other way round. No row placed tells the two columns apart, and no other row left
-- has a higher level in the column in which b has the higher one. Then what covers placing a next covers placing b.
--
--   differs y a b c         ==  rows a and b differ in column c
--   differences y a b       ==  in how many of 16 columns they differ
--   Crossed y v a b c d     ==  columns c and d have equal numbers in v; rows a and b differ in c, and a has in c what b has in d, and the other way round
--   Oriented y b c d p q    ==  p and q are c and d, and row b has no higher level in p than in q
--   NoneHigher w X c d      ==  no row of X has a higher level in column d than in c
--   Tried w X c d e f r     ==  r says `Second` only where none has a higher level in d than in c, nor in f than in e, and `First` only where the other way round
--   Ascend c d e f          ==  the four columns ascend
--   Apart c d e f           ==  neither c nor d is e or f
--   Exchanged y v a b c d   ==  columns c and d have equal numbers in v; a has in c what b has in d, and the other way round, and b has the lower level in c
--   OverAmong y w v X a b   ==  row a equals row b, or they differ in one or two such pairs of columns alone, and no row of X has a higher level in the second of a pair than in the first
--   Others s a b x          ==  row x is of the set s, and neither a nor b
--   Over y w v s a b        ==  so for all other rows of s
--   Sides y w v X a b r     ==  r says `First` only where b is over a, and `Second` only where a is over b
--   Covering y w v s t u x  ==  row u is row x, or over a row of t that covers x so
--   Thinned y w v s t r     ==  the set r has rows of t, and for each row of t one that covers it
--   Left m n g y w k p v s  ==  the tables y and w are those of the grid g, v are the places by the first k rows of the order p, and s has the rows left
use Rattle.std.specs.Prelude.{◌≡◌, ℕ, ◌*◌, ◌<◌, ◌≤◌, Bool, not, Option, Some, ◌⊎◌, List, length, ◌==◌, ◌≢◌, slice_index, slice_index_or}
use Rattle.permutations.specs.Padded.{IsPadded}
use Rattle.permutations.specs.Sums.{count}
use Rattle.branches.specs.Keys.{Small}
use Rattle.branches.specs.SortedRows.{PlacesBy}
use Rattle.search.specs.declared.pairs.Covered.{Covered}
use Rattle.search.specs.declared.pairs.Covered.TheVariants.{First, Second}
use Rattle.search.specs.RowSets.{lane, IsRowSet, HasRow, RowsFrom}
use Rattle.search.specs.Tables.{entry, ByRows, ByColumns}

unfoldable pub differs : List ℕ → ℕ → ℕ → ℕ → Bool
differs y a b c = not (entry y a c == entry y b c)

unfoldable pub differences : List ℕ → ℕ → ℕ → ℕ
differences y a b = count 16 (differs y a b)

pub record Crossed (y v : List ℕ) (a b c d : ℕ) : Type 0 where
  pub untold : slice_index_or v c 0 ≡ slice_index v d
  pub differ : entry y a c ≡ entry y b c → ⊥
  pub there : entry y a c ≡ entry y b d
  pub back : entry y b c ≡ entry y a d

pub record Oriented (y : List ℕ) (b c d p q : ℕ) : Type 0 where
  pub either : ((p ≡ c) × (q ≡ d)) ⊎ ((p ≡ d) × (q ≡ c))
  pub ordered : entry y b p ≤ entry y b q

unfoldable pub NoneHigher : List ℕ → (ℕ → Type 0) → ℕ → ℕ → Type 0
NoneHigher w X c d = (x : ℕ) → X x → lane x (slice_index w d) ≤ lane x (slice_index w c)

pub record Tried (w : List ℕ) (X : ℕ → Type 0) (c d e f : ℕ) (r : Option Covered) : Type 0 where
  pub first : r ≡ Some First → NoneHigher w X d c × NoneHigher w X f e
  pub second : r ≡ Some Second → NoneHigher w X c d × NoneHigher w X e f

pub record Ascend (c d e f : ℕ) : Type 0 where
  pub first : c < d
  pub second : d < e
  pub third : e < f

pub record Apart (c d e f : ℕ) : Type 0 where
  pub first-first : c ≡ e → ⊥
  pub first-second : c ≡ f → ⊥
  pub second-first : d ≡ e → ⊥
  pub second-second : d ≡ f → ⊥

pub record Exchanged (y v : List ℕ) (a b c d : ℕ) : Type 0 where
  pub first-within : c < 16
  pub second-within : d < 16
  pub untold : slice_index_or v c 0 ≡ slice_index v d
  pub there : entry y a c ≡ entry y b d
  pub back : entry y a d ≡ entry y b c
  pub lower : entry y b c < entry y b d

pub data OverAmong (y w v : List ℕ) (X : ℕ → Type 0) (a b : ℕ) : Type 0 where
  equal : ((j : ℕ) → j < 16 → entry y a j ≡ entry y b j) → OverAmong y w v X a b
  by_one : (c d : ℕ) → Exchanged y v a b c d → NoneHigher w X c d → ((j : ℕ) → j < 16 → (j ≢ c) → (j ≢ d) → entry y a j ≡ entry y b j) → OverAmong y w v X a b
  by_two : (c d e f : ℕ) → Exchanged y v a b c d → Exchanged y v a b e f → Apart c d e f → NoneHigher w X c d → NoneHigher w X e f →
      ((j : ℕ) → j < 16 → (j ≢ c) → (j ≢ d) → (j ≢ e) → (j ≢ f) → entry y a j ≡ entry y b j) → OverAmong y w v X a b

unfoldable pub Others : ℕ → ℕ → ℕ → ℕ → Type 0
Others s a b x = HasRow s x × (x ≢ a) × (x ≢ b)

abbrev pub Over : List ℕ → List ℕ → List ℕ → ℕ → ℕ → ℕ → Type 0
Over y w v s a b = OverAmong y w v (Others s a b) a b

pub record Sides (y w v : List ℕ) (X : ℕ → Type 0) (a b : ℕ) (r : Option Covered) : Type 0 where
  pub first : r ≡ Some First → OverAmong y w v X b a
  pub second : r ≡ Some Second → OverAmong y w v X a b

pub data Covering (y w v : List ℕ) (s t : ℕ) : ℕ → ℕ → Type 0 where
  itself : (x : ℕ) → Covering y w v s t x x
  over : (u z x : ℕ) → HasRow t u → HasRow t z → Over y w v s u z → Covering y w v s t z x → Covering y w v s t u x

pub record Thinned (y w v : List ℕ) (s t r : ℕ) : Type 0 where
  pub set : IsRowSet r
  pub fewer : (x : ℕ) → HasRow r x → HasRow t x
  pub covered : (x : ℕ) → HasRow t x → (u : ℕ) × HasRow r u × Covering y w v s t u x

pub record Left (m n : ℕ) (g y w : List ℕ) (k : ℕ) (p v : List ℕ) (s : ℕ) : Type 0 where
  pub rows_fit : m ≤ 8
  pub columns-fit : n ≤ 16
  pub size : length g ≡ m * n
  pub small : Small g
  pub by_rows : ByRows m n g y
  pub by-columns : ByColumns y w
  pub placed-fits : k < m
  pub order : IsPadded 8 m p
  pub places : PlacesBy k n g p v
  pub left : RowsFrom k m p s
