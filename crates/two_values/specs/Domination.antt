-- When a row dominates another, by the tables and their words. Between functions: no answer of a call is defined here.
-- Let row r have the higher value in column c and the lower in d, and row q the other way round. No row placed tells c from d, and no row but q has the lower value in c and the
-- higher in d. If the two rows agree elsewhere, r dominates q. They may also differ in two such pairs of columns.
--
--   entry y r c          ==  the number of row r, column c in the table y
--   Alone v a q c d      ==  columns c and d have equally many columns after them, and row q alone has the lower value in c and the higher in d
--   Crossed y r q c d    ==  row r has the higher value in c and the lower in d, and row q the other way round
--   ByOne y u v a r q c d  ==  row r dominates row q: they differ in columns c and d alone
--   TwoPairs y u r q c d e f  ==  rows r and q differ so in columns c and d, and e and f, and in no others
--   ByTwo y u v a r q c d e f  ==  row r dominates row q: they differ in columns c and d, and e and f
--   Over y u v a n r q   ==  row r equals row q, or dominates it so
--   Sides y u v a n r q i  ==  where i is the first, row r is over row q; where it is the second, q is over r
--   Prepared ..          ==  what is known where rows are held against each other: the first k rows of p are placed
--   Loses y u v a n p b s t i  ==  where i is a position, it is t or s, b marks both, and the row at the other one is over its row
--   MarksLeast k m p keys least b  ==  b marks those of the positions k to m whose row has the least key
use Rattle.std.specs.Prelude.{◌≡◌, List, Bool, true, false, Option, Some, ◌⊎◌, ℕ, ◌+◌, ◌-◌, ◌*◌, ◌^◌, ◌≤◌, ◌<◌, length, get_or}
use Rattle.std.specs.Int.Bits.{bit_and}
use Rattle.permutations.specs.Rows.{RowPermutation}
use Rattle.permutations.specs.Rows.{row_numbers, IsRowPermutation}
use Rattle.two_values.specs.declared.pairs.Side.{Side}
use Rattle.two_values.specs.declared.pairs.Side.TheVariants.{First, Second}
use Rattle.two_values.specs.Search.{PlacesBy}
use Rattle.two_values.specs.Tables.{Tables}
use Rattle.two_values.specs.Words.{RowWords, LowWords}

abbrev pub entry : List ℕ → ℕ → ℕ → ℕ
entry y r c = get_or y (r * 16 + c) 0

pub record Alone (v a : List ℕ) (q c d : ℕ) : Type 0 where
  pub untold : get_or a c 0 ≡ get_or a d 0
  pub alone : bit_and (get_or v c 0) (get_or v d 0) + 2 ^ (7 - q) ≡ get_or v c 0

pub record Crossed (y : List ℕ) (r q c d : ℕ) : Type 0 where
  pub higher : entry y r c ≡ 0
  pub lower : entry y r d ≡ 1
  pub other-lower : entry y q c ≡ 1
  pub other-higher : entry y q d ≡ 0

pub record ByOne (y u v a : List ℕ) (r q c d : ℕ) : Type 0 where
  pub alone : Alone v a q c d
  pub crossed : Crossed y r q c d
  pub words : get_or u r 0 + 2 ^ (15 - d) ≡ get_or u q 0 + 2 ^ (15 - c)

pub record TwoPairs (y u : List ℕ) (r q c d e f : ℕ) : Type 0 where
  pub first-crossed : Crossed y r q c d
  pub second-crossed : Crossed y r q e f
  pub first-apart : c ≡ e → ⊥
  pub second-apart : d ≡ f → ⊥
  pub words : get_or u r 0 + 2 ^ (15 - d) + 2 ^ (15 - f) ≡ get_or u q 0 + 2 ^ (15 - c) + 2 ^ (15 - e)

pub record ByTwo (y u v a : List ℕ) (r q c d e f : ℕ) : Type 0 where
  pub first_alone : Alone v a q c d
  pub second-alone : Alone v a q e f
  pub pairs : TwoPairs y u r q c d e f

pub data Over (y u v a : List ℕ) (n r q : ℕ) : Type 0 where
  equal : get_or u r 0 ≡ get_or u q 0 → Over y u v a n r q
  by_one : (c d : ℕ) → c < n → d < n → ByOne y u v a r q c d → Over y u v a n r q
  by_two : (c d e f : ℕ) → c < n → d < n → e < n → f < n → ByTwo y u v a r q c d e f → Over y u v a n r q

pub record Sides (y u v a : List ℕ) (n r q : ℕ) (i : Option Side) : Type 0 where
  pub first : i ≡ Some First → Over y u v a n r q
  pub second : i ≡ Some Second → Over y u v a n q r

pub record Prepared (m n : ℕ) (g : List ℕ) (low : ℕ) (x y : List ℕ) (k : ℕ) (p : RowPermutation) (a u v : List ℕ) : Type 0 where
  pub tables : Tables m n g low x y
  pub rows : IsRowPermutation m p
  pub placed-fits : k < m
  pub places : PlacesBy k n g (row_numbers p) a
  pub row_words : RowWords x u
  pub low-words : LowWords y v

pub record Loses (y u v a : List ℕ) (n : ℕ) (p : List ℕ) (b : List Bool) (s t : ℕ) (i : Option ℕ) : Type 0 where
  pub marked : (j : ℕ) → i ≡ Some j → (get_or b s false ≡ true) × (get_or b t false ≡ true)
  pub over : (j : ℕ) → i ≡ Some j → ((j ≡ t) × Over y u v a n (get_or p s 0) (get_or p t 0)) ⊎ ((j ≡ s) × Over y u v a n (get_or p t 0) (get_or p s 0))

pub record MarksLeast (k m : ℕ) (p keys : List ℕ) (least : ℕ) (b : List Bool) : Type 0 where
  pub size : length b ≡ 8
  pub only-least : (t : ℕ) → get_or b t false ≡ true → get_or keys (get_or p t 0) 0 ≡ least
  pub every-least : (t : ℕ) → k ≤ t → t < m → get_or keys (get_or p t 0) 0 ≡ least → get_or b t false ≡ true
