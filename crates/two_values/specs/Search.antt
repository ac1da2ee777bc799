-- The search over partial row orders of a grid with two values. Between functions: no answer of a call is defined here.
-- The search keeps the row order of the best arrangement found so far, and the numbers of its rows. In a branch that leads to a new best, the numbers of the rows placed stand for it
-- until all rows are placed: `fresh` says so.
--
--   PlacesBy k n g p a   ==  a holds how many columns come after each, by the first k rows of the order p
--   Next m n g k p s t   ==  what covers placing the row at position s of p next, after the first k rows, covers placing the row at t
--   Drops m n g k p a b  ==  b marks positions of p that a marks, and for each that a marks one whose branch is as good
--   Marked p keys least b t  ==  the row at position t of p has the least number, and b leaves the position
--   Left m n g k p keys least b  ==  for each position of p from k on with the least number there is one that b leaves, whose branch is as good
--   IsSymmetry m n g f   ==  the map f of row numbers carries a row order to another with the same arrangement
--   Symmetries m n g l count  ==  the first `count` maps that l holds are such
--   CoveredRows m n g k p r l  ==  of the rows that l marks, each branch with one of them placed next is covered by r
--   Spreads m n g k p a b ==  what covers the rows that a marks covers those that b marks
--   Follows m n g low k p f ==  all is known of f's best, which begins with the same k rows of cells by another row order
--   Lowest m k p keys r  ==  r is the least number of the rows of p from position k on
--   Cuts fresh known least b  ==  b tells whether the best's next row is known and lower than the least
--   Lowers fresh known least b  ==  b tells whether it is not known, or higher
--   Rekeyed m k least f r  ==  r is f with the number of row k, and goes back to m
--   Known m n g low f    ==  what f holds of its best: the numbers of all rows, and how many columns come after each
--   Standing ..          ==  the search stands so: the first k rows of p are placed, and f holds the best
--   Alike m n g k p best back  ==  a row order of the branch has the best's arrangement, begins with the best's first `back` rows, and goes on with another
--   Outcome ..           ==  the search of the branch found f
use Rattle.std.specs.Prelude.{◌≡◌, List, [], Bool, true, false, ◌⊎◌, ℕ, suc, ◌≤◌, ◌<◌, length, get_or, set}
use Rattle.permutations.specs.Rows.{RowPermutation}
use Rattle.permutations.specs.Permutations.{IsPermutation, swapped}
use Rattle.permutations.specs.Rows.{row_numbers, IsRowPermutation}
use Rattle.grids.specs.Order.{◌≼◌}
use Rattle.grids.specs.Grids.{arrangement}
use Rattle.branches.specs.Branches.{Begins, Covers}
use Rattle.two_values.specs.declared.search.Found.{Found}
use Rattle.two_values.specs.TwoValues.{places_after, key, sorted_rows}
use Rattle.two_values.specs.Tables.{Tables}

pub record PlacesBy (k n : ℕ) (g p a : List ℕ) : Type 0 where
  pub size : length a ≡ 16
  pub holds : (c : ℕ) → c < 16 → get_or a c 0 ≡ places_after k n g p c

unfoldable pub Next : ℕ → ℕ → List ℕ → ℕ → List ℕ → ℕ → ℕ → Type 0
Next m n g k p s t = (r : List ℕ) → Covers m n g (suc k) (swapped p k s) r → Covers m n g (suc k) (swapped p k t) r

pub record Drops (m n : ℕ) (g : List ℕ) (k : ℕ) (p : List ℕ) (a b : List Bool) : Type 0 where
  pub size : length b ≡ 8
  pub fewer : (t : ℕ) → get_or b t false ≡ true → get_or a t false ≡ true
  pub as-good : (t : ℕ) → k ≤ t → t < m → get_or a t false ≡ true → (s : ℕ) × (k ≤ s) × (s < m) × (get_or b s false ≡ true) × Next m n g k p s t

pub record Marked (p keys : List ℕ) (least : ℕ) (b : List Bool) (t : ℕ) : Type 0 where
  pub has-least : get_or keys (get_or p t 0) 0 ≡ least
  pub stays : get_or b t false ≡ true

pub record Left (m n : ℕ) (g : List ℕ) (k : ℕ) (p keys : List ℕ) (least : ℕ) (b : List Bool) : Type 0 where
  pub size : length b ≡ 8
  pub as-good : (t : ℕ) → k ≤ t → t < m → get_or keys (get_or p t 0) 0 ≡ least → (s : ℕ) × (k ≤ s) × (s < m) × Marked p keys least b s × Next m n g k p s t

pub record IsSymmetry (m n : ℕ) (g : List ℕ) (f : ℕ → ℕ) : Type 0 where
  pub rows : List ℕ
  pub columns : List ℕ
  pub other-rows : List ℕ
  pub other-columns : List ℕ
  pub row-permutation : IsPermutation m rows
  pub column-permutation : IsPermutation n columns
  pub other-row-permutation : IsPermutation m other-rows
  pub other-column-permutation : IsPermutation n other-columns
  pub gives : arrangement m n rows columns g ≡ arrangement m n other-rows other-columns g
  pub carries : (i : ℕ) → i < m → f (get_or rows i 0) ≡ get_or other-rows i 0

pub record Symmetries (m n : ℕ) (g : List ℕ) (l : List (List ℕ)) (count : ℕ) : Type 0 where
  pub few : count ≤ 4
  pub size : length l ≡ 4
  pub each : (s : ℕ) → s < count → IsSymmetry m n g (λ r. get_or (get_or l s []) r 0)

unfoldable pub CoveredRows : ℕ → ℕ → List ℕ → ℕ → List ℕ → List ℕ → List Bool → Type 0
CoveredRows m n g k p r l = (t : ℕ) → k ≤ t → t < m → get_or l (get_or p t 0) false ≡ true → Covers m n g (suc k) (swapped p k t) r

pub record Spreads (m n : ℕ) (g : List ℕ) (k : ℕ) (p : List ℕ) (a b : List Bool) : Type 0 where
  pub size : length b ≡ 8
  pub covers : (r : List ℕ) → CoveredRows m n g k p r a → CoveredRows m n g k p r b

pub record Known (m n : ℕ) (g : List ℕ) (low : ℕ) (f : Found) : Type 0 where
  pub rows : IsRowPermutation m f.best
  pub keys : (i : ℕ) → i < m → get_or f.keys i 0 ≡ key n g low i (row_numbers f.best)
  pub places : PlacesBy m n g (row_numbers f.best) f.after

pub record Follows (m n : ℕ) (g : List ℕ) (low k : ℕ) (p : List ℕ) (f : Found) : Type 0 where
  pub known : Known m n g low f
  pub leading : sorted_rows k n g (row_numbers f.best) ≡ sorted_rows k n g p
  pub apart : Begins k p (row_numbers f.best) → ⊥

pub record Lowest (m k : ℕ) (p keys : List ℕ) (r : ℕ) : Type 0 where
  pub no_more : (t : ℕ) → k ≤ t → t < m → r ≤ get_or keys (get_or p t 0) 0
  pub reached : (t : ℕ) × (k ≤ t) × (t < m) × (get_or keys (get_or p t 0) 0 ≡ r)

pub record Cuts (fresh : Bool) (known least : ℕ) (b : Bool) : Type 0 where
  pub yes : b ≡ true → (fresh ≡ false) × (known < least)
  pub no : b ≡ false → fresh ≡ false → least ≤ known

pub record Lowers (fresh : Bool) (known least : ℕ) (b : Bool) : Type 0 where
  pub yes : b ≡ true → fresh ≡ false → least < known
  pub no : b ≡ false → (fresh ≡ false) × (known ≤ least)

pub record Rekeyed (m k least : ℕ) (f r : Found) : Type 0 where
  pub best : r.best ≡ f.best
  pub after : r.after ≡ f.after
  pub keys : r.keys ≡ set f.keys k least
  pub back : r.back ≡ m
  pub kept : r.kept ≡ f.kept

pub record Standing (m n : ℕ) (g : List ℕ) (low : ℕ) (x y : List ℕ) (k : ℕ) (p : RowPermutation) (a : List ℕ) (fresh : Bool) (f : Found) : Type 0 where
  pub tables : Tables m n g low x y
  pub placed-fits : k ≤ m
  pub rows : IsRowPermutation m p
  pub places : PlacesBy k n g (row_numbers p) a
  pub keys-size : length f.keys ≡ 8
  pub keys : (i : ℕ) → i < k → get_or f.keys i 0 ≡ key n g low i (row_numbers p)
  pub follows : fresh ≡ false → Follows m n g low k (row_numbers p) f
  pub symmetries : Symmetries m n g f.kept.maps f.kept.count

pub record Alike (m n : ℕ) (g : List ℕ) (k : ℕ) (p best : List ℕ) (back : ℕ) : Type 0 where
  pub rows : List ℕ
  pub row-permutation : IsPermutation m rows
  pub begins : Begins k p rows
  pub gives : sorted_rows m n g rows ≡ sorted_rows m n g best
  pub agrees : (i : ℕ) → i < back → get_or rows i 0 ≡ get_or best i 0
  pub parts : get_or rows back 0 ≡ get_or best back 0 → ⊥

pub record Outcome (m n : ℕ) (g : List ℕ) (low k : ℕ) (p : List ℕ) (fresh : Bool) (before f : Found) : Type 0 where
  pub known : Known m n g low f
  pub keys-size : length f.keys ≡ 8
  pub leading : sorted_rows k n g (row_numbers f.best) ≡ sorted_rows k n g p
  pub lower : fresh ≡ false → sorted_rows m n g (row_numbers f.best) ≼ sorted_rows m n g (row_numbers before.best)
  pub from : ((fresh ≡ false) × (row_numbers f.best ≡ row_numbers before.best)) ⊎ Begins k p (row_numbers f.best)
  pub covers : k ≤ f.back → Covers m n g k p (sorted_rows m n g (row_numbers f.best))
  pub alike : f.back < k → Alike m n g k p (row_numbers f.best) f.back
  pub symmetries : Symmetries m n g f.kept.maps f.kept.count
