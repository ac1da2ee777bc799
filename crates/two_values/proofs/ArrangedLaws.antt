-- The whole search of a grid with two values.
--
--   first-inside, first_past  ==  how many columns come after one at first
--   places-first    ==  the columns before any row is placed
--   starting        ==  how the search stands at first
--   searched-least  ==  the branch with no row placed, searched, gives the least arrangement
use mathlib.Core.Path.{◌≡◌, sym, ap, ◌∙◌}
use mathlib.Core.List.{List}
use mathlib.Core.Bool.{Bool, true, true≢false}
use Prim.Native.Nat.{ℕ, ◌-◌, ◌*◌, ◌≤◌, ◌<◌}
use native.Mathlib.Nat.{not-suc-le-zero}
use native.Mathlib.Decide.{dec_lt}
use native.Mathlib.Omega.{arith}
use borrow.Author.Tests.{lt-ltb, le-ltb}
use lib.ListN.{length, get_or, take}
use lib.Seq.{get_or-take}
use Rattle.permutations.specs.Rows.{RowPermutation}
use Rattle.permutations.specs.Columns.{ColumnPermutation}
use Rattle.permutations.specs.Permutations.{identity}
use Rattle.permutations.specs.Rows.{row_numbers}
use Rattle.permutations.specs.Numbered.{Lists}
use Rattle.permutations.specs.Columns.{column_numbers}
use Rattle.permutations.proofs.SwapLaws.{identity-whole}
use Rattle.grids.specs.Grids.{cell, arrangement, OneClass}
use Rattle.grids.specs.Sorted.{Ascending}
use Rattle.grids.specs.Least.{least}
use Rattle.grids.proofs.LeastLaws.{is-least}
use Rattle.branches.proofs.LeadingRows.{leading-is}
use Rattle.branches.proofs.BranchLaws.{covers-least}
use Rattle.two_values.specs.declared.search.Found.{Found}
use Rattle.two_values.specs.TwoValues.{places_after, sorted_rows}
use Rattle.two_values.specs.Tables.{Tables, SortsBy}
use Rattle.two_values.specs.Search.{PlacesBy, Standing, Outcome}
use Rattle.branches.specs.SortedRows.{first_place, FirstPlaces}
use Rattle.two_values.proofs.SortedRows.{sorted-any}
use Rattle.two_values.proofs.RefinedLaws.{places-start, sorts-ascending}

pub first-inside : (n c : ℕ) → c < n → first_place n c ≡ 16 - n
unfolding first_place
first-inside n c h = rw (lt-ltb c n h, first_place)

pub first_past : (n c : ℕ) → n ≤ c → first_place n c ≡ 15 - c
unfolding first_place
first_past n c h = rw (le-ltb c n h, first_place)

pub places-first : (n : ℕ) (g p a : List ℕ) → FirstPlaces n a → PlacesBy 0 n g p a
places-first n g p a h = record { size = h.size; holds = λ c c16. h.holds c c16 ∙ go c (dec_lt c n) }
  where
    go : (c : ℕ) → Dec (c < n) → first_place n c ≡ places_after 0 n g p c
    go c (yes l) = first-inside n c l ∙ sym ((places-start n g p c).0 l)
    go c (no l) = first_past n c (omega arith) ∙ sym ((places-start n g p c).1 (omega arith))

pub starting : (m n : ℕ) (g : List ℕ) (low : ℕ) (x y : List ℕ) (P : RowPermutation) (a : List ℕ) (f : Found) → Tables m n g low x y →
    Lists (identity 8) m P → FirstPlaces n a → length f.keys ≡ 8 → length f.kept.maps ≡ 4 → f.kept.count ≡ 0 → Standing m n g low x y 0 P a true f
starting m n g low x y P a f tables lists first keys symmetries kept = record {
  tables = tables;
  placed-fits = omega arith;
  rows = record { whole = rw lists.numbers (identity-whole 8 m tables.rows_fit); size = lists.size };
  places = places-first n g (row_numbers P) a first;
  keys-size = keys;
  keys = λ i h. absurd (not-suc-le-zero h);
  follows = λ e. absurd (true≢false e);
  symmetries = record { few = omega arith; size = symmetries; each = λ s h. absurd (omega arith) };
}

pub searched-least : (m n : ℕ) (g : List ℕ) (low : ℕ) (p : List ℕ) (fresh : Bool) (before f : Found) (q : ColumnPermutation) → n ≤ 16 → length g ≡ m * n → Outcome m n g low 0 p fresh before f → SortsBy n f.after q →
    arrangement m n (row_numbers f.best) (column_numbers q) g ≡ least m n g
unfolding Ascending
searched-least m n g low p fresh before f q n16 size o sorts = sym whole ∙ sorted ∙ is-least m n g (sorted_rows m n g best) size (covers-least m n g p (sorted_rows m n g best) class (o.covers (omega arith)))
  where
    best : List ℕ
    best = row_numbers f.best

    whole : arrangement m n best (take n (column_numbers q)) g ≡ arrangement m n best (column_numbers q) g
    whole = leading-is n g best (take n (column_numbers q)) best (column_numbers q) m (λ i j im jn. ap (λ (c : ℕ). cell n g (get_or best i 0) c) (get_or-take n (column_numbers q) j 0 jn))

    up : Ascending m n g best (column_numbers q)
    up = sorts-ascending m n g best f.after q n16 o.known.places.holds sorts

    up' : Ascending m n g best (take n (column_numbers q))
    up' a b ab bn = rw (get_or-take n (column_numbers q) a 0 (omega arith), get_or-take n (column_numbers q) b 0 bn) (up a b ab bn)

    sorted : arrangement m n best (take n (column_numbers q)) g ≡ sorted_rows m n g best
    sorted = sorted-any m n g best (take n (column_numbers q)) sorts.columns.whole.permutation up'

    class : OneClass m n g (sorted_rows m n g best)
    class = record {
      rows = take m best;
      columns = take n (column_numbers q);
      row-permutation = o.known.rows.whole.permutation;
      column-permutation = sorts.columns.whole.permutation;
      gives = leading-is n g (take m best) (take n (column_numbers q)) best (take n (column_numbers q)) m (λ i j im jn. ap (λ (r : ℕ). cell n g r (get_or (take n (column_numbers q)) j 0)) (get_or-take m best i 0 im)) ∙ sorted;
    }
