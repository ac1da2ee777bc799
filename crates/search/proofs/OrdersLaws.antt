-- How the search begins and ends.
--
--   starting        ==  how the search stands at first
--   rows-first      ==  the rows left at first: all
--   listed-columns  ==  a list of the columns as a permutation
--   searched-least  ==  what the search found from its start, with the columns sorted, is the least arrangement
--   first-small ==  at most 15 columns come after each before any row is placed
use Rattle.std.proofs.Common.{◌≡◌, ℕ, ◌-◌, ◌*◌, ◌<◌, ◌≤◌, Bool, true, false, ltb, ◌↔◌, List, length, get_or, take, sym, ap, ◌∙◌, inl, true≢false, arith, length-take-le, get_or-take, le-ltb, lt-ltb}
use native.Mathlib.Decide.{dec_lt}
use lib.ListN.{get_or-eq_default}
use Rattle.permutations.specs.Columns.{ColumnPermutation}
use Rattle.permutations.specs.Lists.{tabulate}
use Rattle.permutations.specs.Permutations.{identity}
use Rattle.permutations.specs.Padded.{padded}
use Rattle.permutations.specs.Columns.{column_numbers, IsColumnPermutation}
use Rattle.permutations.specs.Numbered.{Lists as Numbers}
use Rattle.permutations.proofs.ListLaws.{length-tabulate, at-tabulate, tabulate-is, tabulate-ext}
use Rattle.permutations.proofs.PermutationLaws.{at-identity}
use Rattle.permutations.proofs.SwapLaws.{identity-whole}
use Rattle.grids.specs.Grids.{cell, arrangement, OneClass}
use Rattle.grids.specs.Sorted.{Ascending}
use Rattle.grids.specs.Least.{least}
use Rattle.grids.proofs.LeastLaws.{is-least}
use Rattle.branches.specs.SortedRows.{places_after, PlacesBy, first_place, FirstPlaces, Sorts, sorted_rows, IsApart}
use Rattle.branches.proofs.LeadingRows.{leading-is}
use Rattle.branches.proofs.BranchLaws.{covers-least}
use Rattle.branches.proofs.SortedRows.{sorted-any}
use Rattle.branches.proofs.RefinedLaws.{places-start, sorts-ascending}
use Rattle.search.specs.declared.node.Node.{Node}
use Rattle.search.specs.declared.found.Found.{Found}
use Rattle.search.specs.RowSets.{IsRowSet, HasRow, RowsFrom}
use Rattle.search.specs.ColumnLists.{column_at, columns_of, Lists}
use Rattle.search.specs.Tables.{Tables}
use Rattle.search.specs.Search.{keys_of, is_ready, rows_of, Standing, Outcome}

first-inside : (n c : ℕ) → c < n → first_place n c ≡ 16 - n
unfolding first_place
first-inside n c h = rw (lt-ltb c n h, first_place)

first_past : (n c : ℕ) → n ≤ c → first_place n c ≡ 15 - c
unfolding first_place
first_past n c h = rw (le-ltb c n h, first_place)

pub first-small : (n : ℕ) (a : List ℕ) → FirstPlaces n a → (c : ℕ) → get_or a c 0 ≤ 15
first-small n a h c = go (dec_lt c 16) (dec_lt c n)
  where
    go : Dec (c < 16) → Dec (c < n) → get_or a c 0 ≤ 15
    go (yes y) (yes z) = omega (arith, h.holds c y, first-inside n c z)
    go (yes y) (no z) = omega (arith, h.holds c y, first_past n c (omega arith))
    go (no y) d = omega (arith, get_or-eq_default a 0 {n = c} (omega (arith, h.size)))

places-first : (n : ℕ) (g p a : List ℕ) → FirstPlaces n a → PlacesBy 0 n g p a
places-first n g p a h = record { size = h.size; holds = λ c c16. h.holds c c16 ∙ go c (dec_lt c n) }
  where
    go : (c : ℕ) → Dec (c < n) → first_place n c ≡ places_after 0 n g p c
    go c (yes l) = first-inside n c l ∙ sym ((places-start n g p c).0 l)
    go c (no l) = first_past n c (omega arith) ∙ sym ((places-start n g p c).1 (omega arith))

pub rows-first : (m : ℕ) (p : List ℕ) (s : ℕ) → m ≤ 8 → p ≡ identity 8 → IsRowSet s → ((r : ℕ) → HasRow s r ↔ (r < m)) → RowsFrom 0 m p s
rows-first m p s m8 e is_set has = record {
  set = is_set;
  has = λ t kt tm. rw (e, at-identity 8 t (omega arith)) ((has t).1 tm);
  only = λ r h. let rm = (has r).0 h in (r, omega arith, rm, rw e (at-identity 8 r (omega arith)));
}

pub starting : {m n : ℕ} {g : List ℕ} {two : Bool} {low : ℕ} {y w x : List ℕ} (node : Node) (f : Found) → Tables m n g two low y w x → rows_of node.rows ≡ identity 8 → FirstPlaces n node.after.counts → RowsFrom 0 m (rows_of node.rows) node.rest.bytes →
    node.placed ≡ 0 → node.fresh ≡ true → length (keys_of f.keys) ≡ 8 → is_ready f.keys ≡ two → f.apart ≡ 120 → f.back ≡ m → length (rows_of f.symmetries.maps) ≡ 32 → f.symmetries.count ≡ 0 → Standing m n g two low y w x node f
unfolding IsApart
starting {m} {n} {g} node f tables rows first rest placed fresh keys ready apart back symmetries count = record {
  tables = tables;
  placed-fits = omega (arith, placed);
  rows = rw rows (identity-whole 8 m tables.rows_fit);
  places = rw placed (places-first n g (rows_of node.rows) node.after.counts first);
  rest = rw placed rest;
  keys-size = keys;
  ready = λ z. ready ∙ z;
  keys = λ z i h. absurd (omega (arith, placed));
  follows = λ e. absurd (true≢false (sym fresh ∙ e));
  pairs = inl apart;
  back = back;
  symmetries = record { few = omega (arith, count); size = symmetries; each = λ s h. absurd (omega (arith, count)) };
}

-- ---- the columns

module _ (n l : ℕ) (a : List ℕ) (n16 : n ≤ 16) (lists : Lists n a l) (c : ColumnPermutation) (h : Numbers (tabulate 0 16 (column_at l)) n c) where
  number_at : (j : ℕ) → j < 16 → get_or (column_numbers c) j 0 ≡ column_at l j
  number_at j j16 = rw h.numbers (at-tabulate 16 (column_at l) j 0 j16)

  size_is : length (column_numbers c) ≡ 16
  size_is = rw h.numbers (length-tabulate 0 16 (column_at l))

  taken-size : length (take n (column_numbers c)) ≡ n
  taken-size = length-take-le n (column_numbers c) (omega (arith, size_is))

  taken_as : take n (column_numbers c) ≡ columns_of n l
  unfolding columns_of
  taken_as = sym (tabulate-is 0 (take n (column_numbers c)) n (column_at l) taken-size (λ j jn. get_or-take n (column_numbers c) j 0 jn ∙ number_at j (omega arith)))

  pub listed-columns : IsColumnPermutation n c
  unfolding padded
  listed-columns = record {
    whole = record { permutation = rw taken_as lists.sorts.columns; rest = h.numbers ∙ tabulate-ext 0 16 (column_at l) _ (λ j j16. own j j16 (dec_lt j n)) };
    size = h.size;
  }
    where
      own : (j : ℕ) → j < 16 → Dec (j < n) → column_at l j ≡ elim (ltb j n) [ true ↦ get_or (take n (column_numbers c)) j 0 | false ↦ j ]
      own j j16 (yes jn) = rw (lt-ltb j n jn) (sym (number_at j j16) ∙ sym (get_or-take n (column_numbers c) j 0 jn))
      own j j16 (no jn) = rw (le-ltb j n (omega arith)) (lists.past j (omega arith) j16)

  pub listed-sorts : Sorts n a (take n (column_numbers c))
  listed-sorts = rw taken_as lists.sorts

pub searched-least : {m n : ℕ} {g : List ℕ} {two : Bool} {low : ℕ} {p : List ℕ} {fresh : Bool} (before f : Found) → n ≤ 16 → length g ≡ m * n → Outcome m n g two low 0 p fresh before f → (q : List ℕ) → Sorts n f.after.counts (take n q) →
    arrangement m n (rows_of f.best) q g ≡ least m n g
searched-least {m} {n} {g} before f n16 size o q sorts = sym whole ∙ sorted ∙ is-least m n g (sorted_rows m n g best) size (covers-least m n g _ (sorted_rows m n g best) class (o.covers (omega arith)))
  where
    best : List ℕ
    best = rows_of f.best

    r : List ℕ
    r = take n q

    whole : arrangement m n best r g ≡ arrangement m n best q g
    whole = leading-is n g best r best q m (λ i j im jn. ap (λ (c : ℕ). cell n g (get_or best i 0) c) (get_or-take n q j 0 jn))

    up : Ascending m n g best r
    up = sorts-ascending m n g best f.after.counts r n16 o.known.places.holds sorts

    sorted : arrangement m n best r g ≡ sorted_rows m n g best
    sorted = sorted-any m n g best r sorts.columns up

    class : OneClass m n g (sorted_rows m n g best)
    class = record {
      rows = take m best;
      columns = r;
      row-permutation = o.known.rows.permutation;
      column-permutation = sorts.columns;
      gives = leading-is n g (take m best) r best r m (λ i j im jn. ap (λ (x : ℕ). cell n g x (get_or r j 0)) (get_or-take m best i 0 im)) ∙ sorted;
    }
