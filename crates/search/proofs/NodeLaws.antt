-- What is known at a node: which rows give the least next row, and how the search stands once one of them is placed.
--
--   standing-node   ==  what holds of the node where the search stands
--   keys-next       ==  in a grid of two values the rows with the least key give the least next row
--   after_is, columns-after, columns-first, powers-within  ==  how many columns come after each: what holds of these numbers, with no row placed too, and of the sum of their powers of 2
--   row_small, rows-within  ==  the rows of the order are below 8
--   rest_some       ==  some row is left
--   leaves-lone, leaves-sifted  ==  where one row is left it gives the least next row, and in any grid those that sifting leaves do
--   list-ends       ==  the blocks of a list of the columns
--   fresh-next, known_next  ==  so are they handed on: without a key, and with it, from the columns sorted with one of these rows placed
--   first-after     ==  how many columns come after each with that row placed
--   rest-without    ==  the rows left once one is placed
use Rattle.std.proofs.Common.{◌≡◌, ℕ, suc, ◌+◌, ◌-◌, ◌*◌, ◌^◌, ◌<◌, ◌≤◌, Bool, true, false, None, Some, ◌↔◌, List, length, get_or, sym, ap, ◌∙◌, true≢false, arith, get_or-take}
use native.Mathlib.Decide.{ℕ_discrete, dec_lt}
use Rattle.permutations.specs.Permutations.{swapped}
use Rattle.permutations.specs.Sums.{sum_to}
use Rattle.permutations.proofs.ListLaws.{at-tabulate}
use Rattle.permutations.proofs.SwapLaws.{at-whole, rest-whole, at-swapped, swapped_other, length_whole}
use Rattle.permutations.proofs.Transpositions.{exchange-second}
use Rattle.grids.specs.Order.{◌≼◌, ◌≺◌}
use Rattle.grids.specs.Grids.{cell}
use Rattle.grids.proofs.OrderLaws.{≼_refl, ≺-≼, ≼-antisymm}
use Rattle.branches.specs.Branches.{IsNext}
use Rattle.branches.specs.SortedRows.{places_after, PlacesBy, After, Places, sorted_rows, Refined}
use Rattle.branches.specs.Keys.{level, Small, number, bit, key}
use Rattle.branches.specs.Sifting.{BlockEnds, Sifts}
use Rattle.branches.proofs.BranchLaws.{placed-stay, placed-next}
use Rattle.branches.proofs.BitLaws.{cell-inside}
use Rattle.branches.proofs.RefinedLaws.{places-agree, places-start, places-are, places-after, refined-places}
use Rattle.branches.proofs.PlaceSums.{powers-fit}
use Rattle.branches.proofs.BlockLaws.{block-ends}
use Rattle.branches.proofs.SiftingLaws.{sifts-ends}
use Rattle.branches.proofs.KeyLaws.{bits_key}
use Rattle.branches.proofs.NextLaws.{digits_are, sifted-within, sifted-next}
use Rattle.branches.proofs.KeyedRows.{key-lower, key-same, same_key, rows-swapped}
use Rattle.search.specs.declared.node.Node.{Node}
use Rattle.search.specs.declared.node.Candidates.{Candidates}
use Rattle.search.specs.declared.node.Refinement.{Refinement}
use Rattle.search.specs.declared.found.Found.{Found}
use Rattle.search.specs.RowSets.{IsRowSet, HasRow, RowsFrom}
use Rattle.search.specs.ColumnLists.{column_at, columns_of, Lists, end_of, levels_of}
use Rattle.search.specs.Tables.{entry, RowKeys}
use Rattle.search.specs.Keys.{RowsWithin, Lowest, WithKey}
use Rattle.search.specs.Search.{rows_of, Standing, AtNode, Leaves, NextRows}
use Rattle.search.proofs.RowSetLaws.{row-found, none-of-zero}

pub standing-node : {m n : ℕ} {g : List ℕ} {two : Bool} {low : ℕ} {y w x : List ℕ} {node : Node} {f : Found} → Standing m n g two low y w x node f → node.placed < m → AtNode m n g two low y w x node
standing-node s km = record { tables = s.tables; placed-fits = km; rows = s.rows; places = s.places; rest = s.rest }

module _ {m n : ℕ} {g : List ℕ} {two : Bool} {low : ℕ} {y w x : List ℕ} {node : Node} (s : AtNode m n g two low y w x node) where
  abbrev k : ℕ
  k = node.placed

  abbrev p : List ℕ
  p = rows_of node.rows

  km : k < m
  km = s.placed-fits

  m8 : m ≤ 8
  m8 = s.tables.rows_fit

  row_within : (t : ℕ) → t < m → get_or p t 0 < m
  row_within t tm = at-whole 8 m p s.rows t tm

  next_row : (t : ℕ) → t < m → get_or (swapped p k t) k 0 ≡ get_or p t 0
  next_row t tm = placed-next m n g k p m8 km s.rows t tm

  stay : (t : ℕ) → k ≤ t → (i : ℕ) → i < k → get_or (swapped p k t) i 0 ≡ get_or p i 0
  stay t kt i ik = placed-stay m n g k p m8 km s.rows t kt i ik

  next-within : (t : ℕ) → t < m → get_or (swapped p k t) k 0 < m
  next-within t tm = rw (next_row t tm) (row_within t tm)

  places-with : (t : ℕ) → k ≤ t → (c : ℕ) → c < 16 → get_or node.after.counts c 0 ≡ places_after k n g (swapped p k t) c
  places-with t kt c c16 = s.places.holds c c16 ∙ places-agree k n g p (swapped p k t) (λ i ik. sym (stay t kt i ik)) c

  same-lead : (t u : ℕ) → k ≤ t → k ≤ u → sorted_rows k n g (swapped p k t) ≡ sorted_rows k n g (swapped p k u)
  same-lead t u kt ku = rows-swapped m n g k p t m8 km s.rows kt ∙ sym (rows-swapped m n g k p u m8 km s.rows ku)

  abbrev rows-with : ℕ → List ℕ
  rows-with t = sorted_rows (suc k) n g (swapped p k t)

  abbrev key-with : ℕ → ℕ
  key-with t = key two n g low k (swapped p k t)

  lower-key : (t u : ℕ) → k ≤ t → t < m → k ≤ u → u < m → key-with t < key-with u → rows-with t ≺ rows-with u
  lower-key t u kt tm ku um = key-lower two m n g low k (swapped p k t) (swapped p k u) s.tables.columns-fit s.tables.size s.tables.valued (next-within t tm) (next-within u um) (same-lead t u kt ku)

  equal-key : (t u : ℕ) → k ≤ t → t < m → k ≤ u → u < m → key-with t ≡ key-with u → rows-with t ≡ rows-with u
  equal-key t u kt tm ku um = key-same two m n g low k (swapped p k t) (swapped p k u) s.tables.columns-fit s.tables.size s.tables.valued (next-within t tm) (next-within u um) (same-lead t u kt ku)

  -- rows that give the least next row have one key
  next_keys : (t u : ℕ) → IsNext m n g k p t → IsNext m n g k p u → key-with t ≡ key-with u
  next_keys t u a b =
      same_key two m n g low k (swapped p k t) (swapped p k u) s.tables.columns-fit s.tables.size s.tables.valued (next-within t a.within) (next-within u b.within)
      (≼-antisymm (rows-with t) (rows-with u) (a.least u b.left b.within) (b.least t a.left a.within))

  -- ---- two values

  module _ (z : two ≡ true) (keys : List ℕ) (rk : RowKeys x node.after.counts keys) (least : ℕ) (lowest : Lowest m k p keys least) (set : ℕ) (has : WithKey m k p keys least set) where
    key-is : (t : ℕ) → k ≤ t → t < m → get_or keys (get_or p t 0) 0 ≡ key-with t
    unfolding RowKeys key
    key-is t kt tm = rw z (rk (get_or p t 0) (omega (arith, row_within t tm, m8)) ∙ bits_key n g low k (swapped p k t) node.after.counts (λ c. get_or x (c * 8 + get_or p t 0) 0) s.tables.columns-fit inside past (places-with t kt))
      where
        inside : (c : ℕ) → c < n → get_or x (c * 8 + get_or p t 0) 0 ≡ bit low (cell n g (get_or (swapped p k t) k 0) c)
        inside c cn = rw (next_row t tm) ((s.tables.by_bits z).holds (get_or p t 0) c (row_within t tm) cn)

        past : (c : ℕ) → n ≤ c → c < 16 → get_or x (c * 8 + get_or p t 0) 0 ≡ 0
        past c nc c16 = (s.tables.by_bits z).past (get_or p t 0) c (omega (arith, row_within t tm, m8)) nc c16

    no-later : (t u : ℕ) → k ≤ t → t < m → k ≤ u → u < m → get_or keys (get_or p t 0) 0 ≤ get_or keys (get_or p u 0) 0 → rows-with t ≼ rows-with u
    no-later t u kt tm ku um l = go (dec_lt (key-with t) (key-with u))
      where
        go : Dec (key-with t < key-with u) → rows-with t ≼ rows-with u
        go (yes h) = ≺-≼ (rows-with t) (rows-with u) (lower-key t u kt tm ku um h)
        go (no h) = rw (equal-key t u kt tm ku um (omega (arith, key-is t kt tm, key-is u ku um))) (≼_refl (rows-with u))

    next_of : (t : ℕ) → k ≤ t → t < m → get_or keys (get_or p t 0) 0 ≡ least → IsNext m n g k p t
    next_of t kt tm e = record { left = kt; within = tm; least = λ u ku um. no-later t u kt tm ku um (omega (arith, e, lowest.no_more u ku um)) }

    least-of : (t : ℕ) → IsNext m n g k p t → get_or keys (get_or p t 0) 0 ≡ least
    least-of t h = go (dec_lt least (get_or keys (get_or p t 0) 0)) lowest.reached
      where
        go : Dec (least < get_or keys (get_or p t 0) 0) → (u : ℕ) × (k ≤ u) × (u < m) × (get_or keys (get_or p u 0) 0 ≡ least) → get_or keys (get_or p t 0) 0 ≡ least
        go (yes l) (u, ku, um, e) =
            absurd (lower-key u t ku um h.left h.within (omega (arith, key-is u ku um, key-is t h.left h.within)) (h.least u ku um))
        go (no l) u = omega (arith, lowest.no_more t h.left h.within)

    pub keys-next : (c : Candidates) → c.rows.bytes ≡ set → c.key ≡ least → c.made ≡ None → NextRows m n g two low y node c
    keys-next c rows key-least made = rw-set
      where
        one : (t : ℕ) → k ≤ t → t < m → HasRow set (get_or p t 0) → IsNext m n g k p t
        one t kt tm h = by_row t kt tm (has.only (get_or p t 0) h)
          where
            by_row : (t : ℕ) → k ≤ t → t < m → (u : ℕ) × (k ≤ u) × (u < m) × (get_or p u 0 ≡ get_or p t 0) × (get_or keys (get_or p t 0) 0 ≡ least) → IsNext m n g k p t
            by_row t kt tm u = next_of t kt tm u.4

        key-as : (t : ℕ) → IsNext m n g k p t → c.key ≡ key-with t
        key-as t h = key-least ∙ sym (least-of t h) ∙ key-is t h.left h.within

        left-of : (r : ℕ) → HasRow set r → HasRow node.rest.bytes r
        left-of r h = let u = has.only r h in rw (← u.3) (s.rest.has u.0 u.1 u.2)

        rw-set : NextRows m n g two low y node c
        rw-set = record {
          set = rw rows has.set;
          left = rw rows left-of;
          only = rw rows one;
          every = λ t h. rw rows (has.has t h.left h.within (least-of t h));
          some = let u = lowest.reached in (u.0, next_of u.0 u.1 u.2 u.3);
          key-two = λ e. key-as;
          key-known = λ e. key-as;
          refined = rw made tt;
        }

  -- ---- any values

  pub after_is : Places n node.after.counts
  after_is = places-are k n g p node.after.counts s.tables.columns-fit s.places.size s.places.holds

  pub columns-after : After n node.after.counts
  columns-after = places-after k n g p node.after.counts s.tables.columns-fit s.places

  pub columns-first : k ≡ 0 → (c : ℕ) → c < n → get_or node.after.counts c 0 ≡ 16 - n
  columns-first e c cn = s.places.holds c (omega (arith, s.tables.columns-fit)) ∙ ap (λ (i : ℕ). places_after i n g p c) e ∙ (places-start n g p c).0 cn

  pub powers-within : sum_to 16 (λ c. 2 ^ get_or node.after.counts c 0) < 65536
  powers-within = powers-fit k n g p node.after.counts s.tables.columns-fit s.places

  pub row_small : (t row : ℕ) → t < m → row ≡ get_or p t 0 → row < 8
  row_small t row tm e = omega (arith, row_within t tm, m8)

  pub rows-within : RowsWithin p
  rows-within = record { size = length_whole 8 m p s.rows; within = λ t t8. go t t8 (dec_lt t m) }
    where
      go : (t : ℕ) → t < 8 → Dec (t < m) → get_or p t 0 < 8
      go t t8 (yes tm) = omega (arith, row_within t tm, m8)
      go t t8 (no tm) = omega (arith, rest-whole 8 m p s.rows t t8 (omega arith))

  pub rest_some : node.rest.bytes ≡ 0 → ⊥
  rest_some e = none-of-zero node.rest.bytes (get_or p k 0) e (s.rest.has k (omega arith) km)

  pub leaves-lone : m - k ≡ 1 → Leaves m n g node node.rest.bytes
  leaves-lone one = record {
    set = s.rest.set;
    left = λ r h. h;
    only = λ t kt tm h. record { left = kt; within = tm; least = λ u ku um. let e : u ≡ t = omega (arith, km) in rw e (≼_refl (rows-with t)) };
    every = λ t h. s.rest.has t h.left h.within;
    some = rest_some;
  }

  module _ (l : ℕ) (lists : Lists n node.after.counts l) where
    column-is : (j : ℕ) → j < n → get_or (columns_of n l) j 0 ≡ column_at l j
    unfolding columns_of
    column-is j jn = at-tabulate n (column_at l) j 0 jn

    column-within : (j : ℕ) → j < n → column_at l j < n
    column-within j jn = rw (column-is j jn) at (lists.sorts.columns.within j jn)

    ends-are : (u : ℕ) → u < n → 16 - get_or node.after.counts (get_or (columns_of n l) u 0) 0 ≡ end_of l node.after.counts u
    ends-are u un = ap (λ (c : ℕ). 16 - get_or node.after.counts c 0) (column-is u un)

    pub list-ends : BlockEnds n (end_of l node.after.counts)
    list-ends = record {
      further = λ u un. rw (ends-are u un) at (ends.further u un);
      within = λ u un. rw (ends-are u un) at (ends.within u un);
      same = λ u i un ui ie. same u i un ui ie (rw (ends-are u un) at (ends.within u un));
    }
      where
        ends : BlockEnds n (λ u. 16 - get_or node.after.counts (get_or (columns_of n l) u 0) 0)
        ends = block-ends k n g p node.after.counts (columns_of n l) s.tables.columns-fit s.places lists.sorts

        same : (u i : ℕ) → u < n → u ≤ i → i < end_of l node.after.counts u → end_of l node.after.counts u ≤ n → end_of l node.after.counts i ≡ end_of l node.after.counts u
        same u i un ui ie en = sym (ends-are i (omega arith)) ∙ ends.same u i un ui (rw (ends-are u un) ie) ∙ ends-are u un

    pub leaves-sifted : (set : ℕ) → IsRowSet set → (set ≡ 0 → ⊥) → Sifts n (end_of l node.after.counts) (levels_of w l) (HasRow node.rest.bytes) n (HasRow set) → Leaves m n g node set
    unfolding levels_of
    leaves-sifted set is_set some sifts = record {
      set = is_set;
      left = within-rest;
      only = λ t kt tm h. (both t kt tm).0 h;
      every = λ t h. (both t h.left h.within).1 h;
      some = some;
    }
      where
        levels-are : (i r j : ℕ) → HasRow node.rest.bytes r → i + j < n → levels_of w l i r j ≡ level (cell n g r (get_or (columns_of n l) (i + j) 0))
        levels-are i r j h ij =
            let t = s.rest.only r h in
            let rm : r < m = rw t.3 at (row_within t.0 t.2) in
            let c = column-within (i + j) ij in
            s.tables.by-columns.holds r (column_at l (i + j)) (omega (arith, m8)) (omega (arith, s.tables.columns-fit))
            ∙ s.tables.by_rows.holds r (column_at l (i + j)) rm c
            ∙ ap (λ (d : ℕ). level (cell n g r d)) (sym (column-is (i + j) ij))

        by-list : Sifts n (λ u. 16 - get_or node.after.counts (get_or (columns_of n l) u 0) 0) (levels_of w l) (HasRow node.rest.bytes) n (HasRow set)
        by-list = sifts-ends n (end_of l node.after.counts) (λ u. 16 - get_or node.after.counts (get_or (columns_of n l) u 0) 0) (λ u un. sym (ends-are u un)) (levels_of w l) (HasRow node.rest.bytes) n (HasRow set) sifts

        within-rest : (r : ℕ) → HasRow set r → HasRow node.rest.bytes r
        within-rest =
            sifted-within m n g k p node.after.counts (columns_of n l) s.tables.columns-fit m8 s.tables.size s.tables.valued.small km s.rows s.places lists.sorts (HasRow node.rest.bytes) (HasRow set)
            s.rest.has s.rest.only (levels_of w l) levels-are by-list

        both : (t : ℕ) → k ≤ t → t < m → HasRow set (get_or p t 0) ↔ IsNext m n g k p t
        both =
            sifted-next m n g k p node.after.counts (columns_of n l) s.tables.columns-fit m8 s.tables.size s.tables.valued.small km s.rows s.places lists.sorts (HasRow node.rest.bytes) (HasRow set)
            s.rest.has s.rest.only (levels_of w l) levels-are by-list

  -- some row of such a set
  some_next : (set : ℕ) → Leaves m n g node set → (t : ℕ) × IsNext m n g k p t
  some_next set h =
      let r = row-found set h.set h.some in
      let t = s.rest.only r.0 (h.left r.0 r.1) in
      (t.0, h.only t.0 t.1 t.2 (rw t.3 r.1))

  -- without a key, where the search is fresh
  pub fresh-next : two ≡ false → node.fresh ≡ true → (set : ℕ) → Leaves m n g node set → (c : Candidates) → c.rows.bytes ≡ set → c.made ≡ None → NextRows m n g two low y node c
  fresh-next z f set h c rows made = record {
    set = rw rows h.set;
    left = rw rows h.left;
    only = rw rows h.only;
    every = rw rows h.every;
    some = some_next set h;
    key-two = λ e. absurd (true≢false (sym e ∙ z));
    key-known = λ e. absurd (true≢false (sym f ∙ e));
    refined = rw made tt;
  }

  -- the columns with a row of the set placed
  module _ (z : two ≡ false) (set : ℕ) (h : Leaves m n g node set) (first : ℕ) (of : HasRow set first) (further : List ℕ) (refined : Refined node.after.counts (entry y first) further) where
    at : (t : ℕ) × (k ≤ t) × (t < m) × (get_or p t 0 ≡ first)
    at = s.rest.only first (h.left first of)

    t0 : ℕ
    t0 = at.0

    is-next : IsNext m n g k p t0
    unfolding t0
    is-next = h.only at.0 at.1 at.2 (rw at.3 of)

    next-is : get_or (swapped p k t0) k 0 ≡ first
    unfolding t0
    next-is = next_row at.0 at.2 ∙ at.3

    first-within : first < m
    unfolding t0
    first-within = rw at.3 at (row_within at.0 at.2)

    first-places : PlacesBy (suc k) n g (swapped p k t0) further
    unfolding Small t0
    first-places = record {
      size = refined.size;
      holds = refined-places k n g (swapped p k t0) node.after.counts further (entry y first) s.tables.columns-fit
          (λ c cn. rw next-is (s.tables.valued.small _ (cell-inside m n g s.tables.size first c first-within cn)))
          (λ c cn. rw next-is (s.tables.by_rows.holds first c first-within cn))
          (places-with at.0 at.1) refined;
    }

    pub first-after : After n further
    first-after = places-after (suc k) n g (swapped p k t0) further s.tables.columns-fit first-places

    pub known_next : (l : ℕ) → Lists n further l → (v : ℕ) → v ≡ number n (λ j. entry y first (column_at l j)) → (c : Candidates) → c.rows.bytes ≡ set → c.key ≡ v → (made : Refinement) → c.made ≡ Some made → made.row.0 ≡ first → made.after.counts ≡ further → NextRows m n g two low y node c
    unfolding key columns_of
    known_next l lists v is c rows key-is made made-is first-is after_is = record {
      set = rw rows h.set;
      left = rw rows h.left;
      only = rw rows h.only;
      every = rw rows h.every;
      some = some_next set h;
      key-two = λ e. absurd (true≢false (sym e ∙ z));
      key-known = λ e t ht. key-is ∙ first_key ∙ next_keys t0 t is-next ht;
      refined = rw (made-is, first-is, after_is) refined;
    }
      where
        entries : (j : ℕ) → j < n → entry y first (column_at l j) ≡ level (cell n g (get_or (swapped p k t0) k 0) (get_or (columns_of n l) j 0))
        entries j jn =
            let e : get_or (columns_of n l) j 0 ≡ column_at l j = at-tabulate n (column_at l) j 0 jn in
            let cn : column_at l j < n = rw e at (lists.sorts.columns.within j jn) in
            rw next-is (s.tables.by_rows.holds first (column_at l j) first-within cn ∙ ap (λ (d : ℕ). level (cell n g first d)) (sym e))

        first_key : v ≡ key-with t0
        first_key =
            is
            ∙ digits_are (suc k) n g (swapped p k t0) further (columns_of n l) s.tables.columns-fit first-places lists.sorts k (omega arith) (λ j. entry y first (column_at l j)) entries
            ∙ sym (ap (λ (b : Bool). key b n g low k (swapped p k t0)) z)

  -- ---- a row placed

  once : (i j : ℕ) → i < m → j < m → get_or p i 0 ≡ get_or p j 0 → i ≡ j
  once i j im jm e = s.rows.permutation.once i j im jm (get_or-take m p i 0 im ∙ e ∙ sym (get_or-take m p j 0 jm))

  pub rest-without : (t : ℕ) → k ≤ t → t < m → (rest : ℕ) → IsRowSet rest → ((r : ℕ) → HasRow rest r ↔ (HasRow node.rest.bytes r × (r ≡ get_or p t 0 → ⊥))) → RowsFrom (suc k) m (swapped p k t) rest
  rest-without t kt tm rest is_set has = record {
    set = is_set;
    has = λ u ku um. later u ku um (ℕ_discrete u t);
    only = λ r h. from r ((has r).0 h).1 (s.rest.only r ((has r).0 h).0);
  }
    where
      size : length p ≡ 8
      size = length_whole 8 m p s.rows

      -- the row that was next stands at t
      at-t : get_or (swapped p k t) t 0 ≡ get_or p k 0
      at-t = at-swapped p k t t (omega (arith, size, m8)) (omega (arith, size, m8)) ∙ ap (λ (i : ℕ). get_or p i 0) (exchange-second k t)

      later : (u : ℕ) → suc k ≤ u → u < m → Dec (u ≡ t) → HasRow rest (get_or (swapped p k t) u 0)
      later u ku um (yes e) = rw (e, at-t) ((has (get_or p k 0)).1 (s.rest.has k (omega arith) km, λ z. let v = once k t km tm z in omega arith))
      later u ku um (no ne) = rw (swapped_other p k t u (omega arith) ne) ((has (get_or p u 0)).1 (s.rest.has u (omega arith) um, λ z. ne (once u t um tm z)))

      from : (r : ℕ) → (r ≡ get_or p t 0 → ⊥) → (v : ℕ) × (k ≤ v) × (v < m) × (get_or p v 0 ≡ r) → (u : ℕ) × (suc k ≤ u) × (u < m) × (get_or (swapped p k t) u 0 ≡ r)
      from r ne (v, kv, vm, e) = go (ℕ_discrete v k)
        where
          differs : v ≡ t → ⊥
          differs z = ne (sym e ∙ ap (λ (i : ℕ). get_or p i 0) z)

          go : Dec (v ≡ k) → (u : ℕ) × (suc k ≤ u) × (u < m) × (get_or (swapped p k t) u 0 ≡ r)
          go (yes z) = (t, later-than z, tm, at-t ∙ ap (λ (i : ℕ). get_or p i 0) (sym z) ∙ e)
            where
              later-than : v ≡ k → suc k ≤ t
              later-than w = pick (ℕ_discrete k t)
                where
                  pick : Dec (k ≡ t) → suc k ≤ t
                  pick (yes q) = absurd (differs (w ∙ q))
                  pick (no q) = omega arith
          go (no z) = (v, omega arith, vm, swapped_other p k t v z differs ∙ e)
