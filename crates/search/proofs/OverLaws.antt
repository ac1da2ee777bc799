-- From the tables to the cells: what covers placing a row next covers placing a row that it is over.
--
--   over-next  ==  so for the rows at two positions
use Rattle.std.proofs.Common.{◌≡◌, ℕ, ◌<◌, ◌≤◌, ◌⊎◌, List, get_or, sym, refl, ap, ◌∙◌, inl, inr, arith, get_or-take}
use native.Mathlib.Decide.{ℕ_discrete, dec_lt}
use Rattle.permutations.proofs.ListLaws.{at-tabulate}
use Rattle.permutations.proofs.SwapLaws.{at-whole}
use Rattle.permutations.proofs.Transpositions.{exchange, exchange-first, exchange-second, exchange-other, exchange-within}
use Rattle.grids.specs.Order.{rank, ◌≼◌}
use Rattle.grids.specs.Grids.{cell}
use Rattle.grids.specs.Sorted.{permuted_column}
use Rattle.grids.proofs.OrderLaws.{≼-antisymm, ≼-dec}
use Rattle.branches.proofs.BitLaws.{cell-inside}
use Rattle.branches.specs.Branches.{Next}
use Rattle.branches.specs.Keys.{Small}
use Rattle.branches.specs.SortedRows.{places_after, column_order}
use Rattle.branches.proofs.DominatedRows.{covers-dominated}
use Rattle.branches.proofs.LevelLaws.{level-same, level-lower, level-no-higher}
use Rattle.branches.proofs.RefinedLaws.{places-less}
use Rattle.branches.proofs.SortedRows.{order-permutation, order-ascending}
use Rattle.search.specs.Tables.{entry}
use Rattle.search.specs.RowSets.{lane}
use Rattle.search.specs.Domination.{NoneHigher, Apart, Exchanged, equal, by_one, by_two, Others, Over, Left}
use Rattle.search.proofs.PairLaws.{exchange-back, twice, twice-first, twice-second, twice-third, twice-fourth, twice-other, twice-within, twice-back}

-- ---- columns with equally many after them

module _ (k n : ℕ) (g p : List ℕ) where
  abbrev column : ℕ → List ℕ
  column c = permuted_column k n g p c

  columns-equal : (c d : ℕ) → c < n → d < n → places_after k n g p c ≡ places_after k n g p d → column c ≡ column d
  columns-equal c d cn dn e = go (≼-dec (column c) (column d)) (≼-dec (column d) (column c))
    where
      go : Dec (column c ≼ column d) → Dec (column d ≼ column c) → column c ≡ column d
      go (yes a) (yes b) = ≼-antisymm (column c) (column d) a b
      go (no a) b = absurd (omega (arith, places-less k n g p d c dn cn a))
      go (yes a) (no b) = absurd (omega (arith, places-less k n g p c d cn dn b))

  cells-untold : (c d : ℕ) → c < n → d < n → places_after k n g p c ≡ places_after k n g p d → (i : ℕ) → i < k → cell n g (get_or p i 0) c ≡ cell n g (get_or p i 0) d
  unfolding permuted_column
  cells-untold c d cn dn e i ik =
      sym (at-tabulate k (λ i. cell n g (get_or p i 0) c) i 0 ik)
      ∙ ap (λ (l : List ℕ). get_or l i 0) (columns-equal c d cn dn e)
      ∙ at-tabulate k (λ i. cell n g (get_or p i 0) d) i 0 ik

-- ---- from the table to the cells

-- the first k rows do not tell columns c and d apart, the row at t has the lower cell in c, and no other row left has a higher one in d
record Pair (m n : ℕ) (g p : List ℕ) (k s t c d : ℕ) : Type 0 where
  untold : (i : ℕ) → i < k → cell n g (get_or p i 0) c ≡ cell n g (get_or p i 0) d
  in_order : rank (cell n g (get_or p t 0) c) < rank (cell n g (get_or p t 0) d)
  no-higher : (i : ℕ) → k ≤ i → i < m → (i ≡ s → ⊥) → (i ≡ t → ⊥) → rank (cell n g (get_or p i 0) d) ≤ rank (cell n g (get_or p i 0) c)

-- column j becomes i: it stays, or the two are a pair
abbrev Way : ℕ → ℕ → List ℕ → List ℕ → ℕ → ℕ → ℕ → ℕ → ℕ → Type 0
Way m n g p k s t j i = (i ≡ j) ⊎ (Pair m n g p k s t j i ⊎ Pair m n g p k s t i j)

module _ (m n : ℕ) (g y w : List ℕ) (k : ℕ) (p v : List ℕ) (z : ℕ) (h : Left m n g y w k p v z) where
  abbrev row : ℕ → ℕ
  row i = get_or p i 0

  row-less : (i : ℕ) → i < m → row i < m
  row-less i im = at-whole 8 m p h.order i im

  row-once : (i j : ℕ) → i < m → j < m → row i ≡ row j → i ≡ j
  row-once i j im jm e = h.order.permutation.once i j im jm (get_or-take m p i 0 im ∙ e ∙ sym (get_or-take m p j 0 jm))

  column-less : (c : ℕ) → c < n → c < 16
  column-less c cn = omega (arith, h.columns-fit)

  small : (r c : ℕ) → r < m → c < n → cell n g r c ≤ 15
  unfolding Small
  small r c rm cn = h.small _ (cell-inside m n g h.size r c rm cn)

  same : (r c q d : ℕ) → r < m → c < n → q < m → d < n → entry y r c ≡ entry y q d → cell n g r c ≡ cell n g q d
  same r c q d rm cn qm dn e =
      level-same (cell n g r c) (cell n g q d) (small r c rm cn) (small q d qm dn) (sym (h.by_rows.holds r c rm cn) ∙ e ∙ h.by_rows.holds q d qm dn)

  lower : (r c d : ℕ) → r < m → c < n → d < n → entry y r c < entry y r d → rank (cell n g r c) < rank (cell n g r d)
  lower r c d rm cn dn l =
      level-lower (cell n g r c) (cell n g r d) (small r c rm cn) (small r d rm dn) (rw (h.by_rows.holds r c rm cn, h.by_rows.holds r d rm dn) at l)

  no-higher : (r c d : ℕ) → r < m → c < n → d < n → entry y r c ≤ entry y r d → rank (cell n g r c) ≤ rank (cell n g r d)
  no-higher r c d rm cn dn l =
      level-no-higher (cell n g r c) (cell n g r d) (small r c rm cn) (small r d rm dn) (rw (h.by_rows.holds r c rm cn, h.by_rows.holds r d rm dn) at l)

  -- a column in which a row's level is above 0 is below n
  within-table : (r c d : ℕ) → r < m → c < 16 → d < entry y r c → c < n
  within-table r c d rm c16 l = go (dec_lt c n)
    where
      go : Dec (c < n) → c < n
      go (yes cn) = cn
      go (no nc) = absurd (omega (arith, l, h.by_rows.past r c (omega (arith, h.rows_fit)) (omega arith) c16))

  module _ (s t : ℕ) (ks : k ≤ s) (sm : s < m) (kt : k ≤ t) (tm : t < m) where
    abbrev X : ℕ → Type 0
    X = Others z (row s) (row t)

    -- a pair of columns
    module _ (c d : ℕ) (e : Exchanged y v (row s) (row t) c d) where
      low-within : c < n
      low-within = within-table (row s) c (entry y (row t) c) (row-less s sm) e.first-within (omega (arith, e.there, e.lower))

      high-within : d < n
      high-within = within-table (row t) d (entry y (row t) c) (row-less t tm) e.second-within e.lower

      pair : NoneHigher w X c d → Pair m n g p k s t c d
      unfolding NoneHigher Others
      pair none = record {
        untold = cells-untold k n g p c d low-within high-within
            (sym (h.places.holds c e.first-within) ∙ e.untold ∙ h.places.holds d e.second-within);
        in_order = lower (row t) c d (row-less t tm) low-within high-within e.lower;
        no-higher = λ i ki im ns nt.
            no-higher (row i) d c (row-less i im) high-within low-within
            (by-table (row i) (omega (arith, row-less i im, h.rows_fit))
            (none (row i) (h.left.has i ki im, (λ f. ns (row-once i s im sm f)), (λ f. nt (row-once i t im tm f)))));
      }
        where
          by-table : (r : ℕ) → r < 8 → lane r (get_or w d 0) ≤ lane r (get_or w c 0) → entry y r d ≤ entry y r c
          by-table r r8 l = rw (h.by-columns.holds r d r8 e.second-within, h.by-columns.holds r c r8 e.first-within) at l

    module _ (f : ℕ → ℕ) (within : (j : ℕ) → j < n → f j < n) (back : (j : ℕ) → j < n → f (f j) ≡ j) (way : (j : ℕ) → j < n → Way m n g p k s t j (f j))
        (agree : (j : ℕ) → j < n → entry y (row s) (f j) ≡ entry y (row t) j) where
      placed : (i : ℕ) → i < k → (j : ℕ) → j < n → cell n g (row i) (f j) ≡ cell n g (row i) j
      placed i ik j jn = go (way j jn)
        where
          go : Way m n g p k s t j (f j) → cell n g (row i) (f j) ≡ cell n g (row i) j
          go (inl o) = ap (cell n g (row i)) o
          go (inr (inl o)) = sym (o.untold i ik)
          go (inr (inr o)) = o.untold i ik

      moved : (j : ℕ) → j < n → (f j ≡ j → ⊥) → cell n g (row t) (f j) ≡ cell n g (row t) j → ⊥
      moved j jn ne e = let r : rank (cell n g (row t) (f j)) ≡ rank (cell n g (row t) j) = ap rank e in go r (way j jn)
        where
          go : rank (cell n g (row t) (f j)) ≡ rank (cell n g (row t) j) → Way m n g p k s t j (f j) → ⊥
          go r (inl o) = ne o
          go r (inr (inl o)) = omega (arith, r, o.in_order)
          go r (inr (inr o)) = omega (arith, r, o.in_order)

      others : (i : ℕ) → k ≤ i → i < m → (i ≡ s → ⊥) → (i ≡ t → ⊥) → (j : ℕ) → j < n → rank (cell n g (row t) j) < rank (cell n g (row t) (f j)) →
          rank (cell n g (row i) (f j)) ≤ rank (cell n g (row i) j)
      others i ki im ns nt j jn less = go (way j jn)
        where
          go : Way m n g p k s t j (f j) → rank (cell n g (row i) (f j)) ≤ rank (cell n g (row i) j)
          go (inl o) = rw o (omega arith)
          go (inr (inl o)) = o.no-higher i ki im ns nt
          go (inr (inr o)) = absurd (omega (arith, less, o.in_order))

      next-over : Next m n g k p s t
      unfolding Next
      next-over =
          covers-dominated m n g k p h.rows_fit h.placed-fits h.order s t f ks sm kt tm
          (record {
            within = within;
            back = back;
            exchanged = λ j jn. same (row s) (f j) (row t) j (row-less s sm) (within j jn) (row-less t tm) jn (agree j jn);
            placed = placed;
            moved = moved;
            others = others;
          })
          (λ q. (column_order m n g q, order-permutation m n g q, order-ascending m n g q))

    over-one : (c d : ℕ) → Exchanged y v (row s) (row t) c d → NoneHigher w X c d → ((j : ℕ) → j < 16 → (j ≡ c → ⊥) → (j ≡ d → ⊥) → entry y (row s) j ≡ entry y (row t) j) →
        Next m n g k p s t
    over-one c d e none alone =
        next-over (exchange c d) (λ j jn. exchange-within n c d j (low-within c d e) (high-within c d e) jn) (λ j jn. exchange-back c d j)
        (λ j jn. way j (ℕ_discrete j c) (ℕ_discrete j d)) (λ j jn. agree j (column-less j jn) (ℕ_discrete j c) (ℕ_discrete j d))
      where
        columns : Pair m n g p k s t c d
        columns = pair c d e none

        way : (j : ℕ) → Dec (j ≡ c) → Dec (j ≡ d) → Way m n g p k s t j (exchange c d j)
        way j (yes a) b = inr (inl (rw (a, exchange-first c d) columns))
        way j (no a) (yes b) = inr (inr (rw (b, exchange-second c d) columns))
        way j (no a) (no b) = inl (exchange-other c d j a b)

        agree : (j : ℕ) → j < 16 → Dec (j ≡ c) → Dec (j ≡ d) → entry y (row s) (exchange c d j) ≡ entry y (row t) j
        agree j j16 (yes a) b = rw (a, exchange-first c d) e.back
        agree j j16 (no a) (yes b) = rw (b, exchange-second c d) e.there
        agree j j16 (no a) (no b) = rw (exchange-other c d j a b) (alone j j16 a b)

    over-two : (c d e f : ℕ) → Exchanged y v (row s) (row t) c d → Exchanged y v (row s) (row t) e f → Apart c d e f → NoneHigher w X c d → NoneHigher w X e f →
        ((j : ℕ) → j < 16 → (j ≡ c → ⊥) → (j ≡ d → ⊥) → (j ≡ e → ⊥) → (j ≡ f → ⊥) → entry y (row s) j ≡ entry y (row t) j) → Next m n g k p s t
    over-two c d e f one two apart none more alone =
        next-over (twice c d e f) (twice-within n c d e f (low-within c d one) (high-within c d one) (low-within e f two) (high-within e f two)) (λ j jn. twice-back c d e f apart j)
        (λ j jn. way j (ℕ_discrete j c) (ℕ_discrete j d) (ℕ_discrete j e) (ℕ_discrete j f))
        (λ j jn. agree j (column-less j jn) (ℕ_discrete j c) (ℕ_discrete j d) (ℕ_discrete j e) (ℕ_discrete j f))
      where
        first : Pair m n g p k s t c d
        first = pair c d one none

        second : Pair m n g p k s t e f
        second = pair e f two more

        way : (j : ℕ) → Dec (j ≡ c) → Dec (j ≡ d) → Dec (j ≡ e) → Dec (j ≡ f) → Way m n g p k s t j (twice c d e f j)
        way j (yes o) b i l = inr (inl (rw (o, twice-first c d e f apart) first))
        way j (no a) (yes o) i l = inr (inr (rw (o, twice-second c d e f apart) first))
        way j (no a) (no b) (yes o) l = inr (inl (rw (o, twice-third c d e f apart) second))
        way j (no a) (no b) (no i) (yes o) = inr (inr (rw (o, twice-fourth c d e f apart) second))
        way j (no a) (no b) (no i) (no l) = inl (twice-other c d e f apart j a b i l)

        agree : (j : ℕ) → j < 16 → Dec (j ≡ c) → Dec (j ≡ d) → Dec (j ≡ e) → Dec (j ≡ f) → entry y (row s) (twice c d e f j) ≡ entry y (row t) j
        agree j j16 (yes o) b i l = rw (o, twice-first c d e f apart) one.back
        agree j j16 (no a) (yes o) i l = rw (o, twice-second c d e f apart) one.there
        agree j j16 (no a) (no b) (yes o) l = rw (o, twice-third c d e f apart) two.back
        agree j j16 (no a) (no b) (no i) (yes o) = rw (o, twice-fourth c d e f apart) two.there
        agree j j16 (no a) (no b) (no i) (no l) = rw (twice-other c d e f apart j a b i l) (alone j j16 a b i l)

    pub over-next : Over y w v z (get_or p s 0) (get_or p t 0) → Next m n g k p s t
    over-next (equal e) = next-over (λ j. j) (λ j jn. jn) (λ j jn. refl) (λ j jn. inl refl) (λ j jn. e j (column-less j jn))
    over-next (by_one c d e none alone) = over-one c d e none alone
    over-next (by_two c d e f one two apart none more alone) = over-two c d e f one two apart none more alone
