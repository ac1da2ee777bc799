-- From the words of rows and columns to the cells: what covers placing a row next covers placing a row that it is over.
--
--   over-next  ==  so for the rows at two positions
use mathlib.Core.Path.{◌≡◌, refl, sym, ap, ◌∙◌}
use mathlib.Core.List.{List}
use mathlib.Core.Logic.{◌⊎◌, inl, inr}
use Prim.Native.Nat.{ℕ, ◌+◌, ◌-◌, ◌*◌, ◌^◌, ◌≤◌, ◌<◌}
use native.Mathlib.Decide.{ℕ_discrete}
use native.Mathlib.Omega.{arith}
use lib.ListN.{get_or}
use lib.Bits.{bit_and}
use lib.Seq.{get_or-take}
use Rattle.permutations.specs.Rows.{RowPermutation}
use Rattle.permutations.specs.Rows.{row_numbers}
use Rattle.permutations.proofs.ListLaws.{at-tabulate}
use Rattle.permutations.proofs.SwapLaws.{at-whole}
use Rattle.permutations.proofs.Transpositions.{exchange, exchange-first, exchange-second, exchange-other, exchange-within}
use Rattle.grids.specs.Order.{rank, ◌≼◌}
use Rattle.grids.specs.Grids.{cell}
use Rattle.grids.specs.Sorted.{permuted_column}
use Rattle.grids.proofs.OrderLaws.{≼-antisymm, ≼-dec}
use Rattle.branches.specs.Branches.{Dominates}
use Rattle.branches.proofs.DominatedRows.{covers-dominated}
use Rattle.two_values.specs.TwoValues.{places_after, column_order}
use Rattle.two_values.specs.Search.{Next}
use Rattle.two_values.specs.Words.{word}
use Rattle.two_values.specs.Domination.{entry, Alone, Crossed, ByOne, ByTwo, Over, equal, by_one, by_two, Prepared}
use Rattle.two_values.proofs.BitLaws.{cells-equal, cells-higher, cells-no-higher}
use Rattle.two_values.proofs.WordLaws.{word-injective, word-exchanged, word-alone}
use Rattle.two_values.proofs.PairLaws.{exchange-back, Apart, twice, twice-first, twice-second, twice-third, twice-fourth, twice-other, twice-within, twice-back}
use Rattle.two_values.proofs.SortedRows.{order-permutation, order-ascending}
use Rattle.two_values.proofs.RefinedLaws.{places-less}

-- ---- columns with equally many after them

module _ (k n : ℕ) (g p : List ℕ) where
  abbrev column : ℕ → List ℕ
  column c = permuted_column k n g p c

  columns-equal : (c d : ℕ) → c < n → d < n → places_after k n g p c ≡ places_after k n g p d → column c ≡ column d
  columns-equal c d cn dn e = go (≼-dec (column c) (column d)) (≼-dec (column d) (column c))
    where
      go : Dec (column c ≼ column d) → Dec (column d ≼ column c) → column c ≡ column d
      go (yes a) (yes b) = ≼-antisymm (column c) (column d) a b
      go (no a) b = absurd (omega (arith, places-less k n g p d c dn cn a))
      go (yes a) (no b) = absurd (omega (arith, places-less k n g p c d cn dn b))

  cells-untold : (c d : ℕ) → c < n → d < n → places_after k n g p c ≡ places_after k n g p d → (i : ℕ) → i < k → cell n g (get_or p i 0) c ≡ cell n g (get_or p i 0) d
  unfolding permuted_column
  cells-untold c d cn dn e i ik =
      sym (at-tabulate k (λ i. cell n g (get_or p i 0) c) i 0 ik)
      ∙ ap (λ (l : List ℕ). get_or l i 0) (columns-equal c d cn dn e)
      ∙ at-tabulate k (λ i. cell n g (get_or p i 0) d) i 0 ik

-- ---- from the table to the cells

-- the first k rows do not tell columns c and d apart, and the row at t alone has the lower value in c and the higher in d
record Pair (m n : ℕ) (g y p : List ℕ) (k t c d : ℕ) : Type 0 where
  untold : (i : ℕ) → i < k → cell n g (get_or p i 0) c ≡ cell n g (get_or p i 0) d
  in_order : entry y (get_or p t 0) d < entry y (get_or p t 0) c
  no-higher : (i : ℕ) → i < m → (i ≡ t → ⊥) → entry y (get_or p i 0) c ≤ entry y (get_or p i 0) d

-- column j becomes i: it stays, or the two are a pair
abbrev Way : ℕ → ℕ → List ℕ → List ℕ → List ℕ → ℕ → ℕ → ℕ → ℕ → Type 0
Way m n g y p k t j i = (i ≡ j) ⊎ (Pair m n g y p k t j i ⊎ Pair m n g y p k t i j)

module _ (m n : ℕ) (g : List ℕ) (low : ℕ) (x y : List ℕ) (k : ℕ) (p : RowPermutation) (a u v : List ℕ) (prepared : Prepared m n g low x y k p a u v) where
  abbrev row : ℕ → ℕ
  row i = get_or (row_numbers p) i 0

  row-less : (i : ℕ) → i < m → row i < m
  row-less i im = at-whole 8 m (row_numbers p) prepared.rows.whole i im

  row-once : (i j : ℕ) → i < m → j < m → row i ≡ row j → i ≡ j
  row-once i j im jm e =
      prepared.rows.whole.permutation.once i j im jm (get_or-take m (row_numbers p) i 0 im ∙ e ∙ sym (get_or-take m (row_numbers p) j 0 jm))

  column-less : (c : ℕ) → c < n → c < 16
  column-less c cn = omega (arith, prepared.tables.columns-fit)

  same : (r c q d : ℕ) → r < m → c < n → q < m → d < n → entry y r c ≡ entry y q d → cell n g r c ≡ cell n g q d
  same r c q d rm cn qm dn = cells-equal m n g low y prepared.tables.columns-fit prepared.tables.size prepared.tables.two prepared.tables.by_rows r c q d rm cn qm dn

  higher : (r c d : ℕ) → r < m → c < n → d < n → entry y r c < entry y r d → rank (cell n g r d) < rank (cell n g r c)
  higher r c d rm cn dn =
      cells-higher m n g low y prepared.tables.columns-fit prepared.tables.size prepared.tables.two prepared.tables.by_rows r c r d rm cn rm dn

  not-higher : (r c d : ℕ) → r < m → c < n → d < n → entry y r c ≤ entry y r d → rank (cell n g r d) ≤ rank (cell n g r c)
  not-higher r c d rm cn dn =
      cells-no-higher m n g low y prepared.tables.columns-fit prepared.tables.size prepared.tables.two prepared.tables.by_rows r c r d rm cn rm dn

  -- ---- digits

  abbrev digit : ℕ → ℕ → ℕ
  digit r c = get_or x (c * 8 + r) 0

  digit-of : (r c : ℕ) → r < m → c < 16 → digit r c + entry y r c ≡ 1
  digit-of r c rm c16 =
      omega
      (arith, prepared.tables.by-columns.bits (c * 8 + r), prepared.tables.by-columns.holds r c rm c16, prepared.tables.by_rows.holds r c rm c16)

  digit-most : (r c : ℕ) → r < m → c < 16 → digit r c ≤ 1
  digit-most r c rm c16 = omega (arith, digit-of r c rm c16)

  row_word : (r : ℕ) → r < m → get_or u r 0 ≡ word 16 (digit r)
  row_word r rm = prepared.row_words.holds r (omega (arith, prepared.tables.rows_fit))

  module _ (s t : ℕ) (sm : s < m) (tm : t < m) where
    -- a pair of columns
    pair : (c d : ℕ) → c < n → d < n → Alone v a (row t) c d → Crossed y (row s) (row t) c d → Pair m n g y (row_numbers p) k t c d
    pair c d cn dn alone crossed = record {
      untold = cells-untold k n g (row_numbers p) c d cn dn
          (sym (prepared.places.holds c (column-less c cn)) ∙ alone.untold ∙ prepared.places.holds d (column-less d dn));
      in_order = omega (arith, crossed.other-lower, crossed.other-higher);
      no-higher = λ i im ne.
          word-alone 8 (λ r. entry y r c) (λ r. entry y r d) (row t) (λ r r8. prepared.tables.by_rows.bits (r * 16 + c)) (λ r r8. prepared.tables.by_rows.bits (r * 16 + d))
          (below t tm) crossed.other-lower crossed.other-higher words (row i) (below i im) (λ e. ne (row-once i t im tm e));
    }
      where
        below : (i : ℕ) → i < m → row i < 8
        below i im = omega (arith, row-less i im, prepared.tables.rows_fit)

        words : bit_and (word 8 (λ r. entry y r c)) (word 8 (λ r. entry y r d)) + 2 ^ (7 - row t) ≡ word 8 (λ r. entry y r c)
        words = rw (prepared.low-words c (column-less c cn), prepared.low-words d (column-less d dn)) at alone.alone

    module _ (f : ℕ → ℕ) (within : (j : ℕ) → j < n → f j < n) (back : (j : ℕ) → j < n → f (f j) ≡ j)
        (way : (j : ℕ) → j < n → Way m n g y (row_numbers p) k t j (f j))
        (agree : (j : ℕ) → j < n → entry y (row s) (f j) ≡ entry y (row t) j) where
      placed : (i : ℕ) → i < k → (j : ℕ) → j < n → cell n g (row i) (f j) ≡ cell n g (row i) j
      placed i ik j jn = go (way j jn)
        where
          go : Way m n g y (row_numbers p) k t j (f j) → cell n g (row i) (f j) ≡ cell n g (row i) j
          go (inl w) = ap (cell n g (row i)) w
          go (inr (inl w)) = sym (w.untold i ik)
          go (inr (inr w)) = w.untold i ik

      moved : (j : ℕ) → j < n → (f j ≡ j → ⊥) → cell n g (row t) (f j) ≡ cell n g (row t) j → ⊥
      moved j jn ne e = let r : rank (cell n g (row t) (f j)) ≡ rank (cell n g (row t) j) = ap rank e in go r (way j jn)
        where
          go : rank (cell n g (row t) (f j)) ≡ rank (cell n g (row t) j) → Way m n g y (row_numbers p) k t j (f j) → ⊥
          go r (inl w) = ne w
          go r (inr (inl w)) = let l = higher (row t) (f j) j (row-less t tm) (within j jn) jn w.in_order in omega arith
          go r (inr (inr w)) = let l = higher (row t) j (f j) (row-less t tm) jn (within j jn) w.in_order in omega arith

      others : (i : ℕ) → k ≤ i → i < m → (i ≡ s → ⊥) → (i ≡ t → ⊥) → (j : ℕ) → j < n → rank (cell n g (row t) j) < rank (cell n g (row t) (f j)) →
          rank (cell n g (row i) (f j)) ≤ rank (cell n g (row i) j)
      others i ki im ns nt j jn lower = go (way j jn)
        where
          go : Way m n g y (row_numbers p) k t j (f j) → rank (cell n g (row i) (f j)) ≤ rank (cell n g (row i) j)
          go (inl w) = rw w (omega arith)
          go (inr (inl w)) = not-higher (row i) j (f j) (row-less i im) jn (within j jn) (w.no-higher i im nt)
          go (inr (inr w)) = let l = higher (row t) j (f j) (row-less t tm) jn (within j jn) w.in_order in absurd (omega arith)

      dominates : Dominates m n g (row_numbers p) k s t f
      dominates = record {
        within = within;
        back = back;
        exchanged = λ j jn. same (row s) (f j) (row t) j (row-less s sm) (within j jn) (row-less t tm) jn (agree j jn);
        placed = placed;
        moved = moved;
        others = others;
      }

      next-over : k ≤ s → k ≤ t → Next m n g k (row_numbers p) s t
      unfolding Next
      next-over ks kt =
          covers-dominated m n g k (row_numbers p) prepared.tables.rows_fit prepared.placed-fits prepared.rows.whole s t f ks sm kt tm dominates
          (λ q. (column_order m n g q, order-permutation m n g q, order-ascending m n g q))

    -- where the words say so, the rows agree
    agrees : (f : ℕ → ℕ) → ((j : ℕ) → j < 16 → f j < 16) → word 16 (λ j. digit (row s) (f j)) ≡ word 16 (digit (row t)) → (j : ℕ) → j < 16 → entry y (row s) (f j) ≡ entry y (row t) j
    agrees f within e j j16 =
        let d : digit (row s) (f j) ≡ digit (row t) j =
        word-injective 16 (λ j. digit (row s) (f j)) (digit (row t)) (λ i i16. digit-most (row s) (f i) (row-less s sm) (within i i16))
        (λ i i16. digit-most (row t) i (row-less t tm) i16) e j j16 in
        omega (arith, digit-of (row s) (f j) (row-less s sm) (within j j16), digit-of (row t) j (row-less t tm) j16)

    -- in row s the digit in c is 1, and that in d is 0
    digit-first : (c d : ℕ) → c < n → Crossed y (row s) (row t) c d → digit (row s) c ≡ 1
    digit-first c d cn h = omega (arith, digit-of (row s) c (row-less s sm) (column-less c cn), h.higher)

    digit-second : (c d : ℕ) → d < n → Crossed y (row s) (row t) c d → digit (row s) d ≡ 0
    digit-second c d dn h = omega (arith, digit-of (row s) d (row-less s sm) (column-less d dn), h.lower)

    -- a column in which row s has the higher value is none in which it has the lower
    columns-apart : (c d : ℕ) → entry y (row s) c ≡ 0 → entry y (row s) d ≡ 1 → c ≡ d → ⊥
    columns-apart c d h l e = let z : entry y (row s) c ≡ entry y (row s) d = ap (entry y (row s)) e in omega arith

    module _ (ks : k ≤ s) (kt : k ≤ t) where
      over_equal : get_or u (row s) 0 ≡ get_or u (row t) 0 → Next m n g k (row_numbers p) s t
      over_equal e =
          next-over (λ j. j) (λ j jn. jn) (λ j jn. refl) (λ j jn. inl refl)
          (λ j jn. agrees (λ j. j) (λ j j16. j16) (sym (row_word (row s) (row-less s sm)) ∙ e ∙ row_word (row t) (row-less t tm)) j (column-less j jn)) ks kt

      over-by-one : (c d : ℕ) → c < n → d < n → ByOne y u v a (row s) (row t) c d → Next m n g k (row_numbers p) s t
      over-by-one c d cn dn h =
          next-over (exchange c d) (λ j jn. exchange-within n c d j cn dn jn) (λ j jn. exchange-back c d j) (λ j jn. way j (ℕ_discrete j c) (ℕ_discrete j d))
          (λ j jn. agrees (exchange c d) (λ j j16. exchange-within 16 c d j (column-less c cn) (column-less d dn) j16) words j (column-less j jn)) ks kt
        where
          columns : Pair m n g y (row_numbers p) k t c d
          columns = pair c d cn dn h.alone h.crossed

          way : (j : ℕ) → Dec (j ≡ c) → Dec (j ≡ d) → Way m n g y (row_numbers p) k t j (exchange c d j)
          way j (yes e) b = inr (inl (rw (e, exchange-first c d) columns))
          way j (no b) (yes e) = inr (inr (rw (e, exchange-second c d) columns))
          way j (no b) (no e) = inl (exchange-other c d j b e)

          words : word 16 (λ j. digit (row s) (exchange c d j)) ≡ word 16 (digit (row t))
          words =
              let z = word-exchanged 16 (digit (row s)) c d (column-less c cn) (column-less d dn) (digit-first c d cn h.crossed) (digit-second c d dn h.crossed) in
              omega (arith, z, h.words, row_word (row s) (row-less s sm), row_word (row t) (row-less t tm))

      over-by-two : (c d e f : ℕ) → c < n → d < n → e < n → f < n → ByTwo y u v a (row s) (row t) c d e f → Next m n g k (row_numbers p) s t
      over-by-two c d e f cn dn en fn h =
          next-over (twice c d e f) (twice-within n c d e f cn dn en fn) (λ j jn. twice-back c d e f apart j)
          (λ j jn. way j (ℕ_discrete j c) (ℕ_discrete j d) (ℕ_discrete j e) (ℕ_discrete j f))
          (λ j jn. agree j (column-less j jn) (ℕ_discrete j c) (ℕ_discrete j d) (ℕ_discrete j e) (ℕ_discrete j f)) ks kt
        where
          one : Crossed y (row s) (row t) c d
          one = h.pairs.first-crossed

          two : Crossed y (row s) (row t) e f
          two = h.pairs.second-crossed

          apart : Apart c d e f
          apart = record {
            first-first = h.pairs.first-apart;
            first-second = columns-apart c f one.higher two.lower;
            second-first = λ z. columns-apart e d two.higher one.lower (sym z);
            second-second = h.pairs.second-apart;
          }

          first : Pair m n g y (row_numbers p) k t c d
          first = pair c d cn dn h.first_alone one

          second : Pair m n g y (row_numbers p) k t e f
          second = pair e f en fn h.second-alone two

          way : (j : ℕ) → Dec (j ≡ c) → Dec (j ≡ d) → Dec (j ≡ e) → Dec (j ≡ f) → Way m n g y (row_numbers p) k t j (twice c d e f j)
          way j (yes z) b i l = inr (inl (rw (z, twice-first c d e f apart) first))
          way j (no w) (yes z) i l = inr (inr (rw (z, twice-second c d e f apart) first))
          way j (no w) (no b) (yes z) l = inr (inl (rw (z, twice-third c d e f apart) second))
          way j (no w) (no b) (no i) (yes z) = inr (inr (rw (z, twice-fourth c d e f apart) second))
          way j (no w) (no b) (no i) (no l) = inl (twice-other c d e f apart j w b i l)

          -- row s with the first pair exchanged
          once : ℕ → ℕ
          once j = digit (row s) (exchange c d j)

          once-third : once e ≡ 1
          once-third = ap (digit (row s)) (exchange-other c d e (λ z. apart.first-first (sym z)) (λ z. apart.second-first (sym z))) ∙ digit-first e f en two

          once-fourth : once f ≡ 0
          once-fourth = ap (digit (row s)) (exchange-other c d f (λ z. apart.first-second (sym z)) (λ z. apart.second-second (sym z))) ∙ digit-second e f fn two

          words : word 16 (λ j. once (exchange e f j)) ≡ word 16 (digit (row t))
          words =
              let z = word-exchanged 16 (digit (row s)) c d (column-less c cn) (column-less d dn) (digit-first c d cn one) (digit-second c d dn one) in
              let w = word-exchanged 16 once e f (column-less e en) (column-less f fn) once-third once-fourth in
              omega (arith, z, w, h.pairs.words, row_word (row s) (row-less s sm), row_word (row t) (row-less t tm))

          within : (j : ℕ) → j < 16 → exchange c d (exchange e f j) < 16
          within j j16 =
              exchange-within 16 c d (exchange e f j) (column-less c cn) (column-less d dn) (exchange-within 16 e f j (column-less e en) (column-less f fn) j16)

          agree : (j : ℕ) → j < 16 → Dec (j ≡ c) → Dec (j ≡ d) → Dec (j ≡ e) → Dec (j ≡ f) → entry y (row s) (twice c d e f j) ≡ entry y (row t) j
          agree j j16 (yes z) b i l = rw (z, twice-first c d e f apart) (one.lower ∙ sym one.other-lower)
          agree j j16 (no w) (yes z) i l = rw (z, twice-second c d e f apart) (one.higher ∙ sym one.other-higher)
          agree j j16 (no w) (no b) (yes z) l = rw (z, twice-third c d e f apart) (two.lower ∙ sym two.other-lower)
          agree j j16 (no w) (no b) (no i) (yes z) = rw (z, twice-fourth c d e f apart) (two.higher ∙ sym two.other-higher)
          agree j j16 (no w) (no b) (no i) (no l) =
              rw (twice-other c d e f apart j w b i l)
              (rw (exchange-other e f j i l, exchange-other c d j w b) at (agrees (λ j. exchange c d (exchange e f j)) within words j j16))

pub over-next : (m n : ℕ) (g : List ℕ) (low : ℕ) (x y : List ℕ) (k : ℕ) (p : RowPermutation) (a u v : List ℕ) → Prepared m n g low x y k p a u v → (s t : ℕ) → k ≤ s → s < m → k ≤ t → t < m →
    Over y u v a n (get_or (row_numbers p) s 0) (get_or (row_numbers p) t 0) → Next m n g k (row_numbers p) s t
over-next m n g low x y k p a u v prepared s t ks sm kt tm (equal e) = over_equal m n g low x y k p a u v prepared s t sm tm ks kt e
over-next m n g low x y k p a u v prepared s t ks sm kt tm (by_one c d cn dn h) = over-by-one m n g low x y k p a u v prepared s t sm tm ks kt c d cn dn h
over-next m n g low x y k p a u v prepared s t ks sm kt tm (by_two c d e f cn dn en fn h) = over-by-two m n g low x y k p a u v prepared s t sm tm ks kt c d e f cn dn en fn h
