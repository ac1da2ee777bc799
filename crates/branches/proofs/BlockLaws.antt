-- Blocks: columns that the rows placed do not tell apart stand beside each other in a sorted list of the columns.
--
--   block-ends    ==  the places of the columns fall into blocks, by how many columns come after each
--   block-sorted  ==  a row more sorts each block by its cells
use mathlib.Core.Path.{◌≡◌, sym, ap, ◌∙◌}
use mathlib.Core.List.{List}
use Prim.Native.Nat.{ℕ, suc, ◌+◌, ◌-◌, ◌≤◌, ◌<◌}
use native.Mathlib.Decide.{ℕ_discrete, dec_lt}
use native.Mathlib.Omega.{arith}
use lib.ListN.{length, get_or}
use Rattle.permutations.specs.Lists.{tabulate}
use Rattle.permutations.specs.Permutations.{IsPermutation, position}
use Rattle.permutations.proofs.ListLaws.{length-tabulate, at-tabulate, tabulate-ext}
use Rattle.permutations.proofs.PermutationLaws.{position-within}
use Rattle.grids.specs.Grids.{cell, arrangement}
use Rattle.grids.specs.Sorted.{permuted_column, Ascending}
use Rattle.branches.specs.SortedRows.{columns_after, PlacesBy, Sorts, column_order}
use Rattle.branches.specs.Keys.{level}
use Rattle.branches.specs.Sifting.{SortedBlock, Ascends, BlockEnds, Starts}
use Rattle.branches.proofs.LeadingRows.{leading-cells}
use Rattle.branches.proofs.LevelLaws.{level-ascends}
use Rattle.branches.proofs.SortedRows.{order-permutation, order-ascending, fewer-ascend, sorted-any}
use Rattle.branches.proofs.RefinedLaws.{places-equal, places-are, sorts-ascending}
use Rattle.branches.proofs.KeyLaws.{places_is, after-room, same_block, block-after, row-ascends}

module _ (k n : ℕ) (g p a q : List ℕ) (n16 : n ≤ 16) (by : PlacesBy k n g p a) (sorts : Sorts n a q) where
  up : Ascending k n g p q
  up = sorts-ascending k n g p a q n16 by.holds sorts

  -- how many columns come after that at a place
  abbrev A : ℕ → ℕ
  A i = get_or a (get_or q i 0) 0

  at : (i : ℕ) → i < n → A i ≡ columns_after k n g p (get_or q i 0)
  at i h = let c : get_or q i 0 < n = sorts.columns.within i h in by.holds (get_or q i 0) (omega arith) ∙ places_is k n g p (get_or q i 0) c

  few : (i : ℕ) → A i ≤ 15
  few i = (places-are k n g p a n16 by.size by.holds).small (get_or q i 0)

  abbrev ends : ℕ → ℕ
  ends u = 16 - get_or a (get_or q u 0) 0

  further : (u : ℕ) → u < n → u < ends u
  further u h = omega (arith, at u h, after-room k n g p q n16 sorts.columns up u h)

  pub block-ends : BlockEnds n ends
  block-ends = record {
    further = further;
    within = λ u h. omega (arith, (places-are k n g p a n16 by.size by.holds).before (get_or q u 0) (sorts.columns.within u h));
    same = λ u i h ui ie. same u i h ui ie (ℕ_discrete (A i) (A u)) (ℕ_discrete u i);
  }
    where
      same : (u i : ℕ) → u < n → u ≤ i → i < ends u → Dec (A i ≡ A u) → Dec (u ≡ i) → ends i ≡ ends u
      same u i h ui ie (yes e) d = ap (λ (x : ℕ). 16 - x) e
      same u i h ui ie (no ne) (yes e) = absurd (ne (ap A (sym e)))
      same u i h ui ie (no ne) (no nu) =
          let w : ends u ≤ n = omega (arith, (places-are k n g p a n16 by.size by.holds).before (get_or q u 0) (sorts.columns.within u h)) in
          absurd (omega (arith, at u h, block-after k n g p q n16 sorts.columns up u i (omega arith) (omega arith) (λ e. ne (at i (omega arith) ∙ e ∙ sym (at u h)))))

  -- sorted by one row more
  Q : List ℕ
  Q = column_order (suc k) n g p

  Q-columns : IsPermutation n Q
  unfolding Q
  Q-columns = order-permutation (suc k) n g p

  Q-more : Ascending (suc k) n g p Q
  unfolding Q
  Q-more = order-ascending (suc k) n g p

  Q-up : Ascending k n g p Q
  Q-up = fewer-ascend k (suc k) n g p Q (omega arith) Q-more

  -- the rows placed do not tell the columns at a place apart, in the one order and the other
  same-columns : (i : ℕ) → i < n → permuted_column k n g p (get_or Q i 0) ≡ permuted_column k n g p (get_or q i 0)
  unfolding permuted_column
  same-columns i h = tabulate-ext 0 k _ _ (λ t tk. leading-cells n g p Q p q k lead t i tk h)
    where
      lead : arrangement k n p Q g ≡ arrangement k n p q g
      lead = sorted-any k n g p Q Q-columns Q-up ∙ sym (sorted-any k n g p q sorts.columns up)

  at-Q : (i : ℕ) → i < n → get_or a (get_or Q i 0) 0 ≡ A i
  at-Q i h =
      let c : get_or Q i 0 < n = Q-columns.within i h in
      let d : get_or q i 0 < n = sorts.columns.within i h in
      by.holds (get_or Q i 0) (omega arith) ∙ places-equal k n g p (get_or Q i 0) (get_or q i 0) c d (same-columns i h) ∙ sym (by.holds (get_or q i 0) (omega arith))

  -- where a column of the one order stands in the other
  abbrev P : ℕ → ℕ
  P i = position q (get_or Q i 0)

  inside : (i : ℕ) → i < n → P i < n
  inside i h = (position-within n q sorts.columns (get_or Q i 0) (Q-columns.within i h)).0

  stands : (i : ℕ) → i < n → get_or q (P i) 0 ≡ get_or Q i 0
  stands i h = (position-within n q sorts.columns (get_or Q i 0) (Q-columns.within i h)).1

  same_after : (i : ℕ) → i < n → A (P i) ≡ A i
  same_after i h = ap (λ (c : ℕ). get_or a c 0) (stands i h) ∙ at-Q i h

  module _ (u : ℕ) (un : u < n) (starts : Starts ends u) where
    in_block : (j : ℕ) → u + j < ends u → A (u + j) ≡ A u
    in_block j h = let e : ends (u + j) ≡ ends u = block-ends.same u (u + j) un (omega arith) h in omega (arith, e, few (u + j), few u)

    below : (j : ℕ) → u + j < ends u → u + j < n
    below j h = omega (arith, block-ends.within u un)

    P-ends : (j : ℕ) → u + j < ends u → ends (P (u + j)) ≡ ends u
    P-ends j h = ap (λ (x : ℕ). 16 - x) (same_after (u + j) (below j h) ∙ in_block j h)

    P-last : (j : ℕ) → u + j < ends u → P (u + j) < ends u
    P-last j h = omega (arith, further (P (u + j)) (inside (u + j) (below j h)), P-ends j h)

    P-first : (j : ℕ) → u + j < ends u → Dec (P (u + j) < u) → u ≤ P (u + j)
    unfolding Starts
    P-first j h (yes l) = absurd (omega (arith, starts (P (u + j)) l, P-ends j h, further u un))
    P-first j h (no l) = omega arith

    first : (j : ℕ) → u + j < ends u → u ≤ P (u + j)
    first j h = P-first j h (dec_lt (P (u + j)) u)

    places : List ℕ
    places = tabulate 0 (ends u - u) (λ j. P (u + j) - u)

    at_places : (j : ℕ) → j < ends u - u → get_or places j 0 ≡ P (u + j) - u
    unfolding places
    at_places j h = at-tabulate (ends u - u) (λ j. P (u + j) - u) j 0 h

    permuted : IsPermutation (ends u - u) places
    unfolding places
    permuted = record {
      size = size;
      within = λ j h. rw (at_places j h) (omega (arith, first j (omega arith), P-last j (omega arith)));
      once = λ i j hi hj e. once i j hi hj (omega (arith, at_places i hi, at_places j hj, e, first i (omega arith), first j (omega arith)));
    }
      where
        size : length places ≡ ends u - u
        size = length-tabulate 0 (ends u - u) (λ j. P (u + j) - u)

        once : (i j : ℕ) → i < ends u - u → j < ends u - u → P (u + i) ≡ P (u + j) → i ≡ j
        once i j hi hj e =
            let z : u + i ≡ u + j = Q-columns.once (u + i) (u + j) (below i (omega arith)) (below j (omega arith))
            (sym (stands (u + i) (below i (omega arith))) ∙ ap (λ (c : ℕ). get_or q c 0) e ∙ stands (u + j) (below j (omega arith))) in
            omega arith

    pub block-sorted : (c : ℕ → ℕ) → ((j : ℕ) → u + j < n → c j ≡ level (cell n g (get_or p k 0) (get_or q (u + j) 0))) → ((d : ℕ) → d < n → cell n g (get_or p k 0) d ≤ 15) →
        SortedBlock u (ends u - u) c (λ j. level (cell n g (get_or p k 0) (get_or (column_order (suc k) n g p) j 0)))
    unfolding Q Ascends
    block-sorted c is small = record {
      order = places;
      permutation = permuted;
      cells = λ j h. sym (cells j h);
      ascends = ascends;
    }
      where
        cells : (j : ℕ) → j < ends u - u → c (get_or places j 0) ≡ level (cell n g (get_or p k 0) (get_or Q (u + j) 0))
        cells j h =
            ap c (at_places j h)
            ∙ is (P (u + j) - u) (omega (arith, first j (omega arith), inside (u + j) (below j (omega arith))))
            ∙ ap (λ (i : ℕ). level (cell n g (get_or p k 0) (get_or q i 0))) (omega (arith, first j (omega arith)))
            ∙ ap (λ (d : ℕ). level (cell n g (get_or p k 0) d)) (stands (u + j) (below j (omega arith)))

        alike : (j : ℕ) → u + j < ends u → columns_after k n g p (get_or Q (u + j) 0) ≡ A u
        alike j h =
            let d : get_or Q (u + j) 0 < n = Q-columns.within (u + j) (below j h) in
            sym (by.holds (get_or Q (u + j) 0) (omega arith) ∙ places_is k n g p (get_or Q (u + j) 0) d) ∙ at-Q (u + j) (below j h) ∙ in_block j h

        ascends : Ascends (ends u - u) (λ j. c (get_or places j 0))
        ascends i j ij h =
            let x = get_or Q (u + i) 0 in
            let y = get_or Q (u + j) 0 in
            omega (
              arith,
              cells i (omega arith),
              cells j h,
              level-ascends (cell n g (get_or p k 0) x) (cell n g (get_or p k 0) y) (small x (Q-columns.within (u + i) (below i (omega arith)))) (small y (Q-columns.within (u + j) (below j (omega arith))))
                  (row-ascends k n g p Q n16 Q-columns Q-up Q-more (u + i) (u + j) (omega arith) (below j (omega arith))
                  (same_block k n g p Q n16 Q-columns Q-up (u + i) (u + j) (omega arith) (below j (omega arith)) (alike i (omega arith) ∙ sym (alike j (omega arith))))),
            )
