-- Laws of counts: cells that ascend come before those with lesser counts.
--
--   weight-shifted, weight-none  ==  a cell's weight by its rank: a power of 2 by a shift, and nothing from rank 15 on
--   weight-most       ==  no cell weighs more than one of rank 0
--   counts-permuted, counts_whole  ==  a row has the same counts in every column order
--   counts-lower      ==  a list that comes no later than ascending cells has no lesser counts
--   Counted n g i j sum, counted_none, counted_next, counted-all  ==  the cells of row i before column j are counted, and their number is small: at first, a cell more, at the end
--   rows_none, rows_next  ==  the rows are counted: none, and a row more
--   greatest-one, greatest-next, greatest-stays  ==  the greatest of some numbers: of one, and with a number more that is greater, or not
--   greatest-part     ==  of a part of the numbers
--   marks-none, marks-next  ==  only lesser numbers are marked: with no mark, and past a number that is told to be less or not
use mathlib.Core.Path.{◌≡◌, refl, sym, ap, ◌∙◌}
use mathlib.Core.List.{List, [], ◌∷◌}
use mathlib.Core.Bool.{Bool, false, true≢false}
use mathlib.Core.Logic.{inl, inr}
use Prim.Native.Nat.{ℕ, zero, suc, ◌+◌, ◌-◌, ◌*◌, ◌%◌, ◌^◌, ◌≤◌, ◌<◌}
use native.Mathlib.Nat.{add-zero, zero-add, suc-mul, one-mul, not-suc-le-zero, mul-le-mul_right}
use native.Mathlib.Decide.{ℕ_discrete, dec_lt}
use native.Mathlib.Omega.{arith}
use native.Mathlib.Numerals.{add-one}
use lib.ListN.{length, get_or, set, take}
use lib.Seq.{get_or-take, length-take-le, get_or-set_same, get_or-set_other}
use lib.Dec.{leb, ltb}
use lib.Pow.{shl_exact}
use borrow.Author.Tests.{leb-true, ltb-true, lt-ltb, le-ltb}
use Rattle.permutations.specs.Lists.{tabulate, numbers, every}
use Rattle.permutations.specs.Permutations.{IsPermutation}
use Rattle.permutations.specs.Padded.{IsPadded}
use Rattle.permutations.specs.Sums.{sum_to}
use Rattle.permutations.proofs.ListLaws.{tabulate-ext, every-number}
use Rattle.permutations.proofs.SumLaws.{sum-zero, sum-next, sum-permuted}
use Rattle.grids.specs.Order.{rank, ◌≼◌}
use Rattle.grids.specs.Grids.{cell, row, permuted_row}
use Rattle.general_search.specs.Counts.{weight_at, weight, counts, CountsRows, FirstGreatest, MarksLess}

-- ---- weights

weight-past : (r : ℕ) → 15 ≤ r → weight_at r ≡ 0
unfolding weight_at
weight-past r h = rw (le-ltb r 15 h, weight_at)

weight-low : (r : ℕ) → r < 15 → weight_at r ≡ 2 ^ (56 - 4 * r)
unfolding weight_at
weight-low r h = rw (lt-ltb r 15 h, weight_at)

pub weight-shifted : (v r : ℕ) → r ≡ rank v → r < 15 → (1 * 2 ^ (56 - 4 * r)) % 2 ^ 64 ≡ weight v
unfolding weight
weight-shifted v r e h =
    shl_exact 1 (56 - 4 * r) 64 (omega arith) (omega arith) ∙ one-mul (2 ^ (56 - 4 * r)) ∙ sym (weight-low r h) ∙ ap weight_at e

pub weight-none : (v r : ℕ) → r ≡ rank v → 15 ≤ r → 0 ≡ weight v
unfolding weight
weight-none v r e h = rw (← e) (sym (weight-past r h))

steep : (v : ℕ) → 16 * weight_at (suc v) ≤ weight_at v
unfolding weight_at numbers tabulate every
steep v = go (dec_lt v 15)
  where
    go : Dec (v < 15) → 16 * weight_at (suc v) ≤ weight_at v
    go (yes h) = leb-true _ _ (every-number (λ i. leb (16 * weight_at (suc i)) (weight_at i)) 15 refl v h)
    go (no h) = let e : weight_at (suc v) ≡ 0 = weight-past (suc v) (omega arith) in omega arith

weights-fall : (a b : ℕ) → a < b → 16 * weight_at b ≤ weight_at a
weights-fall a zero h = absurd (not-suc-le-zero h)
weights-fall a (suc b) h = go (weights-fall a b) (ℕ_discrete a b)
  where
    go : (a < b → 16 * weight_at b ≤ weight_at a) → Dec (a ≡ b) → 16 * weight_at (suc b) ≤ weight_at a
    go ih (yes e) = rw e (steep b)
    go ih (no ne) = omega (arith, ih (omega arith), steep b)

weight-falls : (x y : ℕ) → rank x < rank y → 16 * weight y ≤ weight x
unfolding weight
weight-falls x y h = weights-fall (rank x) (rank y) h

weight-antitone : (x y : ℕ) → rank x ≤ rank y → weight y ≤ weight x
unfolding weight
weight-antitone x y h = go (ℕ_discrete (rank x) (rank y))
  where
    go : Dec (rank x ≡ rank y) → weight_at (rank y) ≤ weight_at (rank x)
    go (yes e) = rw e (omega arith)
    go (no ne) = omega (arith, weights-fall (rank x) (rank y) (omega arith))

pub weight-most : (v : ℕ) → weight v ≤ 2 ^ 56
unfolding weight weight_at
weight-most v = go (rank v) (ℕ_discrete (rank v) 0)
  where
    go : (x : ℕ) → Dec (x ≡ 0) → weight_at x ≤ 2 ^ 56
    go x (yes e) = rw e (omega arith)
    go x (no ne) = let f : 16 * weight_at x ≤ 2 ^ 56 = weights-fall 0 x (omega arith) in omega arith

-- ---- the counts of some cells

counts-bound : (w : ℕ) (l : List ℕ) → ((j : ℕ) → j < length l → weight (get_or l j 0) ≤ w) → counts l ≤ length l * w
unfolding counts
counts-bound w [] h = omega arith
counts-bound w (x ∷ l) h =
    omega (arith, h 0 (omega arith), counts-bound w l (λ j b. h (suc j) (omega arith)), suc-mul (length l) w)

pub counts-lower : (x s : List ℕ) → length x ≡ length s → length s ≤ 16 → ((a b : ℕ) → a ≤ b → b < length s → rank (get_or s a 0) ≤ rank (get_or s b 0)) → x ≼ s → counts s ≤ counts x
unfolding counts
counts-lower [] [] e f up h = omega arith
counts-lower [] (b ∷ s) e f up h = absurd (omega arith)
counts-lower (a ∷ x) [] e f up h = absurd h
counts-lower (a ∷ x) (b ∷ s) e f up (inl h) =
    omega
    (arith, counts-bound (weight b) (b ∷ s) (λ j jl. weight-antitone b (get_or (b ∷ s) j 0) (up 0 j (omega arith) jl)), mul-le-mul_right (weight b) f, weight-falls a b h)
counts-lower (a ∷ x) (b ∷ s) e f up (inr h) =
    omega (arith, ap weight h.0, counts-lower x s (omega arith) (omega arith) (λ i j ij jl. up (suc i) (suc j) (omega arith) (omega arith)) h.1)

-- ---- cells by index

counts-next : (s n : ℕ) (f : ℕ → ℕ) → counts (tabulate s (suc n) f) ≡ counts (tabulate s n f) + weight (f (s + n))
unfolding counts tabulate
counts-next s zero f = omega (arith, ap (λ (x : ℕ). weight (f x)) (add-zero s))
counts-next s (suc n) f = let e : suc s + n ≡ s + suc n = omega arith in omega (arith, rw e at (counts-next (suc s) n f))

abbrev below : ℕ → (ℕ → ℕ) → ℕ
below n f = counts (tabulate 0 n f)

below_next : (n : ℕ) (f : ℕ → ℕ) → below (suc n) f ≡ below n f + weight (f n)
below_next n f = rw zero-add at (counts-next 0 n f)

below-ext : (n : ℕ) (f g : ℕ → ℕ) → ((j : ℕ) → j < n → f j ≡ g j) → below n f ≡ below n g
below-ext n f g h = ap counts (tabulate-ext 0 n f g h)

below-sum : (n : ℕ) (f : ℕ → ℕ) → below n f ≡ sum_to n (λ j. weight (f j))
unfolding tabulate counts
below-sum zero f = sym (sum-zero (λ j. weight (f j)))
below-sum (suc n) f = omega (arith, below_next n f, sum-next n (λ j. weight (f j)), below-sum n f)

pub counts-permuted : (n : ℕ) (g : List ℕ) (i : ℕ) (q : List ℕ) → IsPermutation n q → counts (permuted_row n g i q) ≡ counts (row n g i)
unfolding permuted_row row
counts-permuted n g i q o =
    below-sum n (λ j. cell n g i (get_or q j 0)) ∙ sym (sum-permuted n q o (λ j. weight (cell n g i j))) ∙ sym (below-sum n (λ j. cell n g i j))

pub counts_whole : (n : ℕ) (g : List ℕ) (i : ℕ) (q : List ℕ) → IsPadded 16 n q → counts (permuted_row n g i q) ≡ counts (row n g i)
unfolding permuted_row
counts_whole n g i q o =
    below-ext n (λ j. cell n g i (get_or q j 0)) (λ j. cell n g i (get_or (take n q) j 0)) (λ j b. ap (λ (x : ℕ). cell n g i x) (sym (get_or-take n q j 0 b)))
    ∙ counts-permuted n g i (take n q) o.permutation

-- ---- the loops that count

pub record Counted (n : ℕ) (g : List ℕ) (i j sum : ℕ) : Type 0 where
  pub is : sum ≡ counts (tabulate 0 j (λ c. cell n g i c))
  pub small : sum ≤ j * 2 ^ 56

pub counted_none : (n : ℕ) (g : List ℕ) (i : ℕ) → Counted n g i 0 0
unfolding counts tabulate
counted_none n g i = record { is = refl; small = omega arith }

pub counted_next : (n : ℕ) (g : List ℕ) (i j sum v w : ℕ) → Counted n g i j sum → v ≡ cell n g i j → w ≡ weight v → Counted n g i (j + 1) (sum + w)
counted_next n g i j sum v w h ev ew = record {
  is = rw add-one (omega (arith, h.is, below_next j (λ c. cell n g i c), ap weight ev));
  small = omega (arith, h.small, weight-most v);
}

pub counted-all : (n : ℕ) (g : List ℕ) (i j sum : ℕ) → j ≡ n → Counted n g i j sum → sum ≡ counts (row n g i)
unfolding row
counted-all n g i j sum e h = rw e at h.is

pub rows_none : (n : ℕ) (g p c : List ℕ) → CountsRows 0 n g p c
unfolding CountsRows
rows_none n g p c s b = absurd (not-suc-le-zero b)

pub rows_next : (n : ℕ) (g p c : List ℕ) (t x y : ℕ) → t < length c → x ≡ get_or p t 0 → y ≡ counts (row n g x) → CountsRows t n g p c → CountsRows (t + 1) n g p (set c t y)
unfolding CountsRows
rows_next n g p c t x y tl ex ey h s b = go (ℕ_discrete s t)
  where
    go : Dec (s ≡ t) → get_or (set c t y) s 0 ≡ counts (row n g (get_or p s 0))
    go (yes e) = rw e (get_or-set_same c t y 0 tl ∙ ey ∙ ap (λ (z : ℕ). counts (row n g z)) ex)
    go (no ne) = get_or-set_other c t s y 0 ne ∙ h s (omega arith)

-- ---- the first of the greatest numbers

pub greatest-one : (c : List ℕ) → FirstGreatest 1 c 0
greatest-one c = record {
  within = omega arith;
  before = λ s b. absurd (omega arith);
  greatest = λ s b. let e : s ≡ 0 = omega arith in rw e (omega arith);
}

module _ (t : ℕ) (c : List ℕ) (r : ℕ) (h : FirstGreatest t c r) where
  -- a number more, no greater than the one at a position
  no-greater : (a : ℕ) → get_or c r 0 ≤ get_or c a 0 → get_or c t 0 ≤ get_or c a 0 → (s : ℕ) → s < t + 1 → get_or c s 0 ≤ get_or c a 0
  no-greater a ra ta s b = go (ℕ_discrete s t)
    where
      go : Dec (s ≡ t) → get_or c s 0 ≤ get_or c a 0
      go (yes e) = rw e ta
      go (no ne) = omega (arith, h.greatest s (omega arith))

  pub greatest-next : get_or c r 0 < get_or c t 0 → FirstGreatest (t + 1) c t
  greatest-next lt = record {
    within = omega arith;
    before = λ s b. omega (arith, h.greatest s b);
    greatest = no-greater t (omega arith) (omega arith);
  }

  pub greatest-stays : get_or c t 0 ≤ get_or c r 0 → FirstGreatest (t + 1) c r
  greatest-stays le = record {
    within = omega (arith, h.within);
    before = h.before;
    greatest = no-greater r (omega arith) le;
  }

-- the same in a part of the numbers
pub greatest-part : (m : ℕ) (c : List ℕ) (r : ℕ) → m ≤ length c → FirstGreatest (length (take m c)) (take m c) r → FirstGreatest m c r
greatest-part m c r h f =
    let n = length-take-le m c h in
    let at : (s : ℕ) → s < m → get_or (take m c) s 0 ≡ get_or c s 0 = λ s b. get_or-take m c s 0 b in
    record {
      within = omega (arith, f.within);
      before = λ s b. omega (arith, f.before s b, f.within, at s (omega (arith, f.within)), at r (omega (arith, f.within)));
      greatest = λ s b. omega (arith, f.greatest s (omega arith), at s b, at r (omega (arith, f.within)));
    }

-- ---- marks

pub marks-none : (c : List ℕ) (r : ℕ) (marks : List Bool) → ((s : ℕ) → get_or marks s false ≡ false) → MarksLess c r marks
unfolding MarksLess
marks-none c r marks z s nz = absurd (true≢false (sym nz ∙ z s))

pub marks-next : (c : List ℕ) (r : ℕ) (marks : List Bool) (t : ℕ) → t < length marks → MarksLess c r marks → MarksLess c r (set marks t (ltb (get_or c t 0) (get_or c r 0)))
unfolding MarksLess
marks-next c r marks t tl h s yes-s = go (ℕ_discrete s t)
  where
    go : Dec (s ≡ t) → get_or c s 0 < get_or c r 0
    go (yes e) = rw e (ltb-true (get_or c t 0) (get_or c r 0) (sym (get_or-set_same marks t _ false tl) ∙ rw e at yes-s))
    go (no ne) = h s (rw (get_or-set_other marks t s _ false ne) at yes-s)
