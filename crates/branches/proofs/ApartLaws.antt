-- Where the rows placed tell as many pairs of columns apart as all rows do, further rows change nothing about the columns.
--
--   places-rise    ==  a column has no fewer columns after it, by more rows
--   apart-all      ==  all rows tell the same number of pairs apart, in whichever order they are placed
--   apart-settled  ==  rows that tell as many apart as all rows do have told what there is to tell: whichever rows come next, each column has the same number after it
--   apart-is       ==  all rows placed: the sum is the number of pairs that are told apart
use mathlib.Core.Path.{◌≡◌, refl, sym, ap, ◌∙◌}
use mathlib.Core.List.{List}
use mathlib.Core.Bool.{true, false}
use mathlib.Core.Logic.{◌⊎◌, inl, inr}
use Prim.Native.Nat.{ℕ, zero, suc, ◌+◌, ◌-◌, ◌≤◌, ◌<◌}
use native.Mathlib.Decide.{dec_lt}
use native.Mathlib.Omega.{arith}
use lib.ListN.{get_or}
use Rattle.permutations.specs.Lists.{tabulate}
use Rattle.permutations.specs.Permutations.{IsPermutation, identity}
use Rattle.permutations.specs.Sums.{sum_to, indicator, count}
use Rattle.permutations.proofs.BoolLaws.{refuted}
use Rattle.permutations.proofs.ListLaws.{length-tabulate, at-tabulate, tabulate-ext}
use Rattle.permutations.proofs.PermutationLaws.{listed, identity-permutation}
use Rattle.permutations.proofs.SumLaws.{sum-ext, sum-wider, sum-tail, sum-tight}
use Rattle.grids.specs.Order.{◌≼◌, ◌≺◌, less}
use Rattle.grids.specs.Grids.{cell}
use Rattle.grids.specs.Sorted.{permuted_column}
use Rattle.grids.proofs.OrderLaws.{≼_refl, ≼-antisymm, ≼-dec, ≼-prefix, ≺-≼, less-decides}
use Rattle.branches.specs.Branches.{Begins}
use Rattle.branches.specs.SortedRows.{places_after, PlacesBy, pairs_apart, IsApart}
use Rattle.branches.proofs.CountLaws.{count-wider}
use Rattle.branches.proofs.RefinedLaws.{places-in, places-out, places-agree}
use Rattle.branches.proofs.PlaceSums.{places-sum}

-- ---- sums of sums

sum-add : (n : ℕ) (f h : ℕ → ℕ) → sum_to n (λ i. f i + h i) ≡ sum_to n f + sum_to n h
unfolding sum_to
sum-add zero f h = refl
sum-add (suc n) f h = omega (arith, sum-add n f h)

sum-none : (n : ℕ) → sum_to n (λ i. 0) ≡ 0
unfolding sum_to
sum-none zero = refl
sum-none (suc n) = omega (arith, sum-none n)

sum-swap : (m n : ℕ) (f : ℕ → ℕ → ℕ) → sum_to m (λ i. sum_to n (λ j. f i j)) ≡ sum_to n (λ j. sum_to m (λ i. f i j))
unfolding sum_to
sum-swap zero n f = sym (sum-none n)
sum-swap (suc m) n f = ap (λ (x : ℕ). x + sum_to n (λ j. f m j)) (sum-swap m n f) ∙ sym (sum-add n (λ j. sum_to m (λ i. f i j)) (λ j. f m j))

-- ---- a pair of columns

less-yes : (a b : List ℕ) → a ≺ b → less a b ≡ true
less-yes a b h = (less-decides a b).1 h

less-no : (a b : List ℕ) → b ≼ a → less a b ≡ false
less-no a b h = refuted (less a b) (less-decides a b) (λ l. l h)

-- 1 where two columns are told apart, and 0 elsewhere
abbrev told : List ℕ → List ℕ → ℕ
told a b = indicator (less a b) + indicator (less b a)

told_same : (a b : List ℕ) → a ≡ b → told a b ≡ 0
unfolding indicator
told_same a b e = rw (e, less-no b b (≼_refl b))

told-apart : (a b : List ℕ) → (a ≡ b → ⊥) → told a b ≡ 1
unfolding indicator
told-apart a b ne = go (≼-dec a b) (≼-dec b a)
  where
    go : Dec (a ≼ b) → Dec (b ≼ a) → told a b ≡ 1
    go (yes x) (yes y) = absurd (ne (≼-antisymm a b x y))
    go (no x) d = rw (less-no a b (≺-≼ b a x), less-yes b a x)
    go (yes x) (no y) = rw (less-yes a b y, less-no b a (≺-≼ a b y))

-- ---- all rows, in two orders

module _ (m n : ℕ) (g p p' : List ℕ) (o : IsPermutation m p) (o' : IsPermutation m p') where
  same-under : (c d : ℕ) → permuted_column m n g p c ≡ permuted_column m n g p d → permuted_column m n g p' c ≡ permuted_column m n g p' d
  unfolding permuted_column
  same-under c d e = tabulate-ext 0 m _ _ (λ i im. row (get_or p' i 0) (o'.within i im))
    where
      at : (j : ℕ) → j < m → cell n g (get_or p j 0) c ≡ cell n g (get_or p j 0) d
      at j jm = sym (at-tabulate m (λ i. cell n g (get_or p i 0) c) j 0 jm) ∙ ap (λ (l : List ℕ). get_or l j 0) e ∙ at-tabulate m (λ i. cell n g (get_or p i 0) d) j 0 jm

      row : (r : ℕ) → r < m → cell n g r c ≡ cell n g r d
      row r rm = let j = listed m p o r rm in rw j.2 at (at j.0 j.1)

module _ (m n : ℕ) (g p : List ℕ) where
  -- whether column d comes after c
  abbrev comes : ℕ → ℕ → ℕ
  comes c d = indicator (less (permuted_column m n g p c) (permuted_column m n g p d))

  abbrev pairs : ℕ
  pairs = sum_to n (λ c. sum_to n (λ d. comes c d))

  twice : pairs + pairs ≡ sum_to n (λ c. sum_to n (λ d. told (permuted_column m n g p c) (permuted_column m n g p d)))
  twice =
      ap (λ (x : ℕ). pairs + x) (sum-swap n n comes)
      ∙ sym (sum-add n (λ c. sum_to n (λ d. comes c d)) (λ c. sum_to n (λ d. comes d c)))
      ∙ sum-ext n _ _ (λ c cn. sym (sum-add n (λ d. comes c d) (λ d. comes d c)))

  places-pairs : sum_to n (λ c. places_after m n g p c) ≡ sum_to n (λ c. 16 - n) + pairs
  unfolding count
  places-pairs = sum-ext n _ _ (λ c cn. places-in m n g p c cn) ∙ sum-add n (λ c. 16 - n) (λ c. sum_to n (λ d. comes c d))

pub apart-all : (m n : ℕ) (g p p' : List ℕ) → n ≤ 16 → IsPermutation m p → IsPermutation m p' → sum_to 16 (λ c. places_after m n g p c) ≡ sum_to 16 (λ c. places_after m n g p' c)
apart-all m n g p p' n16 o o' =
    omega (
      arith,
      sum-tail n 16 (λ c. places_after m n g p c) (λ c. places_after m n g p' c) n16 (λ c nc c16. places-out m n g p c nc ∙ sym (places-out m n g p' c nc)),
      places-pairs m n g p,
      places-pairs m n g p',
      twice m n g p,
      twice m n g p',
      sum-ext n _ _ (λ c cn. sum-ext n _ _ (λ d dn. alike c d (≼-dec (P c) (P d)) (≼-dec (P d) (P c)))),
    )
  where
    P : ℕ → List ℕ
    P c = permuted_column m n g p c

    P' : ℕ → List ℕ
    P' c = permuted_column m n g p' c

    apart : (c d : ℕ) → (P c ≡ P d → ⊥) → told (P c) (P d) ≡ told (P' c) (P' d)
    apart c d ne = told-apart (P c) (P d) ne ∙ sym (told-apart (P' c) (P' d) (λ e. ne (same-under m n g p' p o' o c d e)))

    alike : (c d : ℕ) → Dec (P c ≼ P d) → Dec (P d ≼ P c) → told (P c) (P d) ≡ told (P' c) (P' d)
    alike c d (yes x) (yes y) =
        let e = ≼-antisymm (P c) (P d) x y in
        told_same (P c) (P d) e ∙ sym (told_same (P' c) (P' d) (same-under m n g p p' o o' c d e))
    alike c d (no x) w = apart c d (λ e. x (rw e (≼_refl (P d))))
    alike c d (yes x) (no y) = apart c d (λ e. y (rw e (≼_refl (P d))))

-- ---- more rows

-- what the first k rows tell apart stays so
apart-still : (k i n : ℕ) (g p : List ℕ) (c d : ℕ) → k ≤ i → permuted_column k n g p c ≺ permuted_column k n g p d → permuted_column i n g p c ≺ permuted_column i n g p d
unfolding permuted_column
apart-still k i n g p c d ki h l = h (≼-prefix i k (λ t. cell n g (get_or p t 0) d) (λ t. cell n g (get_or p t 0) c) ki l)

pub places-rise : (k i n : ℕ) (g p : List ℕ) (c : ℕ) → k ≤ i → places_after k n g p c ≤ places_after i n g p c
places-rise k i n g p c ki = go (dec_lt c n)
  where
    still : (d : ℕ) → less (permuted_column k n g p c) (permuted_column k n g p d) ≡ true → less (permuted_column i n g p c) (permuted_column i n g p d) ≡ true
    still d e = less-yes (permuted_column i n g p c) (permuted_column i n g p d) (apart-still k i n g p c d ki ((less-decides (permuted_column k n g p c) (permuted_column k n g p d)).0 e))

    go : Dec (c < n) → places_after k n g p c ≤ places_after i n g p c
    go (yes cn) =
        omega (
          arith,
          places-in k n g p c cn,
          places-in i n g p c cn,
          count-wider n (λ d. less (permuted_column k n g p c) (permuted_column k n g p d)) (λ d. less (permuted_column i n g p c) (permuted_column i n g p d)) (λ d dn e. still d e),
        )
    go (no cn) = omega (arith, places-out k n g p c (omega arith), places-out i n g p c (omega arith))

-- ---- settled

pub apart-is : (m n : ℕ) (g p a : List ℕ) → n ≤ 16 → IsPermutation m p → PlacesBy m n g p a → sum_to 16 (λ c. get_or a c 0) ≡ pairs_apart m n g
unfolding pairs_apart
apart-is m n g p a n16 o by = sum-ext 16 _ _ by.holds ∙ apart-all m n g p (identity m) n16 o (identity-permutation m)

pairs-as : (m n : ℕ) (g p : List ℕ) → n ≤ 16 → IsPermutation m p → pairs_apart m n g ≡ sum_to 16 (λ c. places_after m n g p c)
unfolding pairs_apart
pairs-as m n g p n16 o = apart-all m n g (identity m) p n16 (identity-permutation m) o

module _ (m k n : ℕ) (g p a : List ℕ) (n16 : n ≤ 16) (km : k ≤ m) (by : PlacesBy k n g p a) where
  -- an order of all rows that begins with those placed
  module _ (p' : List ℕ) (o : IsPermutation m p') (begins : Begins k p p') where
    at : (c : ℕ) → c < 16 → get_or a c 0 ≡ places_after k n g p' c
    unfolding Begins
    at c c16 = by.holds c c16 ∙ places-agree k n g p p' (λ i ik. sym (begins i ik)) c

    no_more : sum_to 16 (λ c. get_or a c 0) ≤ pairs_apart m n g
    unfolding pairs_apart
    no_more =
        omega (
          arith,
          sum-ext 16 _ _ at,
          sum-wider 16 (λ c. places_after k n g p' c) (λ c. places_after m n g p' c) (λ c c16. places-rise k m n g p' c km),
          apart-all m n g p' (identity m) n16 o (identity-permutation m),
        )

    full : pairs_apart m n g ≤ 120
    unfolding pairs_apart sum_to
    full =
        let all : sum_to 16 (λ i. 15 - i) ≡ 120 = refl in
        omega (
          arith,
          places-sum m n g (identity m) (tabulate 0 16 (λ c. places_after m n g (identity m) c)) n16 made (λ x. x) (λ i j h. h),
          sum-ext 16 (λ c. get_or (tabulate 0 16 (λ c. places_after m n g (identity m) c)) c 0) (λ c. places_after m n g (identity m) c) (λ c c16. at-tabulate 16 (λ c. places_after m n g (identity m) c) c 0 c16),
        )
      where
        made : PlacesBy m n g (identity m) (tabulate 0 16 (λ c. places_after m n g (identity m) c))
        made = record { size = length-tabulate 0 16 (λ c. places_after m n g (identity m) c); holds = λ c c16. at-tabulate 16 (λ c. places_after m n g (identity m) c) c 0 c16 }

    pub apart-settled : (x : ℕ) → IsApart m n g x → sum_to 16 (λ c. get_or a c 0) ≡ x → (i : ℕ) → k ≤ i → i ≤ m → PlacesBy i n g p' a
    unfolding IsApart
    apart-settled x apart e i ki im = record { size = by.size; holds = holds }
      where
        sum : (x ≡ 120) ⊎ (x ≡ pairs_apart m n g) → sum_to 16 (λ c. get_or a c 0) ≡ pairs_apart m n g
        sum (inl z) = omega (arith, e, no_more, full)
        sum (inr z) = e ∙ z

        totals : sum_to 16 (λ c. places_after k n g p' c) ≡ sum_to 16 (λ c. places_after m n g p' c)
        totals = sym (sum-ext 16 _ _ at) ∙ sum apart ∙ pairs-as m n g p' n16 o

        holds : (c : ℕ) → c < 16 → get_or a c 0 ≡ places_after i n g p' c
        holds c c16 =
            omega (
              arith,
              at c c16,
              sum-tight 16 (λ c. places_after k n g p' c) (λ c. places_after m n g p' c) (λ d d16. places-rise k m n g p' d km) totals c c16,
              places-rise k i n g p' c ki,
              places-rise i m n g p' c im,
            )
