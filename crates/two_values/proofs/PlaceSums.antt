-- Sums over the places of all columns: at most one column has none after it, at most two have one, and so on.
--
--   places-sum  ==  of numbers that rise with the places, the sum is at most that of columns that are all told apart
--   powers-fit  ==  so of the powers of 2
--   sum-distinct  ==  columns whose places add up to 120 all differ
use mathlib.Core.Path.{◌≡◌, refl, sym, ap, ◌∙◌}
use mathlib.Core.List.{List}
use Prim.Native.Nat.{ℕ, suc, ◌-◌, ◌^◌, ◌≤◌, ◌<◌}
use native.Mathlib.Decide.{dec_lt}
use native.Mathlib.Omega.{arith}
use lib.ListN.{get_or}
use lib.Pow.{pow_mono}
use Rattle.permutations.specs.Permutations.{IsPermutation}
use Rattle.permutations.proofs.PermutationLaws.{listed}
use Rattle.permutations.specs.Sums.{sum_to}
use Rattle.two_values.specs.TwoValues.{column_order}
use Rattle.two_values.specs.Tables.{PowersFit, Places}
use Rattle.two_values.specs.Search.{PlacesBy}
use Rattle.two_values.specs.Settled.{Distinct}
use Rattle.permutations.proofs.SumLaws.{sum-wider, sum-tail, sum-tight, sum-permuted}
use Rattle.two_values.proofs.SortedRows.{order-permutation, order-ascending}
use Rattle.two_values.proofs.RefinedLaws.{places-are}
use Rattle.two_values.proofs.KeyLaws.{places_is, after-room}

module _ (k n : ℕ) (g p a : List ℕ) (n16 : n ≤ 16) (by : PlacesBy k n g p a) where
  abbrev q : List ℕ
  q = column_order (suc k) n g p

  columns : IsPermutation n q
  columns = order-permutation (suc k) n g p

  places : Places n a
  places = places-are k n g p a n16 by.size by.holds

  -- the column at position i has at most 15 - i after it
  room : (i : ℕ) → i < n → get_or a (get_or q i 0) 0 ≤ 15 - i
  room i h =
      let c : get_or q i 0 < n = columns.within i h in
      omega
      (arith, by.holds (get_or q i 0) (omega arith), places_is k n g p (get_or q i 0) c, after-room k n g p q n16 columns (order-ascending (suc k) n g p) i h)

  pub places-sum : (h : ℕ → ℕ) → ((i j : ℕ) → i ≤ j → h i ≤ h j) → sum_to 16 (λ c. h (get_or a c 0)) ≤ sum_to 16 (λ i. h (15 - i))
  places-sum h rises =
      omega (
        arith,
        sum-tail n 16 (λ c. h (get_or a c 0)) (λ i. h (15 - i)) n16 (λ i ni iw. ap h (places.past i ni iw)),
        sum-permuted n q columns (λ c. h (get_or a c 0)),
        sum-wider n (λ i. h (get_or a (get_or q i 0) 0)) (λ i. h (15 - i)) (λ i b. rises (get_or a (get_or q i 0) 0) (15 - i) (room i b)),
      )

  -- the column at position i has 15 - i after it, where the places add up to 120
  full : sum_to 16 (λ c. get_or a c 0) ≡ 120 → (i : ℕ) → i < n → get_or a (get_or q i 0) 0 ≡ 15 - i
  unfolding sum_to
  full sum =
      let all : sum_to 16 (λ i. 15 - i) ≡ 120 = refl in
      sum-tight n (λ i. get_or a (get_or q i 0) 0) (λ i. 15 - i) room
      (omega (arith, sum, sum-tail n 16 (λ c. get_or a c 0) (λ i. 15 - i) n16 places.past, sum-permuted n q columns (λ c. get_or a c 0)))

  pub sum-distinct : sum_to 16 (λ c. get_or a c 0) ≡ 120 → Distinct a
  unfolding Distinct
  sum-distinct sum c d c16 d16 e = go (dec_lt c n) (dec_lt d n)
    where
      -- two columns of the order
      one : (i j : ℕ) → i < n → j < n → get_or q i 0 ≡ c → get_or q j 0 ≡ d → c ≡ d
      one i j b b' f f' =
          let x : get_or a c 0 ≡ 15 - i = rw f at (full sum i b) in
          let y : get_or a d 0 ≡ 15 - j = rw f' at (full sum j b') in
          let z : i ≡ j = omega arith in
          sym f ∙ ap (λ (t : ℕ). get_or q t 0) z ∙ f'

      go : Dec (c < n) → Dec (d < n) → c ≡ d
      go (yes cn) (yes dn) = let u = listed n q columns c cn in let v = listed n q columns d dn in one u.0 v.0 u.1 v.1 u.2 v.2
      go (yes cn) (no dn) = absurd (omega (arith, places.before c cn, places.past d (omega arith) d16))
      go (no cn) (yes dn) = absurd (omega (arith, places.before d dn, places.past c (omega arith) c16))
      go (no cn) (no dn) = omega (arith, places.past c (omega arith) c16, places.past d (omega arith) d16)

  pub powers-fit : PowersFit a
  unfolding PowersFit sum_to
  powers-fit = let all : sum_to 16 (λ i. 2 ^ (15 - i)) ≡ 65535 = refl in omega (arith, places-sum (λ j. 2 ^ j) (λ i j. pow_mono))
