-- Sums over the places of all columns: at most one column has none after it, at most two have one, and so on.
--
--   places-sum  ==  of numbers that rise with the places, the sum is at most that of columns that are all told apart
--   powers-fit  ==  so of the powers of 2
use mathlib.Core.Path.{◌≡◌, refl, ap}
use mathlib.Core.List.{List}
use Prim.Native.Nat.{ℕ, ◌-◌, ◌^◌, ◌≤◌, ◌<◌}
use native.Mathlib.Omega.{arith}
use lib.ListN.{get_or}
use lib.Pow.{pow_mono}
use Rattle.permutations.specs.Permutations.{IsPermutation}
use Rattle.permutations.specs.Sums.{sum_to}
use Rattle.branches.specs.SortedRows.{column_order}
use Rattle.branches.specs.SortedRows.{PlacesBy, Places}
use Rattle.permutations.proofs.SumLaws.{sum-wider, sum-tail, sum-permuted}
use Rattle.branches.proofs.SortedRows.{order-permutation, order-ascending}
use Rattle.branches.proofs.RefinedLaws.{places-are}
use Rattle.branches.proofs.KeyLaws.{places_is, after-room}

module _ (k n : ℕ) (g p a : List ℕ) (n16 : n ≤ 16) (by : PlacesBy k n g p a) where
  abbrev q : List ℕ
  q = column_order k n g p

  columns : IsPermutation n q
  columns = order-permutation k n g p

  places : Places n a
  places = places-are k n g p a n16 by.size by.holds

  -- the column at position i has at most 15 - i after it
  room : (i : ℕ) → i < n → get_or a (get_or q i 0) 0 ≤ 15 - i
  room i h =
      let c : get_or q i 0 < n = columns.within i h in
      omega
      (arith, by.holds (get_or q i 0) (omega arith), places_is k n g p (get_or q i 0) c, after-room k n g p q n16 columns (order-ascending k n g p) i h)

  pub places-sum : (h : ℕ → ℕ) → ((i j : ℕ) → i ≤ j → h i ≤ h j) → sum_to 16 (λ c. h (get_or a c 0)) ≤ sum_to 16 (λ i. h (15 - i))
  places-sum h rises =
      omega (
        arith,
        sum-tail n 16 (λ c. h (get_or a c 0)) (λ i. h (15 - i)) n16 (λ i ni iw. ap h (places.past i ni iw)),
        sum-permuted n q columns (λ c. h (get_or a c 0)),
        sum-wider n (λ i. h (get_or a (get_or q i 0) 0)) (λ i. h (15 - i)) (λ i b. rises (get_or a (get_or q i 0) 0) (15 - i) (room i b)),
      )

  pub powers-fit : sum_to 16 (λ c. 2 ^ get_or a c 0) < 65536
  unfolding sum_to
  powers-fit = let all : sum_to 16 (λ i. 2 ^ (15 - i)) ≡ 65535 = refl in omega (arith, places-sum (λ j. 2 ^ j) (λ i j. pow_mono))
