-- In sorted cells, the one at i is at most v exactly if more than i cells are.
--
--   count-all, count_most  ==  all numbers pass; no more than all
--   sorted_more, sorted-fewer  ==  cells that ascend: if the one at i is at most v, more than i are; if not, i at most
--   at-most-counted        ==  the same of cells in any order, told of their sorted order
--   at-most-all            ==  where every cell is at most v, all are counted
--   block_at               ==  the same of a block
use mathlib.Core.Path.{◌≡◌, refl, ap}
use mathlib.Core.List.{List}
use mathlib.Core.Bool.{Bool, true, false}
use mathlib.Core.Logic.{◌↔◌}
use Prim.Native.Nat.{ℕ, zero, suc, ◌+◌, ◌≤◌, ◌<◌}
use native.Mathlib.Decide.{dec_le}
use native.Mathlib.Omega.{arith}
use lib.ListN.{get_or}
use lib.Dec.{leb}
use borrow.Author.Tests.{le-leb, lt-leb}
use Rattle.permutations.specs.Permutations.{IsPermutation}
use Rattle.permutations.specs.Sums.{sum_to, indicator, count}
use Rattle.permutations.proofs.SumLaws.{sum-longer, sum-none-past, count-permuted}
use Rattle.branches.specs.Sifting.{at_most, Ascends, SortedBlock}

indicator-le : (b : Bool) → indicator b ≤ 1
unfolding indicator
indicator-le true = omega arith
indicator-le false = omega arith

pub count-all : (n : ℕ) (t : ℕ → Bool) → ((i : ℕ) → i < n → t i ≡ true) → count n t ≡ n
unfolding count sum_to indicator
count-all zero t h = refl
count-all (suc n) t h = omega (arith, count-all n t (λ i b. h i (omega arith)), ap indicator (h n (omega arith)))

pub count_most : (n : ℕ) (t : ℕ → Bool) → count n t ≤ n
unfolding count sum_to
count_most zero t = omega arith
count_most (suc n) t = omega (arith, count_most n t, indicator-le (t n))

module _ (w : ℕ) (f : ℕ → ℕ) (up : Ascends w f) (i v : ℕ) (iw : i < w) where
  pub sorted_more : f i ≤ v → i < at_most w f v
  unfolding at_most Ascends count
  sorted_more h =
      omega
      (arith, count-all (suc i) (λ j. leb (f j) v) (λ j b. le-leb (f j) v (omega (arith, up j i (omega arith) iw))), sum-longer (suc i) w (λ j. indicator (leb (f j) v)) iw)

  pub sorted-fewer : v < f i → at_most w f v ≤ i
  unfolding at_most Ascends count indicator
  sorted-fewer h =
      omega
      (arith, sum-none-past i w (λ j. indicator (leb (f j) v)) (omega arith) (λ j a b. ap indicator (lt-leb (f j) v (omega (arith, up i j a b)))), count_most i (λ j. leb (f j) v))

  pub sorted-counted : (f i ≤ v) ↔ (i < at_most w f v)
  sorted-counted = (sorted_more, λ h. go h (dec_le (f i) v))
    where
      go : i < at_most w f v → Dec (f i ≤ v) → f i ≤ v
      go h (yes a) = a
      go h (no a) = absurd (omega (arith, sorted-fewer (omega arith)))

pub at-most-permuted : (w : ℕ) (c : ℕ → ℕ) (q : List ℕ) → IsPermutation w q → (v : ℕ) → at_most w c v ≡ at_most w (λ j. c (get_or q j 0)) v
unfolding at_most
at-most-permuted w c q o v = count-permuted w q o (λ j. leb (c j) v)

pub at-most-counted : (w : ℕ) (c : ℕ → ℕ) (q : List ℕ) → IsPermutation w q → Ascends w (λ j. c (get_or q j 0)) → (i v : ℕ) → i < w →
    (c (get_or q i 0) ≤ v) ↔ (i < at_most w c v)
at-most-counted w c q o up i v iw = rw (at-most-permuted w c q o v) (sorted-counted w (λ j. c (get_or q j 0)) up i v iw)

pub at-most-all : (w : ℕ) (c : ℕ → ℕ) (v : ℕ) → ((j : ℕ) → j < w → c j ≤ v) → at_most w c v ≡ w
unfolding at_most
at-most-all w c v h = count-all w (λ j. leb (c j) v) (λ j b. le-leb (c j) v (h j b))

pub block_at : (s w : ℕ) (c k : ℕ → ℕ) → SortedBlock s w c k → (i v : ℕ) → i < w → (k (s + i) ≤ v) ↔ (i < at_most w c v)
block_at s w c k b i v iw = rw (b.cells i iw) (at-most-counted w c b.order b.permutation b.ascends i v iw)
