-- Laws of numbers to base 16: they are in the order of their digits.
--
--   number-ext     ==  equal digits give equal numbers
--   number-less    ==  of numbers whose first digits agree, the one with the lesser next digit is less
--   digits-order, digits-equal  ==  of two rows of cells up to 15, the lesser has the lesser number, and equal ones have equal numbers
use mathlib.Core.Path.{◌≡◌, refl, sym, ap, ap₂, ◌∙◌}
use mathlib.Core.List.{List}
use mathlib.Core.Logic.{◌⊎◌, inl, inr}
use Prim.Native.Nat.{ℕ, zero, suc, ◌+◌, ◌*◌, ◌≤◌, ◌<◌}
use native.Mathlib.Nat.{not-suc-le-zero}
use native.Mathlib.Decide.{ℕ_discrete}
use native.Mathlib.Omega.{arith}
use lib.ListN.{length, get_or}
use Rattle.permutations.specs.Lists.{tabulate}
use Rattle.permutations.proofs.ListLaws.{length-tabulate, at-tabulate}
use Rattle.grids.specs.Order.{rank, ◌≺◌, FirstUnequal}
use Rattle.grids.proofs.OrderLaws.{≼_refl, ≺-≼, first-unequal}
use Rattle.branches.specs.Keys.{level, number}
use Rattle.branches.proofs.LevelLaws.{Levelled, levelled, level-most}

pub number-ext : (n : ℕ) (f h : ℕ → ℕ) → ((j : ℕ) → j < n → f j ≡ h j) → number n f ≡ number n h
unfolding number
number-ext zero f h e = refl
number-ext (suc n) f h e = ap₂ (λ (x y : ℕ). 16 * x + y) (number-ext n f h (λ j jn. e j (omega arith))) (e n (omega arith))

pub number-less : (n : ℕ) (f h : ℕ → ℕ) → ((j : ℕ) → j < n → f j ≤ 15) → (i : ℕ) → i < n → ((j : ℕ) → j < i → f j ≡ h j) → f i < h i → number n f < number n h
unfolding number
number-less zero f h small i im same l = absurd (not-suc-le-zero im)
number-less (suc n) f h small i im same l = go (λ z. number-less n f h (λ j jn. small j (omega arith)) i z same l) (ℕ_discrete i n)
  where
    go : (i < n → number n f < number n h) → Dec (i ≡ n) → 16 * number n f + f n < 16 * number n h + h n
    go deeper (yes e) =
        let z : f n < h n = rw e at l in
        omega (arith, number-ext n f h (λ j jn. same j (omega arith)))
    go deeper (no ne) = omega (arith, small n (omega arith), deeper (omega arith))

-- two rows of cells up to 15
module _ (n : ℕ) (x y : ℕ → ℕ) (xs : (j : ℕ) → j < n → x j ≤ 15) (ys : (j : ℕ) → j < n → y j ≤ 15) where
  pub digits-order : tabulate 0 n x ≺ tabulate 0 n y → number n (λ j. level (x j)) < number n (λ j. level (y j))
  digits-order h = go ((first-unequal (tabulate 0 n x) (tabulate 0 n y) same_length).0 (≺-≼ (tabulate 0 n x) (tabulate 0 n y) h))
    where
      same_length : length (tabulate 0 n x) ≡ length (tabulate 0 n y)
      same_length = length-tabulate 0 n x ∙ sym (length-tabulate 0 n y)

      by : FirstUnequal (tabulate 0 n x) (tabulate 0 n y) → number n (λ j. level (x j)) < number n (λ j. level (y j))
      by f = number-less n (λ j. level (x j)) (λ j. level (y j)) (λ j jn. level-most (x j)) i im (λ j ji. ap level (agree j ji)) (lower (levelled (x i) (y i) (xs i im) (ys i im)))
        where
          i : ℕ
          i = f.index

          im : i < n
          im = rw (length-tabulate 0 n x) at f.inside

          agree : (j : ℕ) → j < i → x j ≡ y j
          agree j ji = sym (at-tabulate n x j 0 (omega (arith, im))) ∙ f.before j ji ∙ at-tabulate n y j 0 (omega (arith, im))

          ranks : rank (x i) < rank (y i)
          ranks = rw (at-tabulate n x i 0 im, at-tabulate n y i 0 im) at f.lower

          lower : Levelled (x i) (y i) → level (x i) < level (y i)
          lower (inl e) = absurd (omega (arith, ranks, ap rank e))
          lower (inr (inl l)) = l.1
          lower (inr (inr l)) = absurd (omega (arith, ranks, l.0))

      go : (tabulate 0 n x ≡ tabulate 0 n y) ⊎ FirstUnequal (tabulate 0 n x) (tabulate 0 n y) → number n (λ j. level (x j)) < number n (λ j. level (y j))
      go (inl e) = absurd (h (rw e (≼_refl (tabulate 0 n y))))
      go (inr f) = by f

  pub digits-equal : tabulate 0 n x ≡ tabulate 0 n y → number n (λ j. level (x j)) ≡ number n (λ j. level (y j))
  digits-equal e = number-ext n (λ j. level (x j)) (λ j. level (y j)) (λ j jn. ap level (sym (at-tabulate n x j 0 jn) ∙ ap (λ (l : List ℕ). get_or l j 0) e ∙ at-tabulate n y j 0 jn))
