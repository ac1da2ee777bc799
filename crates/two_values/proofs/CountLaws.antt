-- Laws of counts: how many numbers pass a test.
--
--   indicator-true, indicator-false, indicator-most  ==  the number of a test's answer: 1, 0, at most 1
--   count-zero, count_next   ==  no number below 0 passes; one number further
--   count-ext                ==  tests that agree have equal counts
--   count_most               ==  no more than all pass
--   count-wider, count_less  ==  a test that more numbers pass has no lesser count; a greater one where one number more passes
--   count-after              ==  where none passes up to j, at most those after j are counted
--   count-from               ==  where all pass from j on, at least those are counted
--   count_past, count-none-past  ==  the numbers past n all pass, or none does
use mathlib.Core.Path.{◌≡◌, refl, sym, ap, ◌∙◌}
use mathlib.Core.Bool.{Bool, true, false}
use mathlib.Core.Logic.{◌⊎◌, inl, inr}
use Prim.Native.Nat.{ℕ, zero, suc, ◌+◌, ◌-◌, ◌≤◌, ◌<◌}
use native.Mathlib.Nat.{not-suc-le-zero}
use native.Mathlib.Decide.{ℕ_discrete}
use native.Mathlib.Omega.{arith}
use Rattle.permutations.proofs.BoolLaws.{yes_or_no}
use Rattle.permutations.specs.Sums.{sum_to, indicator, count}

pub indicator-true : (b : Bool) → b ≡ true → indicator b ≡ 1
unfolding indicator
indicator-true b e = rw e

pub indicator-false : (b : Bool) → b ≡ false → indicator b ≡ 0
unfolding indicator
indicator-false b e = rw e

pub indicator-most : (b : Bool) → indicator b ≤ 1
unfolding indicator
indicator-most true = omega arith
indicator-most false = omega arith

indicator-wider : (b c : Bool) → (b ≡ true → c ≡ true) → indicator b ≤ indicator c
indicator-wider b c h = go (yes_or_no b)
  where
    go : (b ≡ true) ⊎ (b ≡ false) → indicator b ≤ indicator c
    go (inl e) = omega (arith, indicator-true b e, indicator-true c (h e))
    go (inr e) = omega (arith, indicator-false b e)

pub count-zero : (t : ℕ → Bool) → count 0 t ≡ 0
unfolding count sum_to
count-zero t = refl

pub count_next : (n : ℕ) (t : ℕ → Bool) → count (suc n) t ≡ count n t + indicator (t n)
unfolding count sum_to
count_next n t = refl

pub count-ext : (n : ℕ) (t u : ℕ → Bool) → ((i : ℕ) → i < n → t i ≡ u i) → count n t ≡ count n u
count-ext zero t u h = count-zero t ∙ sym (count-zero u)
count-ext (suc n) t u h =
    omega
    (arith, count_next n t, count_next n u, count-ext n t u (λ i b. h i (omega arith)), ap indicator (h n (omega arith)))

pub count_most : (n : ℕ) (t : ℕ → Bool) → count n t ≤ n
count_most zero t = omega (arith, count-zero t)
count_most (suc n) t = omega (arith, count_next n t, count_most n t, indicator-most (t n))

pub count-wider : (n : ℕ) (t u : ℕ → Bool) → ((i : ℕ) → i < n → t i ≡ true → u i ≡ true) → count n t ≤ count n u
count-wider zero t u h = omega (arith, count-zero t, count-zero u)
count-wider (suc n) t u h =
    omega
    (arith, count_next n t, count_next n u, count-wider n t u (λ i b. h i (omega arith)), indicator-wider (t n) (u n) (h n (omega arith)))

pub count_less : (n : ℕ) (t u : ℕ → Bool) → ((i : ℕ) → i < n → t i ≡ true → u i ≡ true) → (j : ℕ) → j < n → t j ≡ false → u j ≡ true → count n t < count n u
count_less zero t u h j b f g = absurd (not-suc-le-zero b)
count_less (suc n) t u h j b f g = go (λ c. count_less n t u (λ i d. h i (omega arith)) j c f g) (ℕ_discrete j n)
  where
    go : (j < n → count n t < count n u) → Dec (j ≡ n) → count (suc n) t < count (suc n) u
    go ih (yes e) =
        omega
        (arith, count_next n t, count_next n u, count-wider n t u (λ i d. h i (omega arith)), indicator-false (t n) (rw e at f), indicator-true (u n) (rw e at g))
    go ih (no ne) =
        omega
        (arith, count_next n t, count_next n u, ih (omega arith), indicator-wider (t n) (u n) (h n (omega arith)))

pub count_past : (n w : ℕ) (t : ℕ → Bool) → n ≤ w → ((i : ℕ) → n ≤ i → i < w → t i ≡ true) → count w t ≡ count n t + (w - n)
count_past n zero t h all = let e : n ≡ 0 = omega arith in rw e (omega arith)
count_past n (suc w) t h all = go (λ b. count_past n w t b (λ i c d. all i c (omega arith))) (ℕ_discrete n (suc w))
  where
    go : (n ≤ w → count w t ≡ count n t + (w - n)) → Dec (n ≡ suc w) → count (suc w) t ≡ count n t + (suc w - n)
    go ih (yes e) = rw e (omega arith)
    go ih (no ne) = omega (arith, ih (omega arith), count_next w t, indicator-true (t w) (all w (omega arith) (omega arith)))

pub count-none-past : (n w : ℕ) (t : ℕ → Bool) → n ≤ w → ((i : ℕ) → n ≤ i → i < w → t i ≡ false) → count w t ≡ count n t
count-none-past n zero t h none = let e : n ≡ 0 = omega arith in rw e
count-none-past n (suc w) t h none = go (λ b. count-none-past n w t b (λ i c d. none i c (omega arith))) (ℕ_discrete n (suc w))
  where
    go : (n ≤ w → count w t ≡ count n t) → Dec (n ≡ suc w) → count (suc w) t ≡ count n t
    go ih (yes e) = rw e
    go ih (no ne) = omega (arith, ih (omega arith), count_next w t, indicator-false (t w) (none w (omega arith) (omega arith)))

pub count-after : (n : ℕ) (t : ℕ → Bool) (j : ℕ) → j < n → ((i : ℕ) → i ≤ j → t i ≡ false) → count n t + j < n
count-after zero t j b none = absurd (not-suc-le-zero b)
count-after (suc n) t j b none = go (λ c. count-after n t j c none) (ℕ_discrete j n)
  where
    go : (j < n → count n t + j < n) → Dec (j ≡ n) → count (suc n) t + j < suc n
    go ih (yes e) =
        omega
        (arith, count_next n t, indicator-false (t n) (none n (omega arith)), count-zero t, count-none-past 0 n t (omega arith) (λ i c d. none i (omega arith)))
    go ih (no ne) = omega (arith, ih (omega arith), count_next n t, indicator-most (t n))

pub count-from : (n : ℕ) (t : ℕ → Bool) (j : ℕ) → j ≤ n → ((i : ℕ) → j ≤ i → i < n → t i ≡ true) → n ≤ count n t + j
count-from n t j b all = omega (arith, count_past j n t b all)
