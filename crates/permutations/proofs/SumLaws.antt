-- Laws of sums.
--
--   sum-zero, sum-next       ==  the sum of no number; one number further
--   sum-ext                  ==  equal numbers have equal sums
--   sum-wider                ==  numbers that are no greater have no greater sum
--   sum-longer               ==  more numbers have no lesser sum
--   sum-tail                 ==  two sums of numbers that are equal from n on differ as those up to n do
--   sum-tight                ==  numbers that are no greater and have an equal sum are equal
--   sum-none-past            ==  the numbers past n are 0
--   sum-permuted, count-permuted  ==  numbers in another order have the same sum, and the same count
--   weighted-less            ==  of two sums of powers of 2, the one with less at the first position that differs is less
use mathlib.Core.Path.{◌≡◌, refl, sym, ap, ◌∙◌}
use mathlib.Core.List.{List}
use mathlib.Core.Bool.{Bool}
use Prim.Native.Nat.{ℕ, zero, suc, ◌+◌, ◌-◌, ◌*◌, ◌^◌, ◌≤◌, ◌<◌}
use native.Mathlib.Nat.{not-suc-le-zero, suc-mul, one-mul, mul-le-mul_right, two-pow-succ}
use native.Mathlib.Decide.{ℕ_discrete}
use native.Mathlib.Omega.{arith}
use lib.ListN.{get_or}
use lib.Pow.{pow_pos, pow_mono}
use Rattle.permutations.specs.Permutations.{IsPermutation}
use Rattle.permutations.proofs.PermutationLaws.{Within, Apart, onto}
use Rattle.permutations.specs.Sums.{sum_to, indicator, count}

pub sum-zero : (f : ℕ → ℕ) → sum_to 0 f ≡ 0
unfolding sum_to
sum-zero f = refl

pub sum-next : (n : ℕ) (f : ℕ → ℕ) → sum_to (suc n) f ≡ sum_to n f + f n
unfolding sum_to
sum-next n f = refl

pub sum-ext : (n : ℕ) (f g : ℕ → ℕ) → ((i : ℕ) → i < n → f i ≡ g i) → sum_to n f ≡ sum_to n g
sum-ext zero f g h = sum-zero f ∙ sym (sum-zero g)
sum-ext (suc n) f g h = omega (arith, sum-next n f, sum-next n g, sum-ext n f g (λ i b. h i (omega arith)), h n (omega arith))

pub sum-wider : (n : ℕ) (f g : ℕ → ℕ) → ((i : ℕ) → i < n → f i ≤ g i) → sum_to n f ≤ sum_to n g
sum-wider zero f g h = omega (arith, sum-zero f, sum-zero g)
sum-wider (suc n) f g h = omega (arith, sum-next n f, sum-next n g, sum-wider n f g (λ i b. h i (omega arith)), h n (omega arith))

pub sum-longer : (n w : ℕ) (f : ℕ → ℕ) → n ≤ w → sum_to n f ≤ sum_to w f
sum-longer n zero f h = let e : n ≡ 0 = omega arith in rw e (omega arith)
sum-longer n (suc w) f h = go (sum-longer n w f) (ℕ_discrete n (suc w))
  where
    go : (n ≤ w → sum_to n f ≤ sum_to w f) → Dec (n ≡ suc w) → sum_to n f ≤ sum_to (suc w) f
    go ih (yes e) = rw e (omega arith)
    go ih (no ne) = omega (arith, ih (omega arith), sum-next w f)

pub sum-tail : (n w : ℕ) (f g : ℕ → ℕ) → n ≤ w → ((i : ℕ) → n ≤ i → i < w → f i ≡ g i) → sum_to w f + sum_to n g ≡ sum_to w g + sum_to n f
sum-tail n zero f g h same = let e : n ≡ 0 = omega arith in rw e (omega (arith, sum-zero f, sum-zero g))
sum-tail n (suc w) f g h same = go (λ b. sum-tail n w f g b (λ i c d. same i c (omega arith))) (ℕ_discrete n (suc w))
  where
    go : (n ≤ w → sum_to w f + sum_to n g ≡ sum_to w g + sum_to n f) → Dec (n ≡ suc w) → sum_to (suc w) f + sum_to n g ≡ sum_to (suc w) g + sum_to n f
    go ih (yes e) = omega (arith, ap (λ (z : ℕ). sum_to z f) e, ap (λ (z : ℕ). sum_to z g) e)
    go ih (no ne) = omega (arith, ih (omega arith), sum-next w f, sum-next w g, same w (omega arith) (omega arith))

pub sum-tight : (n : ℕ) (f g : ℕ → ℕ) → ((i : ℕ) → i < n → f i ≤ g i) → sum_to n f ≡ sum_to n g → (i : ℕ) → i < n → f i ≡ g i
sum-tight zero f g h e i b = absurd (not-suc-le-zero b)
sum-tight (suc n) f g h e i b = go (λ z. sum-tight n f g below z i) (ℕ_discrete i n)
  where
    below : (j : ℕ) → j < n → f j ≤ g j
    below j c = h j (omega arith)

    first : sum_to n f ≤ sum_to n g
    first = sum-wider n f g below

    go : (sum_to n f ≡ sum_to n g → i < n → f i ≡ g i) → Dec (i ≡ n) → f i ≡ g i
    go ih (yes z) = rw z (omega (arith, first, sum-next n f, sum-next n g, h n (omega arith)))
    go ih (no nz) = ih (omega (arith, first, sum-next n f, sum-next n g, h n (omega arith))) (omega arith)

pub sum-none-past : (n w : ℕ) (f : ℕ → ℕ) → n ≤ w → ((i : ℕ) → n ≤ i → i < w → f i ≡ 0) → sum_to w f ≡ sum_to n f
sum-none-past n zero f h none = let e : n ≡ 0 = omega arith in rw e
sum-none-past n (suc w) f h none = go (λ b. sum-none-past n w f b (λ i c d. none i c (omega arith))) (ℕ_discrete n (suc w))
  where
    go : (n ≤ w → sum_to w f ≡ sum_to n f) → Dec (n ≡ suc w) → sum_to (suc w) f ≡ sum_to n f
    go ih (yes e) = rw e
    go ih (no ne) = omega (arith, ih (omega arith), sum-next w f, none w (omega arith) (omega arith))

-- ---- in another order

-- numbers that differ at one index
sum-other : (n : ℕ) (f g : ℕ → ℕ) (i : ℕ) → i < n → ((j : ℕ) → j < n → (j ≡ i → ⊥) → f j ≡ g j) → sum_to n f + g i ≡ sum_to n g + f i
sum-other zero f g i h same = absurd (not-suc-le-zero h)
sum-other (suc n) f g i h same = go (λ b. sum-other n f g i b (λ j c. same j (omega arith))) (ℕ_discrete i n)
  where
    go : (i < n → sum_to n f + g i ≡ sum_to n g + f i) → Dec (i ≡ n) → sum_to (suc n) f + g i ≡ sum_to (suc n) g + f i
    go ih (yes e) = omega (arith, sum-next n f, sum-next n g, sum-ext n f g (λ j b. same j (omega arith) (omega arith)), ap f e, ap g e)
    go ih (no ne) = omega (arith, sum-next n f, sum-next n g, ih (omega arith), same n (omega arith) (omega arith))

sum_through : (n : ℕ) (f h : ℕ → ℕ) → Within n h → Apart n h → sum_to n (λ j. f (h j)) ≡ sum_to n f
sum_through zero f h w a = sum-zero (λ j. f (h j)) ∙ sym (sum-zero f)
sum_through (suc n) f h w a = let r = onto (suc n) h w a n (omega arith) in go (sum_through n f) r.0 r.1 r.2
  where
    go : ((h : ℕ → ℕ) → Within n h → Apart n h → sum_to n (λ j. f (h j)) ≡ sum_to n f) → (i : ℕ) → i < suc n → h i ≡ n → sum_to (suc n) (λ j. f (h j)) ≡ sum_to (suc n) f
    go ih i b e = omega (arith, sum-next n (λ j. f (h j)), sum-next n f, ih to within apart, exchanged (ℕ_discrete i n))
      where
        -- h with its number at n put where n stood
        move : (j : ℕ) → Dec (j ≡ i) → ℕ
        move j (yes y) = h n
        move j (no y) = h j

        to : ℕ → ℕ
        to j = move j (ℕ_discrete j i)

        within : Within n to
        within j jn = pick (ℕ_discrete j i)
          where
            pick : (d : Dec (j ≡ i)) → move j d < n
            pick (yes y) = let ne : h n ≡ n → ⊥ = λ z. let o : n ≡ i = a n i (omega arith) b (z ∙ sym e) in omega arith in omega (arith, w n (omega arith))
            pick (no y) = let ne : h j ≡ n → ⊥ = λ z. y (a j i (omega arith) b (z ∙ sym e)) in omega (arith, w j (omega arith))

        apart : Apart n to
        apart j k jn kn = pick (ℕ_discrete j i) (ℕ_discrete k i)
          where
            pick : (d : Dec (j ≡ i)) (q : Dec (k ≡ i)) → move j d ≡ move k q → j ≡ k
            pick (yes y) (yes z) o = y ∙ sym z
            pick (yes y) (no z) o = let x : n ≡ k = a n k (omega arith) (omega arith) o in absurd (omega arith)
            pick (no y) (yes z) o = let x : j ≡ n = a j n (omega arith) (omega arith) o in absurd (omega arith)
            pick (no y) (no z) o = a j k (omega arith) (omega arith) o

        move-no : (j : ℕ) → (j ≡ i → ⊥) → h j ≡ to j
        move-no j ne = pick (ℕ_discrete j i)
          where
            pick : (d : Dec (j ≡ i)) → h j ≡ move j d
            pick (yes y) = absurd (ne y)
            pick (no y) = refl

        move-yes : h n ≡ to i
        move-yes = pick (ℕ_discrete i i)
          where
            pick : (d : Dec (i ≡ i)) → h n ≡ move i d
            pick (yes y) = refl
            pick (no y) = absurd (y refl)

        exchanged : Dec (i ≡ n) → sum_to n (λ j. f (h j)) + f (h n) ≡ sum_to n (λ j. f (to j)) + f n
        exchanged (yes y) = omega (arith, sum-ext n (λ j. f (h j)) (λ j. f (to j)) (λ j jn. ap f (move-no j (omega arith))), ap f (sym (ap h y) ∙ e))
        exchanged (no y) =
            omega
            (arith, sum-other n (λ j. f (h j)) (λ j. f (to j)) i (omega arith) (λ j jn ne. ap f (move-no j ne)), ap f move-yes, ap f e)

pub sum-permuted : (n : ℕ) (q : List ℕ) → IsPermutation n q → (f : ℕ → ℕ) → sum_to n f ≡ sum_to n (λ j. f (get_or q j 0))
sum-permuted n q o f = sym (sum_through n f (λ j. get_or q j 0) o.within o.once)

pub count-permuted : (n : ℕ) (q : List ℕ) → IsPermutation n q → (t : ℕ → Bool) → count n t ≡ count n (λ j. t (get_or q j 0))
unfolding count
count-permuted n q o t = sum-permuted n q o (λ i. indicator (t i))

-- ---- sums of powers of 2

-- a power no more than once
once-most : (u a x : ℕ) → u ≤ 1 → a ≤ x → u * 2 ^ a ≤ 2 ^ x
once-most u a x h b = omega (arith, mul-le-mul_right (2 ^ a) h, one-mul (2 ^ a), pow_mono b)

once-less : (u v a : ℕ) → u < v → u * 2 ^ a + 2 ^ a ≤ v * 2 ^ a
once-less u v a h = omega (arith, mul-le-mul_right (2 ^ a) h, suc-mul u (2 ^ a))

module _ (n : ℕ) (w u v : ℕ → ℕ) (fits : n ≤ 16) (room : (i : ℕ) → i < n → w i + i ≤ 15) (bits : (i : ℕ) → i < n → u i ≤ 1) (j : ℕ) (jn : j < n)
    (before : (i : ℕ) → i < j → u i ≡ v i) (lower : u j < v j) (block : (i : ℕ) → j < i → i < n → w i ≡ w j → u i ≤ v i)
    (others : (i : ℕ) → j < i → i < n → (w i ≡ w j → ⊥) → 16 ≤ w j + i) where
  abbrev left : ℕ → ℕ
  left i = u i * 2 ^ w i

  abbrev right : ℕ → ℕ
  right i = v i * 2 ^ w i

  -- up to any position past j the second sum stays ahead, by every power that the rest cannot make up for
  ahead : (e : ℕ) → j < e → e ≤ n → (x : ℕ) → x ≤ w j → x + e ≤ 16 → sum_to e left + 2 ^ x ≤ sum_to e right
  ahead zero je en x xw xe = absurd (not-suc-le-zero je)
  ahead (suc e) je en x xw xe = go (ahead e) (ℕ_discrete j e) (ℕ_discrete (w e) (w j))
    where
      go : (j < e → e ≤ n → (x : ℕ) → x ≤ w j → x + e ≤ 16 → sum_to e left + 2 ^ x ≤ sum_to e right) → Dec (j ≡ e) → Dec (w e ≡ w j) → sum_to (suc e) left + 2 ^ x ≤ sum_to (suc e) right
      go ih (yes z) d =
          rw (← z)
          (omega (arith, sum-next j left, sum-next j right, sum-ext j left right (λ i b. ap (λ (s : ℕ). s * 2 ^ w i) (before i b)), once-less (u j) (v j) (w j) lower, pow_mono xw))
      go ih (no nz) (yes z) =
          omega
          (arith, sum-next e left, sum-next e right, ih (omega arith) (omega arith) x xw (omega arith), mul-le-mul_right (2 ^ w e) (block e (omega arith) (omega arith) z))
      go ih (no nz) (no ne) =
          let far : 16 ≤ w j + e = others e (omega arith) (omega arith) ne in
          let s : 16 - e ≡ suc (15 - e) = omega arith in
          let d : 2 ^ (16 - e) ≡ 2 ^ (15 - e) + 2 ^ (15 - e) = ap (λ (y : ℕ). 2 ^ y) s ∙ two-pow-succ (15 - e) in
          let a : x ≤ 15 - e = omega arith in
          let b : w e ≤ 15 - e = omega (arith, room e (omega arith)) in
          omega
          (arith, sum-next e left, sum-next e right, ih (omega arith) (omega arith) (16 - e) (omega arith) (omega arith), once-most (u e) (w e) (15 - e) (bits e (omega arith)) b, pow_mono a)

  pub weighted-less : sum_to n (λ i. u i * 2 ^ w i) < sum_to n (λ i. v i * 2 ^ w i)
  weighted-less = omega (arith, ahead n jn (omega arith) 0 (omega arith) (omega arith), pow_pos 0)
