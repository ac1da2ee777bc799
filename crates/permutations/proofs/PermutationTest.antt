-- The test of being a permutation, and the list of all permutations.
--
--   permutation-passes, passes-permutation  ==  the test decides it
--   decides                                 ==  the two together
--   listing-suffices                        ==  n entries that list every number below n are a permutation
--   permutation-listed, listed-permutation  ==  `permutations n` lists the permutations of size n and nothing else
use mathlib.Core.Path.{◌≡◌, refl, sym, ap, ◌∙◌}
use mathlib.Core.List.Memᴰ
use mathlib.Core.List.{List, [], ◌∷◌, map, Memᴰ}
use mathlib.Core.Bool.{true}
use mathlib.Core.Logic.{◌↔◌}
use Prim.Native.Nat.{ℕ, zero, suc, ◌<◌}
use native.Mathlib.Omega.{arith}
use borrow.Author.Tests.{eq-eqb, eqb-true}
use lib.ListN.{length, get_or}
use lib.Dec.{eqb}
use Rattle.permutations.specs.Lists.{numbers, every, occurrences}
use Rattle.permutations.specs.Permutations.{IsPermutation, is_permutation, position, words, permutations}
use Rattle.permutations.proofs.BoolLaws.{and_yes, yes_and}
use Rattle.permutations.proofs.ListLaws.{in-flat_map, in-numbers, every-number, number-every}
use Rattle.permutations.proofs.SelectLaws.{in-select, of-select, occurs-at, once-occurs}
use Rattle.permutations.proofs.PermutationLaws.{onto, listed, position-found}

-- n entries among which every number below n stands: then each stands once, and nothing else does
pub listing-suffices : (n : ℕ) (p : List ℕ) → length p ≡ n → (at : ℕ → ℕ) → ((k : ℕ) → k < n → (at k < n) × (get_or p (at k) 0 ≡ k)) → IsPermutation n p
listing-suffices n p e at stands = record {
  size = e;
  within = λ i h. let r = held i h in rw r.2 r.1;
  once = λ i j h k q. let r = held i h in let s = held j k in sym r.3 ∙ ap at (sym r.2 ∙ q ∙ s.2) ∙ s.3;
}
  where
    held : (i : ℕ) → i < n → (k : ℕ) × (k < n) × (get_or p i 0 ≡ k) × (at k ≡ i)
    held i h =
        let r = onto n at (λ k b. (stands k b).0) (λ k j b c q. sym (stands k b).1 ∙ ap (λ (x : ℕ). get_or p x 0) q ∙ (stands j c).1) i h in
        (r.0, r.1, ap (λ (x : ℕ). get_or p x 0) (sym r.2) ∙ (stands r.0 r.1).1, r.2)

pub passes-permutation : (n : ℕ) (p : List ℕ) → is_permutation n p ≡ true → IsPermutation n p
unfolding is_permutation
passes-permutation n p t = listing-suffices n p e (position p) stands
  where
    parts : (eqb (length p) n ≡ true) × (every (λ k. eqb (occurrences k p) 1) (numbers n) ≡ true)
    parts = and_yes (eqb (length p) n) _ t

    e : length p ≡ n
    e = eqb-true (length p) n parts.0

    found : (k : ℕ) → k < n → (i : ℕ) × (i < length p) × (get_or p i 0 ≡ k)
    found k b = occurs-at k p (omega (arith, eqb-true (occurrences k p) 1 (every-number (λ k. eqb (occurrences k p) 1) n parts.1 k b)))

    stands : (k : ℕ) → k < n → (position p k < n) × (get_or p (position p k) 0 ≡ k)
    stands k b =
        let r = found k b in
        let f = position-found p k r.0 r.1 r.2 in
        (omega (arith, e, f.0, r.1), f.1)

pub permutation-passes : (n : ℕ) (p : List ℕ) → IsPermutation n p → is_permutation n p ≡ true
unfolding is_permutation
permutation-passes n p o =
    yes_and (eqb (length p) n) _ (eq-eqb (length p) n o.size)
    (number-every (λ k. eqb (occurrences k p) 1) n λ k b.
    let r = listed n p o k b in
    let l = o.size in
    eq-eqb (occurrences k p) 1 (once-occurs k p r.0 (omega (arith, r.1)) r.2 (λ j c q. o.once j r.0 (omega arith) r.1 (q ∙ sym r.2))))

pub decides : (n : ℕ) (p : List ℕ) → (is_permutation n p ≡ true) ↔ IsPermutation n p
decides n p = (passes-permutation n p, permutation-passes n p)

-- ---- all permutations

in_words : (n k : ℕ) (p : List ℕ) → length p ≡ k → ((i : ℕ) → i < length p → get_or p i 0 < n) → Memᴰ p (words n k)
unfolding words
in_words n zero [] e h = Memᴰ.head refl
in_words n zero (x ∷ p) e h = absurd (omega arith)
in_words n (suc k) [] e h = absurd (omega arith)
in_words n (suc k) (x ∷ p) e h =
    in-flat_map (λ y. map (λ w. y ∷ w) (words n k)) x (x ∷ p) (numbers n) (in-numbers n x (h 0 (omega arith)))
    (Memᴰ.map (λ (w : List ℕ). x ∷ w) (in_words n k p (omega arith) (λ i b. h (suc i) (omega arith))))

pub permutation-listed : (n : ℕ) (p : List ℕ) → IsPermutation n p → Memᴰ p (permutations n)
unfolding permutations
permutation-listed n p o =
    let l = o.size in
    in-select (is_permutation n) p (words n n) (in_words n n p l (λ i h. o.within i (omega arith))) (permutation-passes n p o)

pub listed-permutation : (n : ℕ) (p : List ℕ) → Memᴰ p (permutations n) → IsPermutation n p
unfolding permutations
listed-permutation n p h = passes-permutation n p (of-select (is_permutation n) p (words n n) h).1
