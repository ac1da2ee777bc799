-- Permutations of every size: the pigeonhole principle, identity, composition and inverse.
--
--   Within n f, Apart n f                  ==  f stays below n; no two numbers below n become one
--   onto                                   ==  of n numbers below n, no two equal, each number below n is one
--   listed                                 ==  a permutation lists every number below its size
--   at-identity, at-composed, at-inverse, length-composed  ==  entries and length
--   position-hit, position-miss            ==  the position in a list by its first number
--   position-found, position-within, position_at  ==  a number that is listed stands at its position, and in a permutation nowhere else
--   identity-permutation, composed-permutation, inverse-permutation  ==  each is a permutation
--   composed-inverse, inverse-composed     ==  a permutation composed with its inverse, on either side, is the identity
--   through                                ==  any permutation is a given one followed by another
--   composed-assoc                         ==  composition is associative
--   identity-composed                      ==  the identity followed by a permutation is that permutation
use mathlib.Core.Path.{◌≡◌, sym, ap, ◌∙◌}
use mathlib.Core.List.{List, [], ◌∷◌}
use mathlib.Core.Logic.{◌⊎◌, inl, inr}
use Prim.Native.Nat.{ℕ, zero, suc, ◌-◌, ◌≤◌, ◌<◌, min}
use native.Mathlib.Nat.{not-suc-le-zero}
use native.Mathlib.Decide.{ℕ_discrete, dec_lt}
use native.Mathlib.Omega.{arith}
use borrow.Author.Tests.{eq-eqb, ne_eqb}
use lib.ListN.{length, get_or}
use Rattle.permutations.specs.Lists.{numbers}
use Rattle.permutations.specs.Permutations.{IsPermutation, identity, composed, position, inverse}
use Rattle.permutations.proofs.ListLaws.{length-tabulate, at-tabulate, tabulate-is, tabulate-ext, length-numbers, at-numbers}

-- ---- the pigeonhole principle

abbrev pub Within : ℕ → (ℕ → ℕ) → Type 0
Within n f = (i : ℕ) → i < n → f i < n

abbrev pub Apart : ℕ → (ℕ → ℕ) → Type 0
Apart n f = (i j : ℕ) → i < n → j < n → f i ≡ f j → i ≡ j

-- the numbers with v taken out, those above it moved down by one
abbrev squeeze : ℕ → ℕ → ℕ
squeeze v x = x - min 1 (x - v)

abbrev Squeezed : ℕ → ℕ → ℕ → Type 0
Squeezed v x s = ((x < v) × (s ≡ x)) ⊎ ((v < x) × (suc s ≡ x))

squeeze-cases : (v x : ℕ) → (x ≡ v → ⊥) → Squeezed v x (squeeze v x)
squeeze-cases v x ne = go (dec_lt x v)
  where
    go : Dec (x < v) → Squeezed v x (squeeze v x)
    go (yes b) = inl (b, omega arith)
    go (no b) = inr (omega arith, omega arith)

squeeze-apart : (v x y : ℕ) → (x ≡ v → ⊥) → (y ≡ v → ⊥) → squeeze v x ≡ squeeze v y → x ≡ y
squeeze-apart v x y nx ny e = go (squeeze v x) (squeeze v y) e (squeeze-cases v x nx) (squeeze-cases v y ny)
  where
    go : (a b : ℕ) → a ≡ b → Squeezed v x a → Squeezed v y b → x ≡ y
    go a b e (inl p) (inl q) = omega arith
    go a b e (inl p) (inr q) = omega arith
    go a b e (inr p) (inl q) = omega arith
    go a b e (inr p) (inr q) = omega arith

pub onto : (n : ℕ) (f : ℕ → ℕ) → Within n f → Apart n f → (k : ℕ) → k < n → (i : ℕ) × (i < n) × (f i ≡ k)
onto zero f w a k h = absurd (not-suc-le-zero h)
onto (suc m) f w a k h = go (onto m (λ i. squeeze (f m) (f i))) (ℕ_discrete (f m) k)
  where
    away : (i : ℕ) → i < m → f i ≡ f m → ⊥
    away i b e = let z : i ≡ m = a i m (omega arith) (omega arith) e in omega arith

    within : Within m (λ i. squeeze (f m) (f i))
    within i b = omega (arith, w i (omega arith), w m (omega arith), away i b)

    apart : Apart m (λ i. squeeze (f m) (f i))
    apart i j b c e = a i j (omega arith) (omega arith) (squeeze-apart (f m) (f i) (f j) (away i b) (away j c) e)

    go : (Within m (λ i. squeeze (f m) (f i)) → Apart m (λ i. squeeze (f m) (f i)) → (k : ℕ) → k < m → (i : ℕ) × (i < m) × (squeeze (f m) (f i) ≡ k)) →
        Dec (f m ≡ k) → (i : ℕ) × (i < suc m) × (f i ≡ k)
    go ih (yes e) = (m, omega arith, e)
    go ih (no ne) =
        let r = ih within apart (squeeze (f m) k) (omega (arith, w m (omega arith))) in
        (r.0, omega arith, squeeze-apart (f m) (f r.0) k (away r.0 r.1) (λ e. ne (sym e)) r.2)

pub listed : (n : ℕ) (p : List ℕ) → IsPermutation n p → (k : ℕ) → k < n → (i : ℕ) × (i < n) × (get_or p i 0 ≡ k)
listed n p o = onto n (λ i. get_or p i 0) o.within o.once

-- ---- entries

pub at-identity : (n i : ℕ) → i < n → get_or (identity n) i 0 ≡ i
unfolding identity
at-identity n i h = at-numbers n i h

pub at-composed : (n : ℕ) (p r : List ℕ) (i : ℕ) → i < n → get_or (composed n p r) i 0 ≡ get_or p (get_or r i 0) 0
unfolding composed
at-composed n p r i h = at-tabulate n (λ i. get_or p (get_or r i 0) 0) i 0 h

pub at-inverse : (n : ℕ) (p : List ℕ) (k : ℕ) → k < n → get_or (inverse n p) k 0 ≡ position p k
unfolding inverse
at-inverse n p k h = at-tabulate n (position p) k 0 h

pub position-hit : (x k : ℕ) (p : List ℕ) → x ≡ k → position (x ∷ p) k ≡ 0
unfolding position
position-hit x k p e = rw (eq-eqb x k e, position)

pub position-miss : (x k : ℕ) (p : List ℕ) → (x ≡ k → ⊥) → position (x ∷ p) k ≡ suc (position p k)
unfolding position
position-miss x k p ne = rw (ne_eqb x k ne, position)

-- a number that is listed stands at its position
pub position-found : (p : List ℕ) (k i : ℕ) → i < length p → get_or p i 0 ≡ k → (position p k ≤ i) × (get_or p (position p k) 0 ≡ k)
position-found [] k i h e = absurd (not-suc-le-zero h)
position-found (x ∷ p) k zero h e = rw (position-hit x k p e) (omega arith, e)
position-found (x ∷ p) k (suc i) h e = go (position-found p k i (omega arith) e) (ℕ_discrete x k)
  where
    go : (position p k ≤ i) × (get_or p (position p k) 0 ≡ k) → Dec (x ≡ k) → (position (x ∷ p) k ≤ suc i) × (get_or (x ∷ p) (position (x ∷ p) k) 0 ≡ k)
    go ih (yes d) = rw (position-hit x k p d) (omega arith, d)
    go ih (no nd) = rw (position-miss x k p nd) (omega arith, ih.1)

-- ---- the laws

pub identity-permutation : (n : ℕ) → IsPermutation n (identity n)
unfolding identity
identity-permutation n = record {
  size = length-numbers n;
  within = λ i h. rw (at-numbers n i h) h;
  once = λ i j h k e. sym (at-numbers n i h) ∙ e ∙ at-numbers n j k;
}

pub length-composed : (n : ℕ) (p r : List ℕ) → length (composed n p r) ≡ n
unfolding composed
length-composed n p r = length-tabulate 0 n _

pub composed-permutation : (n : ℕ) (p r : List ℕ) → IsPermutation n p → IsPermutation n r → IsPermutation n (composed n p r)
composed-permutation n p r op or = record {
  size = length-composed n p r;
  within = λ i h. rw (at-composed n p r i h) (op.within (get_or r i 0) (or.within i h));
  once = λ i j h k e. or.once i j h k (op.once (get_or r i 0) (get_or r j 0) (or.within i h) (or.within j k) (sym (at-composed n p r i h) ∙ e ∙ at-composed n p r j k));
}

pub composed-assoc : (n : ℕ) (p r s : List ℕ) → IsPermutation n s → composed n (composed n p r) s ≡ composed n p (composed n r s)
unfolding composed
composed-assoc n p r s o =
    tabulate-ext 0 n _ _ λ i h. at-composed n p r (get_or s i 0) (o.within i h) ∙ ap (λ (x : ℕ). get_or p x 0) (sym (at-composed n r s i h))

pub identity-composed : (n : ℕ) (p : List ℕ) → IsPermutation n p → composed n (identity n) p ≡ p
unfolding composed
identity-composed n p o = tabulate-is 0 p n _ o.size λ i h. sym (at-identity n (get_or p i 0) (o.within i h))

module _ (n : ℕ) (p : List ℕ) (o : IsPermutation n p) where
  -- where a permutation's number k stands
  pub position-within : (k : ℕ) → k < n → (position p k < n) × (get_or p (position p k) 0 ≡ k)
  position-within k h =
      let r = listed n p o k h in
      let f = position-found p k r.0 (omega (arith, o.size, r.1)) r.2 in
      (omega (arith, f.0, r.1), f.1)

  -- and that it stands nowhere else
  pub position_at : (i : ℕ) → i < n → position p (get_or p i 0) ≡ i
  position_at i h = let f = position-within (get_or p i 0) (o.within i h) in o.once (position p (get_or p i 0)) i f.0 h f.1

  pub inverse-permutation : IsPermutation n (inverse n p)
  unfolding inverse
  inverse-permutation = record {
    size = length-tabulate 0 n (position p);
    within = λ i h. rw (at-inverse n p i h) (position-within i h).0;
    once = λ i j h k e. sym (position-within i h).1 ∙ ap (λ (x : ℕ). get_or p x 0) (sym (at-inverse n p i h) ∙ e ∙ at-inverse n p j k) ∙ (position-within j k).1;
  }

  pub composed-inverse : composed n p (inverse n p) ≡ identity n
  unfolding composed identity numbers
  composed-inverse = tabulate-ext 0 n _ _ λ i h. rw (at-inverse n p i h) (position-within i h).1

  pub inverse-composed : composed n (inverse n p) p ≡ identity n
  unfolding composed identity numbers
  inverse-composed = tabulate-ext 0 n _ _ λ i h. at-inverse n p (get_or p i 0) (o.within i h) ∙ position_at i h

  -- r is p followed by a permutation
  pub through : (r : List ℕ) → IsPermutation n r → composed n p (composed n (inverse n p) r) ≡ r
  through r or = sym (composed-assoc n p (inverse n p) r or) ∙ rw composed-inverse (identity-composed n r or)
