-- The first position that holds a number.
--
--   position-at-most  ==  it is at most the length
--   position-holds    ==  where it is below the length, the number stands there
--   position-is       ==  an index before which the number does not stand, and at which it stands or the list ends
--   position-take     ==  the same among the first n numbers
use mathlib.Core.Path.{◌≡◌, sym, ◌∙◌}
use mathlib.Core.List.{List, [], ◌∷◌}
use Prim.Native.Nat.{ℕ, suc, ◌≤◌, ◌<◌}
use native.Mathlib.Nat.{not-suc-le-zero}
use native.Mathlib.Decide.{ℕ_discrete, dec_lt}
use native.Mathlib.Omega.{arith}
use lib.ListN.{length, get_or, take, length-take}
use lib.Seq.{get_or-take}
use Rattle.permutations.specs.Permutations.{position}
use Rattle.permutations.proofs.PermutationLaws.{position-hit, position-miss, position-found}

pub position-at-most : (p : List ℕ) (k : ℕ) → position p k ≤ length p
unfolding position
position-at-most [] k = omega arith
position-at-most (x ∷ p) k = go (position-at-most p k) (ℕ_discrete x k)
  where
    go : position p k ≤ length p → Dec (x ≡ k) → position (x ∷ p) k ≤ suc (length p)
    go ih (yes e) = rw (position-hit x k p e) (omega arith)
    go ih (no ne) = rw (position-miss x k p ne) (omega arith)

pub position-holds : (p : List ℕ) (k : ℕ) → position p k < length p → get_or p (position p k) 0 ≡ k
position-holds [] k h = absurd (not-suc-le-zero h)
position-holds (x ∷ p) k h = go (position-holds p k) (ℕ_discrete x k)
  where
    go : (position p k < length p → get_or p (position p k) 0 ≡ k) → Dec (x ≡ k) → get_or (x ∷ p) (position (x ∷ p) k) 0 ≡ k
    go ih (yes e) = rw (position-hit x k p e) e
    go ih (no ne) = let m = position-miss x k p ne in rw m (ih (omega arith))

pub position-is : (p : List ℕ) (k i : ℕ) → i ≤ length p → ((j : ℕ) → j < i → get_or p j 0 ≡ k → ⊥) → (i < length p → get_or p i 0 ≡ k) → position p k ≡ i
position-is p k i h before here = go (dec_lt i (length p))
  where
    early : position p k < i → ⊥
    early b = before (position p k) b (position-holds p k (omega arith))

    go : Dec (i < length p) → position p k ≡ i
    go (yes b) = omega (arith, early, (position-found p k i b (here b)).0)
    go (no b) = omega (arith, early, position-at-most p k)

-- the same among the first n numbers
pub position-take : (n : ℕ) (p : List ℕ) (k i : ℕ) → i ≤ n → i ≤ length p → ((j : ℕ) → j < i → get_or p j 0 ≡ k → ⊥) → (i < n → i < length p → get_or p i 0 ≡ k) → i ≡ position (take n p) k
position-take n p k i a b before here =
    let l = length-take n p in
    sym
    (position-is (take n p) k i (omega arith) (λ j c e. before j c (sym (get_or-take n p j 0 (omega arith)) ∙ e)) λ c.
    get_or-take n p i 0 (omega arith) ∙ here (omega arith) (omega arith))
