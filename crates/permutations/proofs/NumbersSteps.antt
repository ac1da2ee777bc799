-- What the functions on permutations do to their arrays.
--
--   own-numbers                    ==  a list of own numbers is the identity
--   padded-none, padded-more, padded-end  ==  composing: a loop's start, its next position, and its end
--   Scattered                      ==  a list written at the numbers of another, for the positions so far
--   scattered-none, scattered-more, scattered-all  ==  inverting: a loop's start, its next position, and its end
--   listing-sound                  ==  a permutation: each number below n stands before position n
--   contained, not-contained       ==  what looking for a number among the first n says
--   entry-within                   ==  an entry of a permutation is below its size
--   composed-sound, composed-entry ==  the composition of sound arguments, and an entry of it
use mathlib.Core.Path.{◌≡◌, sym, ap, ◌∙◌}
use mathlib.Core.List.{List}
use mathlib.Core.Bool.{true, false, true≢false}
use Prim.Native.Nat.{ℕ, ◌+◌, ◌≤◌, ◌<◌, min}
use native.Mathlib.Decide.{ℕ_discrete}
use native.Mathlib.Omega.{arith}
use borrow.Author.Tests.{eq-eqb, eqb-true}
use Rattle.std.proofs.Common.{nat_eq}
use lib.ListN.{length, get_or, set, take, length-set, length-take}
use lib.Seq.{get_or-set_same, get_or-set_other, get_or-take, length-take-le}
use Rattle.permutations.specs.Permutations.{IsPermutation, identity, composed, position, inverse}
use Rattle.permutations.specs.Padded.{padded, Sound, is_sound, composed_padded}
use Rattle.permutations.proofs.PermutationLaws.{at-identity, at-composed, at-inverse, position-found, position-within}
use Rattle.permutations.proofs.PermutationTest.{listing-suffices}
use Rattle.permutations.proofs.PositionLaws.{position-holds}
use Rattle.permutations.proofs.PaddedLaws.{length-padded, padded-below, padded-from, padded-is, length-identity, composed_padded-is}

-- ---- a list filled position by position

pub padded-none : (width : ℕ) (p : List ℕ) → identity width ≡ padded width 0 p
padded-none width p =
    padded-is width 0 p (identity width) (length-identity width) (λ i h k. absurd (omega arith)) (λ i h k. at-identity width i h)

-- a list of own numbers
pub own-numbers : (width : ℕ) (l : List ℕ) → length l ≡ width → ((i : ℕ) → i < width → get_or l i 0 ≡ i) → l ≡ identity width
own-numbers width l e own =
    padded-is width 0 l l e (λ i h k. absurd (omega arith)) (λ i h k. own i h) ∙ sym (padded-none width l)

-- as a loop fills a list: position i is next
padded-next : (width : ℕ) (p : List ℕ) (i : ℕ) → i < width → set (padded width i p) i (get_or p i 0) ≡ padded width (i + 1) p
padded-next width p i h = padded-is width (i + 1) p next (length-set l i v ∙ size) below from
  where
    l : List ℕ
    l = padded width i p

    v : ℕ
    v = get_or p i 0

    next : List ℕ
    next = set l i v

    size : length l ≡ width
    size = length-padded width i p

    below : (k : ℕ) → k < width → k < i + 1 → get_or next k 0 ≡ get_or p k 0
    below k w b = go (ℕ_discrete k i)
      where
        go : Dec (k ≡ i) → get_or next k 0 ≡ get_or p k 0
        go (yes e) = rw e (get_or-set_same l i v 0 (omega (arith, size)))
        go (no ne) = get_or-set_other l i k v 0 ne ∙ padded-below width i p k w (omega arith)

    from : (k : ℕ) → k < width → i + 1 ≤ k → get_or next k 0 ≡ k
    from k w b = let ne : k ≡ i → ⊥ = omega arith in get_or-set_other l i k v 0 ne ∙ padded-from width i p k w (omega arith)

pub padded-more : (width : ℕ) (p l : List ℕ) (i v : ℕ) → i < width → l ≡ padded width i p → v ≡ get_or p i 0 → set l i v ≡ padded width (i + 1) p
padded-more width p l i v h e f = rw (e, f) (padded-next width p i h)

-- the loop ends at n or at the width
pub padded-end : (width i n : ℕ) (p l : List ℕ) → i ≤ n → min n width ≤ i → l ≡ padded width i p → l ≡ padded width n p
padded-end width i n p l a b e =
    e
    ∙ padded-is width n p (padded width i p) (length-padded width i p) (λ k h c. padded-below width i p k h (omega arith)) λ k h c.
    padded-from width i p k h (omega arith)

-- ---- a list written at the numbers of another

-- o holds i at the number that p holds at i, for the positions before k; from n on each position holds its own number
pub record Scattered (width n : ℕ) (p : List ℕ) (k : ℕ) (o : List ℕ) : Type 0 where
  pub size : length o ≡ width
  pub written : (i : ℕ) → i < k → get_or o (get_or p i 0) 0 ≡ i
  pub own : (i : ℕ) → n ≤ i → i < width → get_or o i 0 ≡ i

pub entry-within : (n : ℕ) (p : List ℕ) → IsPermutation n (take n p) → (i : ℕ) → i < n → get_or p i 0 < n
entry-within n p o i h = rw (← get_or-take n p i 0 h) (o.within i h)

module _ (width n : ℕ) (p : List ℕ) (fits : n ≤ width) (o : IsPermutation n (take n p)) where
  pub scattered-none : Scattered width n p 0 (identity width)
  scattered-none = record {
    size = length-identity width;
    written = λ i h. absurd (omega arith);
    own = λ i h k. at-identity width i k;
  }

  pub scattered-more : (k : ℕ) (l : List ℕ) → k < n → Scattered width n p k l → Scattered width n p (k + 1) (set l (get_or p k 0) k)
  scattered-more k l h s = record { size = length-set l _ _ ∙ s.size; written = written; own = own }
    where
      at : ℕ
      at = get_or p k 0

      written : (i : ℕ) → i < k + 1 → get_or (set l at k) (get_or p i 0) 0 ≡ i
      written i b = go (ℕ_discrete i k)
        where
          go : Dec (i ≡ k) → get_or (set l at k) (get_or p i 0) 0 ≡ i
          go (yes e) = rw e (get_or-set_same l at k 0 (omega (arith, s.size, entry-within n p o k h)))
          go (no ne) = get_or-set_other l at (get_or p i 0) k 0 apart ∙ s.written i (omega arith)
            where
              apart : get_or p i 0 ≡ at → ⊥
              apart e = ne (o.once i k (omega arith) h (get_or-take n p i 0 (omega arith) ∙ e ∙ sym (get_or-take n p k 0 h)))

      own : (i : ℕ) → n ≤ i → i < width → get_or (set l at k) i 0 ≡ i
      own i b c = let ne : i ≡ at → ⊥ = omega (arith, entry-within n p o k h) in get_or-set_other l at i k 0 ne ∙ s.own i b c

  pub scattered-all : (k : ℕ) (l : List ℕ) → n ≤ k → Scattered width n p k l → l ≡ padded width n (inverse n (take n p))
  scattered-all k l a s = padded-is width n (inverse n (take n p)) l s.size below λ i h k. s.own i k h
    where
      below : (i : ℕ) → i < width → i < n → get_or l i 0 ≡ get_or (inverse n (take n p)) i 0
      below i h b =
          let at = position-within n (take n p) o i b in
          let there = sym (get_or-take n p (position (take n p) i) 0 at.0) ∙ at.1 in
          ap (λ (x : ℕ). get_or l x 0) (sym there) ∙ s.written (position (take n p) i) (omega (arith, at.0)) ∙ sym (at-inverse n (take n p) i b)

-- ---- the test

-- each number below n stands before position n: the test by first positions
pub listing-sound : (width n : ℕ) (p : List ℕ) → 1 ≤ n → n ≤ width → n ≤ length p → ((k : ℕ) → k < n → position (take n p) k < n) → Sound width n p
listing-sound width n p a b c stands =
    let l = length-take-le n p c in
    record {
      some = a;
      fits = b;
      permutation = listing-suffices n (take n p) l (position (take n p)) λ k h.
          (stands k h, position-holds (take n p) k (omega (arith, stands k h)));
    }

-- as the test looks for a number among the first n
pub contained : (n : ℕ) (p : List ℕ) (k : ℕ) → (i : ℕ) × (i < length (take n p)) × ((d : ℕ) → nat_eq (get_or (take n p) i d) k ≡ true) → position (take n p) k < n
contained n p k f =
    omega (arith, length-take n p, f.1, (position-found (take n p) k f.0 f.1 (eqb-true _ k (f.2 0))).0)

pub not-contained : (p : List ℕ) (k i : ℕ) → i < length p → get_or p i 0 ≡ k → ((j d : ℕ) → 0 ≤ j → j < length p → nat_eq (get_or p j d) k ≡ false) → ⊥
not-contained p k i h e none = true≢false (sym (eq-eqb _ k e) ∙ none i 0 (omega arith) h)

-- ---- composition and inverse

pub composed-sound : (width n : ℕ) (p : List ℕ) (k : ℕ) (r : List ℕ) → n ≡ k → is_sound width n p ≡ true → is_sound width k r ≡ true →
    composed_padded width n p k r ≡ padded width n (composed n (take n p) (take n r))
composed-sound width n p k r e s t = rw e (composed_padded-is width k p r (rw (← e) s) t)

pub composed-entry : (n : ℕ) (p r : List ℕ) (i : ℕ) → IsPermutation n (take n r) → i < n → get_or p (get_or r i 0) 0 ≡ get_or (composed n (take n p) (take n r)) i 0
composed-entry n p r i o h =
    sym
    (at-composed n (take n p) (take n r) i h
    ∙ get_or-take n p (get_or (take n r) i 0) 0 (o.within i h)
    ∙ ap (λ (x : ℕ). get_or p x 0) (get_or-take n r i 0 h))
