-- Permutations as the code holds them, over the width: 8 for rows, 5 for a terminal's, 16 for columns.
--
--   length-padded, padded-below, padded-from  ==  length and entries of a padded list
--   padded-is                      ==  when a list is a padded list
--   length-identity, padded-identity  ==  the identity's length, and that it is its own padding
--   take-padded, take-identity     ==  at a narrower width
--   padded-own                     ==  the first n positions of n padded numbers are those numbers
--   sound, is_sound-yes, is_sound-no  ==  the test decides it
--   is_sound-padded, is_sound-identity  ==  a padded permutation and the identity pass
--   composed_padded-is, take-composed_padded, composed_padded-permutation  ==  of sound arguments: the composed permutation, padded
--   inverse_padded-is, take-inverse_padded  ==  of a sound argument: the inverse permutation, padded
--   composed_padded-no, composed_padded-sizes, composed_padded-first, composed_padded-second, inverse_padded-no  ==  of others: the identity
--   is_sound-inverse                ==  with a size of 1 to width the inverse passes the test, whatever the argument
use mathlib.Core.Path.{◌≡◌, refl, sym, ap, ◌∙◌}
use mathlib.Core.List.{List}
use mathlib.Core.Bool.{true, false, ◌&&◌, and-false}
use mathlib.Core.Logic.{⊎_elim}
use Prim.Native.Nat.{ℕ, ◌≤◌, ◌<◌}
use native.Mathlib.Decide.{dec_lt}
use native.Mathlib.Omega.{arith}
use borrow.Author.Tests.{lt-ltb, le-ltb, leb-true, le-leb, eq-eqb, ne_eqb}
use lib.ListN.{length, get_or, take}
use lib.Seq.{get_or-take, length-take-le}
use lib.Dec.{leb, ltb, eqb}
use Rattle.permutations.specs.Permutations.{IsPermutation, identity, composed, inverse}
use Rattle.permutations.specs.Padded.{padded, Sound, is_sound, composed_padded, inverse_padded}
use Rattle.permutations.proofs.BoolLaws.{and_yes, yes_and, yes_or_no}
use Rattle.permutations.proofs.ListLaws.{length-tabulate, at-tabulate, tabulate-is}
use Rattle.permutations.proofs.PermutationLaws.{at-identity, identity-permutation, composed-permutation, inverse-permutation}
use Rattle.permutations.proofs.PermutationTest.{passes-permutation, permutation-passes}

-- ---- padded lists

pub length-padded : (width n : ℕ) (p : List ℕ) → length (padded width n p) ≡ width
unfolding padded
length-padded width n p = length-tabulate 0 width _

pub padded-below : (width n : ℕ) (p : List ℕ) (i : ℕ) → i < width → i < n → get_or (padded width n p) i 0 ≡ get_or p i 0
unfolding padded
padded-below width n p i h k = at-tabulate width (λ i. elim (ltb i n) [ true ↦ get_or p i 0 | false ↦ i ]) i 0 h ∙ rw (lt-ltb i n k)

pub padded-from : (width n : ℕ) (p : List ℕ) (i : ℕ) → i < width → n ≤ i → get_or (padded width n p) i 0 ≡ i
unfolding padded
padded-from width n p i h k = at-tabulate width (λ i. elim (ltb i n) [ true ↦ get_or p i 0 | false ↦ i ]) i 0 h ∙ rw (le-ltb i n k)

-- a list is what it holds below n, and its own numbers from n on
pub padded-is : (width n : ℕ) (p l : List ℕ) → length l ≡ width → ((i : ℕ) → i < width → i < n → get_or l i 0 ≡ get_or p i 0) → ((i : ℕ) → i < width → n ≤ i → get_or l i 0 ≡ i) → l ≡ padded width n p
unfolding padded
padded-is width n p l e below from = sym (tabulate-is 0 l width _ e λ i h. go i h (dec_lt i n))
  where
    go : (i : ℕ) → i < width → Dec (i < n) → get_or l i 0 ≡ (elim (ltb i n) as (λ x. ℕ) [ true ↦ get_or p i 0 | false ↦ i ])
    go i h (yes k) = below i h k ∙ rw (lt-ltb i n k)
    go i h (no k) = from i h (omega arith) ∙ rw (le-ltb i n (omega arith))

pub length-identity : (n : ℕ) → length (identity n) ≡ n
length-identity n = (identity-permutation n).size

pub padded-identity : (width n : ℕ) → padded width n (identity n) ≡ identity width
padded-identity width n =
    sym
    (padded-is width n (identity n) (identity width) (length-identity width) (λ i h k. at-identity width i h ∙ sym (at-identity n i k)) λ i h k.
    at-identity width i h)

pub take-padded : (width w n : ℕ) (p : List ℕ) → width ≤ w → take width (padded w n p) ≡ padded width n p
take-padded width w n p a =
    let l = length-padded w n p in
    padded-is width n p (take width (padded w n p)) (length-take-le width (padded w n p) (omega arith))
    (λ i h k. get_or-take width (padded w n p) i 0 h ∙ padded-below w n p i (omega arith) k) λ i h k.
    get_or-take width (padded w n p) i 0 h ∙ padded-from w n p i (omega arith) k

pub take-identity : (width w : ℕ) → width ≤ w → take width (identity w) ≡ identity width
take-identity width w a =
    ap (take width) (sym (padded-identity w width)) ∙ take-padded width w width (identity width) a ∙ padded-identity width width

-- the first n positions of a padded list of n numbers are that list
pub padded-own : (width n : ℕ) (p : List ℕ) → n ≤ width → length p ≡ n → take n (padded width n p) ≡ p
padded-own width n p a e =
    take-padded n width n p a ∙ sym (padded-is n n p p e (λ i h k. refl) (λ i h k. absurd (omega arith)))

-- ---- the test

pub sound : (width n : ℕ) (p : List ℕ) → is_sound width n p ≡ true → Sound width n p
unfolding is_sound
sound width n p t =
    let a = and_yes (leb 1 n) _ t in
    let b = and_yes (leb n width) _ a.1 in
    record { some = leb-true 1 n a.0; fits = leb-true n width b.0; permutation = passes-permutation n (take n p) b.1 }

pub is_sound-yes : (width n : ℕ) (p : List ℕ) → Sound width n p → is_sound width n p ≡ true
unfolding is_sound
is_sound-yes width n p s =
    yes_and (leb 1 n) _ (le-leb 1 n s.some)
    (yes_and (leb n width) _ (le-leb n width s.fits) (permutation-passes n (take n p) s.permutation))

pub is_sound-no : (width n : ℕ) (p : List ℕ) → (Sound width n p → ⊥) → is_sound width n p ≡ false
is_sound-no width n p no-sound = ⊎_elim (λ t. absurd (no-sound (sound width n p t))) (λ t. t) (yes_or_no (is_sound width n p))

module _ (width n : ℕ) (a : 1 ≤ n) (b : n ≤ width) where
  pub is_sound-padded : (p : List ℕ) → IsPermutation n p → is_sound width n (padded width n p) ≡ true
  is_sound-padded p o =
      is_sound-yes width n (padded width n p) (record { some = a; fits = b; permutation = rw (padded-own width n p b o.size) o })

  pub is_sound-identity : is_sound width n (identity width) ≡ true
  is_sound-identity = rw (← padded-identity width n) (is_sound-padded (identity n) (identity-permutation n))

-- ---- composition and inverse of sound arguments

module _ (width n : ℕ) (p r : List ℕ) (tp : is_sound width n p ≡ true) (tr : is_sound width n r ≡ true) where
  pub composed_padded-is : composed_padded width n p n r ≡ padded width n (composed n (take n p) (take n r))
  unfolding composed_padded
  composed_padded-is =
      let t = yes_and (eqb n n) _ (eq-eqb n n refl) (yes_and (is_sound width n p) (is_sound width n r) tp tr) in
      rw (t, composed_padded)

  both : IsPermutation n (composed n (take n p) (take n r))
  both = composed-permutation n (take n p) (take n r) (sound width n p tp).permutation (sound width n r tr).permutation

  pub take-composed_padded : take n (composed_padded width n p n r) ≡ composed n (take n p) (take n r)
  take-composed_padded = rw composed_padded-is (padded-own width n _ (sound width n p tp).fits both.size)

  pub composed_padded-permutation : IsPermutation n (take n (composed_padded width n p n r))
  composed_padded-permutation = rw take-composed_padded both

module _ (width n : ℕ) (p : List ℕ) (t : is_sound width n p ≡ true) where
  pub inverse_padded-is : inverse_padded width n p ≡ padded width n (inverse n (take n p))
  unfolding inverse_padded
  inverse_padded-is = rw (t, inverse_padded)

  back : IsPermutation n (inverse n (take n p))
  back = inverse-permutation n (take n p) (sound width n p t).permutation

  pub take-inverse_padded : take n (inverse_padded width n p) ≡ inverse n (take n p)
  take-inverse_padded = rw inverse_padded-is (padded-own width n _ (sound width n p t).fits back.size)

-- ---- of other arguments

module _ (width n : ℕ) (p : List ℕ) (k : ℕ) (r : List ℕ) where
  pub composed_padded-no : (eqb n k && (is_sound width n p && is_sound width n r)) ≡ false → composed_padded width n p k r ≡ identity width
  unfolding composed_padded
  composed_padded-no e = rw (e, composed_padded)

  pub composed_padded-sizes : (n ≡ k → ⊥) → composed_padded width n p k r ≡ identity width
  composed_padded-sizes ne = composed_padded-no (rw (ne_eqb n k ne))

  pub composed_padded-first : is_sound width n p ≡ false → composed_padded width n p k r ≡ identity width
  composed_padded-first e = composed_padded-no (rw e (and-false (eqb n k)))

  pub composed_padded-second : is_sound width n r ≡ false → composed_padded width n p k r ≡ identity width
  composed_padded-second e = composed_padded-no (rw (e, and-false (is_sound width n p)) (and-false (eqb n k)))

pub inverse_padded-no : (width n : ℕ) (p : List ℕ) → is_sound width n p ≡ false → inverse_padded width n p ≡ identity width
unfolding inverse_padded
inverse_padded-no width n p e = rw (e, inverse_padded)

-- ---- the inverse is sound

pub is_sound-inverse : (width n : ℕ) → 1 ≤ n → n ≤ width → (p : List ℕ) → is_sound width n (inverse_padded width n p) ≡ true
is_sound-inverse width n a b p = ⊎_elim yes-case no-case (yes_or_no (is_sound width n p))
  where
    yes-case : is_sound width n p ≡ true → is_sound width n (inverse_padded width n p) ≡ true
    yes-case t = rw (inverse_padded-is width n p t) (is_sound-padded width n a b _ (back width n p t))

    no-case : is_sound width n p ≡ false → is_sound width n (inverse_padded width n p) ≡ true
    no-case t = rw (inverse_padded-no width n p t) (is_sound-identity width n a b)
