-- A permutation composed with its inverse, on either side, is the identity: of permutations as the code holds them, over the width,
-- and of what the code's `composed` and `inverse` return, by their contracts.
--
--   composed-inverse_padded, inverse_padded-composed  ==  of padded permutations
--   composed-back, back-composed    ==  of lists with sizes: q of size k is what the inverse of p of size n lists
--   orders-composed-inverse         ==  what p.composed(p.inverse()) returns is the identity of p's size: of rows, of a terminal's and of columns
--   orders-inverse-composed         ==  and so is what p.inverse().composed(p) returns
use mathlib.Core.Path.{◌≡◌, ◌∙◌}
use mathlib.Core.List.{List}
use mathlib.Core.Bool.{true}
use Prim.Native.Nat.{ℕ}
use lib.ListN.{take}
use Rattle.permutations.specs.Permutations.{identity}
use Rattle.permutations.specs.Padded.{is_sound, composed_padded, inverse_padded}
use Rattle.permutations.specs.Numbered.{Lists}
use Rattle.permutations.specs.declared.permutation.Permutation.{Permutation}
use Rattle.permutations.proofs.PermutationLaws.{composed-inverse, inverse-composed}
use Rattle.permutations.proofs.PaddedLaws.{padded-identity, sound, composed_padded-is, take-inverse_padded, is_sound-inverse}

module _ (width n : ℕ) (p : List ℕ) (t : is_sound width n p ≡ true) where
  back-sound : is_sound width n (inverse_padded width n p) ≡ true
  back-sound = let s = sound width n p t in is_sound-inverse width n s.some s.fits p

  pub composed-inverse_padded : composed_padded width n p n (inverse_padded width n p) ≡ identity width
  composed-inverse_padded =
      composed_padded-is width n p (inverse_padded width n p) t back-sound
      ∙ rw (take-inverse_padded width n p t, composed-inverse n (take n p) (sound width n p t).permutation) (padded-identity width n)

  pub inverse_padded-composed : composed_padded width n (inverse_padded width n p) n p ≡ identity width
  inverse_padded-composed =
      composed_padded-is width n (inverse_padded width n p) p back-sound t
      ∙ rw (take-inverse_padded width n p t, inverse-composed n (take n p) (sound width n p t).permutation) (padded-identity width n)

  module _ (k : ℕ) (q : List ℕ) (size : k ≡ n) (lists : q ≡ inverse_padded width n p) where
    pub composed-back : composed_padded width n p k q ≡ identity width
    composed-back = rw (size, lists) composed-inverse_padded

    pub back-composed : composed_padded width k q n p ≡ identity width
    back-composed = rw (size, lists) inverse_padded-composed

-- ---- of the code's values: p is a permutation, q is p.inverse(), and r is what `composed` returns

module _ {I : Type 0} {N : ℕ} (p q r : Permutation I N) (t : is_sound N p.size p.at ≡ true) (b : Lists (inverse_padded N p.size p.at) p.size q) where
  pub orders-composed-inverse : Lists (composed_padded N p.size p.at q.size q.at) p.size r → Lists (identity N) p.size r
  orders-composed-inverse c = record { numbers = c.numbers ∙ composed-back N _ _ t _ _ b.size b.numbers; size = c.size }

  pub orders-inverse-composed : Lists (composed_padded N q.size q.at p.size p.at) q.size r → Lists (identity N) p.size r
  orders-inverse-composed c = record { numbers = c.numbers ∙ back-composed N _ _ t _ _ b.size b.numbers; size = c.size ∙ b.size }
