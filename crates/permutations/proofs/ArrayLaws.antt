-- Arrays of tuple structs as lists of their numbers.
--
--   map-length  ==  an array is as long as what is made of its elements
--   map-set     ==  the numbers after a store
--   map_at      ==  the number at an index
use mathlib.Core.Path.{◌≡◌, refl, sym, ap, ◌∙◌}
use mathlib.Core.List.{List, [], ◌∷◌, map}
use Prim.Native.Nat.{ℕ, zero, suc, ◌<◌}
use lib.ListN.{length, get_or, set, length-map}
use Rattle.permutations.proofs.ListLaws.{at_map}

pub map-length {ℓ κ} : {A : Type ℓ} {B : Type κ} (f : A → B) (l : List A) (n : ℕ) → length (map f l) ≡ n → length l ≡ n
map-length f l n e = sym (length-map l f) ∙ e

module _ {A : Type 0} (f : A → ℕ) where
  pub map-set : (l : List A) (i : ℕ) (v : A) → map f (set l i v) ≡ set (map f l) i (f v)
  map-set [] i v = refl
  map-set (x ∷ l) zero v = refl
  map-set (x ∷ l) (suc i) v = ap (λ (r : List ℕ). f x ∷ r) (map-set l i v)

  pub map_at : (l : List A) (i : ℕ) (d : A) → i < length l → f (get_or l i d) ≡ get_or (map f l) i 0
  map_at l i d h = sym (at_map f l i d 0 h)
