-- What is said of the numbers that a permutation of rows or of columns lists.
--
--   Lists l n p           ==  p is the permutation of size n with the numbers l in its positions
--   InCommon a b count r  ==  a and b begin with the same r numbers, at most count, and no more
--   PartAt a b count r    ==  r is the first of count positions at which a and b differ, if there is one
use Rattle.std.specs.Prelude.{◌≡◌, List, ℕ, ◌≤◌, ◌<◌, get_or, Option, unwrap_or, IfSome}
use Rattle.permutations.specs.declared.permutation.Permutation.{Permutation}

pub record Lists {I : Type 0} {N : ℕ} (l : List ℕ) (n : ℕ) (p : Permutation I N) : Type 0 where
  pub numbers : p.at ≡ l
  pub size : p.size ≡ n

pub record InCommon (a b : List ℕ) (count r : ℕ) : Type 0 where
  pub up_to : r ≤ count
  pub same : (i : ℕ) → i < r → get_or a i 0 ≡ get_or b i 0
  pub parts : r < count → get_or a r 0 ≡ get_or b r 0 → ⊥

pub record PartAt (a b : List ℕ) (count : ℕ) (r : Option ℕ) : Type 0 where
  pub in-common : InCommon a b count (unwrap_or r count)
  pub within : IfSome r (λ i. i < count)
