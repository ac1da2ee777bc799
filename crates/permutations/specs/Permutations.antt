-- Permutations of every size: document 01's orders.
--
--   IsPermutation n p   ==  p lists each number below n once: n entries, each below n, no two equal
--   is_permutation n p  ==  the test of it: n entries, and each number below n occurs once
--   identity n          ==  the permutation that moves nothing (the starting order)
--   composed n p r      ==  sends i to p (r i) (p followed by r)
--   position p k        ==  the first position of p that holds k; p's length where none does
--   inverse n p         ==  sends k to its position in p (the reverse of p)
--   swapped p i j       ==  p with its entries at i and j exchanged
--   words n k           ==  all lists of k numbers below n
--   permutations n      ==  all permutations of size n
use Rattle.std.specs.Prelude.{◌≡◌, Bool, true, false, ◌&&◌, ℕ, zero, suc, ◌<◌, length, get_or, set, eqb}
use mathlib.Core.List.{List, [], ◌∷◌, map, flat_map}
use Rattle.permutations.specs.Lists.{tabulate, numbers, select, every, occurrences}

pub record IsPermutation (n : ℕ) (p : List ℕ) : Type 0 where
  pub size : length p ≡ n
  pub within : (i : ℕ) → i < n → get_or p i 0 < n
  pub once : (i j : ℕ) → i < n → j < n → get_or p i 0 ≡ get_or p j 0 → i ≡ j

unfoldable pub is_permutation : ℕ → List ℕ → Bool
is_permutation n p = eqb (length p) n && every (λ k. eqb (occurrences k p) 1) (numbers n)

unfoldable pub identity : ℕ → List ℕ
identity n = numbers n

unfoldable pub composed : ℕ → List ℕ → List ℕ → List ℕ
composed n p r = tabulate 0 n (λ i. get_or p (get_or r i 0) 0)

unfoldable pub position : List ℕ → ℕ → ℕ
position [] k = 0
position (x ∷ p) k = elim (eqb x k) [ true ↦ 0 | false ↦ suc (position p k) ]

unfoldable pub inverse : ℕ → List ℕ → List ℕ
inverse n p = tabulate 0 n (position p)

unfoldable pub swapped : List ℕ → ℕ → ℕ → List ℕ
swapped p i j = set (set p i (get_or p j 0)) j (get_or p i 0)

unfoldable pub words : ℕ → ℕ → List (List ℕ)
words n zero = [] ∷ []
words n (suc k) = flat_map (λ x. map (λ w. x ∷ w) (words n k)) (numbers n)

unfoldable pub permutations : ℕ → List (List ℕ)
permutations n = select (is_permutation n) (words n n)
