-- Permutations as the code holds them: an array of `width` positions and a size. Only the first `size` positions are looked at.
-- `width` is 8 for rows, 5 for a terminal's rows and 16 for columns.
--
--   padded width n p               ==  p's first n entries; the positions from n on hold their own number
--   IsPadded width n p             ==  p's first n entries are a permutation of size n, and the positions from n on hold their own number
--   Sound width n p                ==  n is 1 to width, and the first n positions are a permutation of size n
--   is_sound width n p             ==  the test of it
--   composed_padded width n p k r  ==  p of size n followed by r of size k: the identity where the sizes differ or either is not sound
--   inverse_padded width n p       ==  the inverse of p of size n: the identity where p is not sound
use Rattle.std.specs.Prelude.{◌≡◌, List, Bool, true, false, ◌&&◌, ℕ, ◌≤◌, get_or, take, leb, ltb, eqb}
use Rattle.permutations.specs.Lists.{tabulate}
use Rattle.permutations.specs.Permutations.{IsPermutation, is_permutation, identity, composed, inverse}

unfoldable pub padded : ℕ → ℕ → List ℕ → List ℕ
padded width n p = tabulate 0 width (λ i. elim (ltb i n) [ true ↦ get_or p i 0 | false ↦ i ])

pub record IsPadded (width n : ℕ) (p : List ℕ) : Type 0 where
  pub permutation : IsPermutation n (take n p)
  pub rest : p ≡ padded width n (take n p)

pub record Sound (width n : ℕ) (p : List ℕ) : Type 0 where
  pub some : 1 ≤ n
  pub fits : n ≤ width
  pub permutation : IsPermutation n (take n p)

unfoldable pub is_sound : ℕ → ℕ → List ℕ → Bool
is_sound width n p = leb 1 n && (leb n width && is_permutation n (take n p))

unfoldable pub composed_padded : ℕ → ℕ → List ℕ → ℕ → List ℕ → List ℕ
composed_padded width n p k r =
    elim (eqb n k && (is_sound width n p && is_sound width n r)) [
      | true ↦ padded width n (composed n (take n p) (take n r))
      | false ↦ identity width
    ]

unfoldable pub inverse_padded : ℕ → ℕ → List ℕ → List ℕ
inverse_padded width n p =
    elim (is_sound width n p) [
      | true ↦ padded width n (inverse n (take n p))
      | false ↦ identity width
    ]
