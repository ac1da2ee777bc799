-- Symmetries of a grid that a search finds: two row orders with one arrangement.
--
--   covers-alike  ==  what covers the branch that begins like one of two orders with one arrangement covers the branch that begins like the other
use mathlib.Core.Path.{◌≡◌, sym, ap, ap₂, ◌∙◌}
use mathlib.Core.List.{List}
use Prim.Native.Nat.{ℕ, ◌≤◌, ◌<◌}
use native.Mathlib.Omega.{arith}
use lib.ListN.{get_or}
use Rattle.permutations.specs.Permutations.{IsPermutation, composed, inverse}
use Rattle.permutations.proofs.PermutationLaws.{at-composed, at-inverse, position_at, composed-permutation, inverse-permutation, through}
use Rattle.grids.specs.Grids.{arrangement}
use Rattle.grids.proofs.GridLaws.{arrangement-twice}
use Rattle.branches.specs.Branches.{Begins, Covers}

pub covers-alike : (m n : ℕ) (g : List ℕ) (k : ℕ) (p q p' q' r : List ℕ) → k ≤ m → IsPermutation m p → IsPermutation n q → IsPermutation m p' → IsPermutation n q' →
    arrangement m n p q g ≡ arrangement m n p' q' g → Covers m n g k p r → Covers m n g k p' r
unfolding Covers Begins
covers-alike m n g k p q p' q' r km op oq op' oq' e c s os begins t ot =
    rw (← same) (c (composed m p u) (composed-permutation m p u op ou) front (composed n q v) (composed-permutation n q v oq ov))
  where
    u : List ℕ
    u = composed m (inverse m p') s

    v : List ℕ
    v = composed n (inverse n q') t

    ou : IsPermutation m u
    ou = composed-permutation m (inverse m p') s (inverse-permutation m p' op') os

    ov : IsPermutation n v
    ov = composed-permutation n (inverse n q') t (inverse-permutation n q' oq') ot

    same : arrangement m n (composed m p u) (composed n q v) g ≡ arrangement m n s t g
    same =
        sym (arrangement-twice m n p q u v g ou ov)
        ∙ ap (arrangement m n u v) e
        ∙ arrangement-twice m n p' q' u v g ou ov
        ∙ ap₂ (λ (a b : List ℕ). arrangement m n a b g) (through m p' op' s os) (through n q' oq' t ot)

    front : (i : ℕ) → i < k → get_or (composed m p u) i 0 ≡ get_or p i 0
    front i ik =
        at-composed m p u i (omega arith)
        ∙ ap (λ (x : ℕ). get_or p x 0)
        (at-composed m (inverse m p') s i (omega arith)
        ∙ ap (λ (x : ℕ). get_or (inverse m p') x 0) (begins i ik)
        ∙ at-inverse m p' (get_or p' i 0) (op'.within i (omega arith))
        ∙ position_at m p' op' i (omega arith))
