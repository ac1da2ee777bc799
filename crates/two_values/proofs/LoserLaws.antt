-- Laws of a row that is dropped, since the row at another position is over it.
--
--   loses-second, loses-first  ==  the row at the second position is dropped, that at the first is
--   drops-loser  ==  its mark goes, and a marked row is as good
use mathlib.Core.Path.{◌≡◌, refl}
use mathlib.Core.List.{List}
use mathlib.Core.Bool.{Bool, true, false}
use Rattle.std.proofs.Common.{Some}
use mathlib.Core.Logic.{◌⊎◌, inl, inr}
use Prim.Native.Nat.{ℕ, ◌≤◌, ◌<◌}
use native.Mathlib.Omega.{arith}
use lib.ListN.{length, get_or, set}
use Rattle.permutations.specs.Rows.{RowPermutation}
use Rattle.permutations.specs.Rows.{row_numbers}
use Rattle.two_values.specs.Search.{Drops}
use Rattle.two_values.specs.Domination.{Over, Prepared, Loses}
use Rattle.two_values.proofs.DominationLaws.{drops-one}
use Rattle.two_values.proofs.OverLaws.{over-next}

module _ (y u v a : List ℕ) (n : ℕ) (p : List ℕ) (b : List Bool) (s t : ℕ) where
  module _ (r q : ℕ) (er : r ≡ get_or p s 0) (eq : q ≡ get_or p t 0) (marked : get_or b s false ≡ true) (other : get_or b t false ≡ true) where
    pub loses-second : Over y u v a n r q → Loses y u v a n p b s t (Some t)
    loses-second over = record { marked = λ j e. (marked, other); over = λ j e. inl (cc, rw (← er, ← eq) over) }

    pub loses-first : Over y u v a n q r → Loses y u v a n p b s t (Some s)
    loses-first over = record { marked = λ j e. (marked, other); over = λ j e. inr (cc, rw (← er, ← eq) over) }

pub drops-loser : (m n : ℕ) (g : List ℕ) (low : ℕ) (x y : List ℕ) (k : ℕ) (p : RowPermutation) (a u v : List ℕ) → Prepared m n g low x y k p a u v → (b : List Bool) → length b ≡ 8 → (s t i : ℕ) → k ≤ s →
    s < t → t < m → Loses y u v a n (row_numbers p) b s t (Some i) → Drops m n g k (row_numbers p) b (set b i false)
drops-loser m n g low x y k p a u v h b size s t i ks st tm loses = go (loses.over i refl)
  where
    m8 : m ≤ 8
    m8 = h.tables.rows_fit

    go : ((i ≡ t) × Over y u v a n (get_or (row_numbers p) s 0) (get_or (row_numbers p) t 0)) ⊎ ((i ≡ s) × Over y u v a n (get_or (row_numbers p) t 0) (get_or (row_numbers p) s 0)) →
        Drops m n g k (row_numbers p) b (set b i false)
    go (inl w) =
        rw w.0
        (drops-one m n g k (row_numbers p) b s t size (omega (arith, m8)) (λ e. absurd (omega arith)) ks (omega arith) (loses.marked i refl).0
        (over-next m n g low x y k p a u v h s t ks (omega arith) (omega arith) tm w.1))
    go (inr w) =
        rw w.0
        (drops-one m n g k (row_numbers p) b t s size (omega (arith, m8)) (λ e. absurd (omega arith)) (omega arith) tm (loses.marked i refl).1
        (over-next m n g low x y k p a u v h t s (omega arith) tm ks (omega arith) w.1))
