-- Lists by index, and tests on their elements.
--
--   tabulate s n f   ==  the n values of f from s on
--   numbers n        ==  the numbers below n, ascending
--   select t l       ==  the elements of l that pass the test t
--   every t l        ==  every element of l passes the test t
--   some t l         ==  some element of l passes the test t
--   All P l          ==  P holds of every element of l
--   occurrences k l  ==  how often the number k stands in l
use Rattle.std.specs.Prelude.{List, [], ◌∷◌, Bool, true, false, ◌&&◌, ◌||◌, ℕ, zero, suc, length, eqb}

module _ {ℓ} {A : Type ℓ} where
  unfoldable pub tabulate : ℕ → ℕ → (ℕ → A) → List A
  tabulate s zero f = []
  tabulate s (suc n) f = f s ∷ tabulate (suc s) n f

  unfoldable pub select : (A → Bool) → List A → List A
  select t [] = []
  select t (x ∷ l) = elim (t x) [ true ↦ x ∷ select t l | false ↦ select t l ]

  unfoldable pub every : (A → Bool) → List A → Bool
  every t [] = true
  every t (x ∷ l) = t x && every t l

  unfoldable pub some : (A → Bool) → List A → Bool
  some t [] = false
  some t (x ∷ l) = t x || some t l

  abbrev pub All : (A → Type 0) → List A → Type 0
  All P [] = Unit {0}
  All P (x ∷ l) = P x × All P l

unfoldable pub numbers : ℕ → List ℕ
numbers n = tabulate 0 n (λ i. i)

unfoldable pub occurrences : ℕ → List ℕ → ℕ
occurrences k l = length (select (eqb k) l)
