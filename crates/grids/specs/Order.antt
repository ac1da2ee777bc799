-- The order of cell values, and of lists of them: rows, columns and whole grids are compared so.
--
--   rank x     ==  where the value x stands among the values: by its number
--   higher a b, lower a b  ==  the one of a and b that ranks higher, lower; a if they are equal
--   a ≼ b      ==  a comes no later than b: the first unequal value decides, by rank; a list comes before those that it begins
--   a ≺ b      ==  a comes before b
--   FirstUnequal a b  ==  at the first index where a and b differ, a's value ranks lower
--   leq a b    ==  the test of a ≼ b
--   less a b   ==  the test of a ≺ b
--   equal a b  ==  the test of a ≡ b
use Rattle.std.specs.Prelude.{◌≡◌, List, [], ◌∷◌, Bool, true, false, not, ◌&&◌, ◌||◌, ◌⊎◌, ℕ, ◌<◌, length, get_or, ltb, eqb}

unfoldable pub rank : ℕ → ℕ
rank x = x

unfoldable pub higher : ℕ → ℕ → ℕ
higher a b = elim (ltb (rank a) (rank b)) [ true ↦ b | false ↦ a ]

unfoldable pub lower : ℕ → ℕ → ℕ
lower a b = elim (ltb (rank b) (rank a)) [ true ↦ b | false ↦ a ]

abbrev pub ◌≼◌ : List ℕ → List ℕ → Type 0
◌≼◌ [] b = Unit {0}
◌≼◌ (x ∷ a) [] = ⊥
◌≼◌ (x ∷ a) (y ∷ b) = (rank x < rank y) ⊎ ((x ≡ y) × (◌≼◌ a b))

infix 50 ◌≼◌
abbrev pub ◌≺◌ : List ℕ → List ℕ → Type 0
◌≺◌ a b = b ≼ a → ⊥

infix 50 ◌≺◌
pub record FirstUnequal (a b : List ℕ) : Type 0 where
  pub index : ℕ
  pub inside : index < length a
  pub before : (i : ℕ) → i < index → get_or a i 0 ≡ get_or b i 0
  pub lower : rank (get_or a index 0) < rank (get_or b index 0)

unfoldable pub leq : List ℕ → List ℕ → Bool
leq [] b = true
leq (x ∷ a) [] = false
leq (x ∷ a) (y ∷ b) = ltb (rank x) (rank y) || (eqb x y && leq a b)

unfoldable pub less : List ℕ → List ℕ → Bool
less a b = not (leq b a)

unfoldable pub equal : List ℕ → List ℕ → Bool
equal [] [] = true
equal [] (y ∷ b) = false
equal (x ∷ a) [] = false
equal (x ∷ a) (y ∷ b) = eqb x y && equal a b
