-- The cells of a register's lines, by their bytes. Between functions: no answer of a call is defined here.
--
--   One top b c, Two top b c  ==  the bytes b and c, after a space, are a number of one digit, of two digits, of at most top (top at most 15)
--   CellBytes top a b c     ==  three bytes are the field of a number of at most top
--   CellsLaid top b at n    ==  so are the bytes of each of the n cells from the byte at `at` on
--   Same b p q n            ==  the n bytes from p on and those from q on agree
--   same_from b p q n        ==  the test of it
use Rattle.std.specs.Prelude.{◌≡◌, List, Bool, true, ◌&&◌, ◌⊎◌, ℕ, zero, suc, ◌+◌, ◌*◌, ◌≤◌, ◌<◌, get_or, eqb}

unfoldable pub One : ℕ → ℕ → ℕ → Type 0
One top b c = (b ≡ 32) × (48 ≤ c) × (c ≤ 48 + top) × (c ≤ 57)

unfoldable pub Two : ℕ → ℕ → ℕ → Type 0
Two top b c = (b ≡ 49) × (10 ≤ top) × (48 ≤ c) × (c ≤ 38 + top)

unfoldable pub CellBytes : ℕ → ℕ → ℕ → ℕ → Type 0
CellBytes top a b c = (a ≡ 32) × (One top b c ⊎ Two top b c)

unfoldable pub CellsLaid : ℕ → List ℕ → ℕ → ℕ → Type 0
CellsLaid top b at n = (k : ℕ) → k < n → CellBytes top (get_or b (at + 3 * k) 0) (get_or b (at + 3 * k + 1) 0) (get_or b (at + 3 * k + 2) 0)

unfoldable pub Same : List ℕ → ℕ → ℕ → ℕ → Type 0
Same b p q n = (j : ℕ) → j < n → get_or b (p + j) 0 ≡ get_or b (q + j) 0

unfoldable pub same_from : List ℕ → ℕ → ℕ → ℕ → Bool
same_from b p q zero = true
same_from b p q (suc n) = same_from b p q n && eqb (get_or b (p + n) 0) (get_or b (q + n) 0)
