-- The holdings of a register's lines, by their bytes. Between functions: no answer of a call is defined here.
--
--   Digit c, First c       ==  the byte c is a digit, a digit but no 0
--   HoldingBytes a b c     ==  three bytes are the field of a number of at most 999: spaces, and digits of which the first is no 0
--   NoneBytes b c          ==  two bytes are the last ones of the field of 0
--   HoldingsLaid b at      ==  the bytes from `at` on are such fields, one for each client, and they are not all of 0
--   is_digit, is_first, is_holding, is_none  ==  the tests of them
use Rattle.std.specs.Prelude.{◌≡◌, List, Bool, ◌&&◌, ◌||◌, ◌⊎◌, ℕ, ◌+◌, ◌*◌, ◌≤◌, ◌<◌, get_or, eqb, leb}
use Rattle.layout.specs.Layout.{clients}

unfoldable pub Digit : ℕ → Type 0
Digit c = (48 ≤ c) × (c ≤ 57)

unfoldable pub First : ℕ → Type 0
First c = (49 ≤ c) × (c ≤ 57)

unfoldable pub HoldingBytes : ℕ → ℕ → ℕ → Type 0
HoldingBytes a b c = (((a ≡ 32) × ((b ≡ 32) ⊎ First b)) ⊎ (First a × Digit b)) × Digit c

unfoldable pub NoneBytes : ℕ → ℕ → Type 0
NoneBytes b c = (b ≡ 32) × (c ≡ 48)

pub record HoldingsLaid (b : List ℕ) (at : ℕ) : Type 0 where
  pub fields_laid : (k : ℕ) → k < clients → HoldingBytes (get_or b (at + 3 * k) 0) (get_or b (at + 3 * k + 1) 0) (get_or b (at + 3 * k + 2) 0)
  pub some-held : ((k : ℕ) → k < clients → NoneBytes (get_or b (at + 3 * k + 1) 0) (get_or b (at + 3 * k + 2) 0)) → ⊥

-- ---- the tests

unfoldable pub is_digit : ℕ → Bool
is_digit c = leb 48 c && leb c 57

unfoldable pub is_first : ℕ → Bool
is_first c = leb 49 c && leb c 57

unfoldable pub is_holding : ℕ → ℕ → ℕ → Bool
is_holding a b c = ((eqb a 32 && (eqb b 32 || is_first b)) || (is_first a && is_digit b)) && is_digit c

unfoldable pub is_none : ℕ → ℕ → Bool
is_none b c = eqb b 32 && eqb c 48
