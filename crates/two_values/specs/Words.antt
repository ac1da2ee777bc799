-- Rows and columns of the tables as numbers, one binary digit for each cell. Between functions: no answer of a call is defined here.
--
--   word n f      ==  the number with the binary digits f 0, f 1, .., f (n - 1), the first one highest
--   Small u       ==  the eight numbers of u have 16 digits
--   WordsOf n m x u  ==  u holds for each of m lines its n digits in the table x, which has a digit of each line, then the next of each, and so on
--   RowWords x u  ==  u holds for each row its digits in the table by columns, column 0 the highest of 16
--   LowWords y v  ==  v holds for each column its digits in the table by rows, row 0 the highest of 8
use Rattle.std.specs.Prelude.{◌≡◌, List, ℕ, zero, suc, ◌+◌, ◌*◌, ◌<◌, get_or}

unfoldable pub word : ℕ → (ℕ → ℕ) → ℕ
word zero f = 0
word (suc n) f = 2 * word n f + f n

abbrev pub Small : List ℕ → Type 0
Small u = (r : ℕ) → r < 8 → get_or u r 0 < 65536

pub record WordsOf (digits lines : ℕ) (x u : List ℕ) : Type 0 where
  pub holds : (r : ℕ) → r < lines → get_or u r 0 ≡ word digits (λ c. get_or x (c * lines + r) 0)
  pub small : (r : ℕ) → r < lines → get_or u r 0 < 65536

pub record RowWords (x u : List ℕ) : Type 0 where
  pub holds : (r : ℕ) → r < 8 → get_or u r 0 ≡ word 16 (λ c. get_or x (c * 8 + r) 0)
  pub small : Small u

abbrev pub LowWords : List ℕ → List ℕ → Type 0
LowWords y v = (c : ℕ) → c < 16 → get_or v c 0 ≡ word 8 (λ r. get_or y (r * 16 + c) 0)
