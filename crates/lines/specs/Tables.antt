-- Tables with three bytes for each cell. Between functions: no answer of a call is defined here.
--
--   put table k a b c     ==  a table with a, b and c written, as the bytes of cell k
--   Cellwise table n a b P  ==  the bytes of each cell k < n are a, b and one that P holds of
--   Thirds table n a b f  ==  the bytes of each cell k < n are a, b and f k
use Rattle.std.specs.Prelude.{◌≡◌, ℕ, ◌+◌, ◌*◌, ◌<◌, List, slice_index, slice_set}

unfoldable pub put : List ℕ → ℕ → ℕ → ℕ → ℕ → List ℕ
put table k a b c = slice_set (slice_set (slice_set table (3 * k) a) (3 * k + 1) b) (3 * k + 2) c

abbrev pub Cellwise : List ℕ → ℕ → ℕ → ℕ → (ℕ → ℕ → Type 0) → Type 0
Cellwise table n a b P = (k : ℕ) → k < n → (slice_index table (3 * k) ≡ a) × (slice_index table (3 * k + 1) ≡ b) × P k (slice_index table (3 * k + 2))

abbrev pub Thirds : List ℕ → ℕ → ℕ → ℕ → (ℕ → ℕ) → Type 0
Thirds table n a b f = Cellwise table n a b (λ k x. x ≡ f k)
