-- What each byte of an entry's cells may be. Between functions: no answer of a call is defined here.
--
--   rest x teen      ==  x, but 0 where it is teen
--   fits ..          ==  a byte is teen above its base, or above it by no more than its span and no more than the byte before it is below cap
--   all_fit k b before ..  ==  the first k bytes after the one at `before` do, by the tables base, teen, span
use Rattle.std.specs.Prelude.{List, Bool, true, false, ◌&&◌, ℕ, zero, suc, ◌+◌, get_or, min, leb, eqb}
use Rattle.lines.specs.Bytes.{above}

unfoldable pub rest : ℕ → ℕ → ℕ
rest x teen = elim (eqb x teen) [ true ↦ 0 | false ↦ x ]

unfoldable pub fits : ℕ → ℕ → ℕ → ℕ → ℕ → ℕ → Bool
fits byte before base teen span cap = leb (rest (above byte base) teen) (min span (above cap before))

unfoldable pub all_fit : ℕ → List ℕ → ℕ → List ℕ → List ℕ → List ℕ → ℕ → Bool
all_fit zero b before base teen span cap = true
all_fit (suc k) b before base teen span cap =
    all_fit k b before base teen span cap && fits (get_or b (before + k + 1) 0) (get_or b (before + k) 0) (get_or base k 0) (get_or teen k 0) (get_or span k 0) cap
