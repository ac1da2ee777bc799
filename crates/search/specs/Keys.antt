-- Keys of the rows left. Between functions: no answer of a call is defined here.
--
--   RowsWithin p            ==  the eight rows of the order p are below 8
--   Lowest m k p keys r     ==  r is the least key of the rows of p from position k on
--   WithKey m k p keys v s  ==  the set s has those rows of p from position k on that have the key v, and no others
use Rattle.std.specs.Prelude.{◌≡◌, ℕ, ◌<◌, ◌≤◌, List, length, slice_index}
use Rattle.search.specs.RowSets.{IsRowSet, HasRow}

pub record RowsWithin (p : List ℕ) : Type 0 where
  pub size : length p ≡ 8
  pub within : (t : ℕ) → t < 8 → slice_index p t < 8

pub record Lowest (m k : ℕ) (p keys : List ℕ) (r : ℕ) : Type 0 where
  pub no_more : (t : ℕ) → k ≤ t → t < m → r ≤ slice_index keys (slice_index p t)
  pub reached : (t : ℕ) × (k ≤ t) × (t < m) × (slice_index keys (slice_index p t) ≡ r)

pub record WithKey (m k : ℕ) (p keys : List ℕ) (v s : ℕ) : Type 0 where
  pub set : IsRowSet s
  pub has : (t : ℕ) → k ≤ t → t < m → slice_index keys (slice_index p t) ≡ v → HasRow s (slice_index p t)
  pub only : (r : ℕ) → HasRow s r → (t : ℕ) × (k ≤ t) × (t < m) × (slice_index p t ≡ r) × (slice_index keys r ≡ v)
