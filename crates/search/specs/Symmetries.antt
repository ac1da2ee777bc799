-- Symmetries of the grid that the search keeps, eight numbers each. Between functions: no answer of a call is defined here.
--
--   Fixes l s p k r    ==  where r is true, the symmetry s of l moves none of the first k rows of p
--   Reached m l s a x  ==  row x is of the set a, or the image of a reached row below m under the symmetry s of l
--   Images m l s a b   ==  b is a set of rows that are reached from those of a
use Rattle.std.specs.Prelude.{◌≡◌, ℕ, ◌+◌, ◌*◌, ◌<◌, Bool, true, List, slice_index}
use Rattle.search.specs.RowSets.{IsRowSet, HasRow}

pub record Fixes (l : List ℕ) (s : ℕ) (p : List ℕ) (k : ℕ) (r : Bool) : Type 0 where
  pub fixed : r ≡ true → (i : ℕ) → i < k → slice_index l (s * 8 + slice_index p i) ≡ slice_index p i

pub data Reached (m : ℕ) (l : List ℕ) (s a : ℕ) : ℕ → Type 0 where
  reached-marked : {x : ℕ} → HasRow a x → Reached m l s a x
  reached-image : {x : ℕ} → x < m → Reached m l s a x → Reached m l s a (slice_index l (s * 8 + x))

pub record Images (m : ℕ) (l : List ℕ) (s a b : ℕ) : Type 0 where
  pub set : IsRowSet b
  pub reached : (x : ℕ) → HasRow b x → Reached m l s a x
