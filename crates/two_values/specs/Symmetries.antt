-- Symmetries of the grid that the search keeps: maps of row numbers. Between functions: no answer of a call is defined here.
--
--   Carries m p q l    ==  the map l carries the first m rows of the order p to those of q
--   Fixes l p k r      ==  where r is true, the map l moves none of the first k rows of p
--   Reached m l a x    ==  row x is marked in a, or the image of a reached row below m under the map l
--   Images m l a b     ==  b marks only rows that are reached from those that a marks
use Rattle.std.specs.Prelude.{◌≡◌, List, Bool, true, false, ℕ, ◌<◌, length, get_or}

pub record Carries (m : ℕ) (p q l : List ℕ) : Type 0 where
  pub carries : (i : ℕ) → i < m → get_or l (get_or p i 0) 0 ≡ get_or q i 0

pub record Fixes (l p : List ℕ) (k : ℕ) (r : Bool) : Type 0 where
  pub fixed : r ≡ true → (i : ℕ) → i < k → get_or l (get_or p i 0) 0 ≡ get_or p i 0

pub data Reached (m : ℕ) (l : List ℕ) (a : List Bool) : ℕ → Type 0 where
  reached-marked : {x : ℕ} → get_or a x false ≡ true → Reached m l a x
  reached-image : {x : ℕ} → x < m → Reached m l a x → Reached m l a (get_or l x 0)

pub record Images (m : ℕ) (l : List ℕ) (a b : List Bool) : Type 0 where
  pub size : length b ≡ 8
  pub reached : (x : ℕ) → get_or b x false ≡ true → Reached m l a x
