-- The branches of a search over partial row orders. Between functions: no answer of a call is defined here.
--
--   Begins k placed p        ==  the row order p begins with the first k rows of placed
--   Covers m n g k placed r  ==  r comes no later than any arrangement whose row order begins so
--   Dominates m n g p k s t f  ==  with the columns exchanged by f the row at position s of p has the cells of the row at t; the first k rows do not tell a column from what f makes of it;
--                                the row at t does, where f moves it, and of the two columns that comes first in which it has the lower cell; every other row has no lower cell there
--   Next m n g k p s t      ==  what covers placing the row at position s of p next, after the first k rows, covers placing the row at t
--   IsNext m n g k p t      ==  the row at position t of p, of those from k on, gives the least next row: no other, placed next, gives lesser sorted rows
use Rattle.std.specs.Prelude.{◌≡◌, List, ℕ, suc, ◌≤◌, ◌<◌, get_or}
use Rattle.permutations.specs.Permutations.{IsPermutation, swapped}
use Rattle.grids.specs.Order.{rank, ◌≼◌}
use Rattle.grids.specs.Grids.{cell, arrangement}
use Rattle.branches.specs.SortedRows.{sorted_rows}

unfoldable pub Begins : ℕ → List ℕ → List ℕ → Type 0
Begins k placed p = (i : ℕ) → i < k → get_or p i 0 ≡ get_or placed i 0

unfoldable pub Covers : ℕ → ℕ → List ℕ → ℕ → List ℕ → List ℕ → Type 0
Covers m n g k placed r =
    (p : List ℕ) → IsPermutation m p → Begins k placed p → (q : List ℕ) → IsPermutation n q → r ≼ arrangement m n p q g

pub record Dominates (m n : ℕ) (g p : List ℕ) (k s t : ℕ) (f : ℕ → ℕ) : Type 0 where
  pub within : (j : ℕ) → j < n → f j < n
  pub back : (j : ℕ) → j < n → f (f j) ≡ j
  pub exchanged : (j : ℕ) → j < n → cell n g (get_or p s 0) (f j) ≡ cell n g (get_or p t 0) j
  pub placed : (i : ℕ) → i < k → (j : ℕ) → j < n → cell n g (get_or p i 0) (f j) ≡ cell n g (get_or p i 0) j
  pub moved : (j : ℕ) → j < n → (f j ≡ j → ⊥) → cell n g (get_or p t 0) (f j) ≡ cell n g (get_or p t 0) j → ⊥
  pub others : (i : ℕ) → k ≤ i → i < m → (i ≡ s → ⊥) → (i ≡ t → ⊥) → (j : ℕ) → j < n → rank (cell n g (get_or p t 0) j) < rank (cell n g (get_or p t 0) (f j)) →
      rank (cell n g (get_or p i 0) (f j)) ≤ rank (cell n g (get_or p i 0) j)

unfoldable pub Next : ℕ → ℕ → List ℕ → ℕ → List ℕ → ℕ → ℕ → Type 0
Next m n g k p s t = (r : List ℕ) → Covers m n g (suc k) (swapped p k s) r → Covers m n g (suc k) (swapped p k t) r

pub record IsNext (m n : ℕ) (g : List ℕ) (k : ℕ) (p : List ℕ) (t : ℕ) : Type 0 where
  pub left : k ≤ t
  pub within : t < m
  pub least : (u : ℕ) → k ≤ u → u < m → sorted_rows (suc k) n g (swapped p k t) ≼ sorted_rows (suc k) n g (swapped p k u)
