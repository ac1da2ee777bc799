-- The marked plans M1 to M10 of document 01, as one table about the definitions.
--
--   Case         ==  a marked plan's kind, its arguments and what is to come out
--   Holds c      ==  what the definitions say of the case
--   table        ==  the marked plans
--   MarkedPlans  ==  the statement: every case holds
use Rattle.std.specs.Prelude.{◌≡◌, List, [], ◌∷◌, Bool, true, false, ℕ}
use Rattle.permutations.specs.Lists.{All}
use Rattle.permutations.specs.Permutations.{is_permutation}
use Rattle.grids.specs.Grids.{arrangement}
use Rattle.grids.specs.Least.{least}
use Rattle.grids.specs.Questions.{first_no}
use Rattle.canonical.specs.Represent.{represent_questions}
use Rattle.canonical.specs.Same.{same_number}
use Rattle.bounds.specs.Allperm.{allperm}
use Rattle.bounds.specs.Prune.{Pruned, pruned}

pub data Case : Type 0 where
  -- represent of a grid with m rows, n columns and this top writes a grid
  represents : (m n top : ℕ) → (g r : List ℕ) → Case
  -- a row order and a column order produce a grid from a grid
  produces : (m n : ℕ) → (g p q r : List ℕ) → Case
  -- same of two grids answers a number
  compares : (m n top : ℕ) → (a b : List ℕ) → (number : ℕ) → Case
  -- allperm holds of a grid, or fails
  satisfies : (m n : ℕ) → (g : List ℕ) → (answer : Bool) → Case
  -- prune of two bounds answers a number and a count, and leaves two bounds
  prunes : (m n top : ℕ) → (low high : List ℕ) → (outcome : Pruned) → Case

unfoldable pub Holds : Case → Type 0
Holds (represents m n top g r) = (first_no (represent_questions m n top g g) ≡ 0) × (least m n g ≡ r)
Holds (produces m n g p q r) = (is_permutation m p ≡ true) × (is_permutation n q ≡ true) × (arrangement m n p q g ≡ r)
Holds (compares m n top a b number) = same_number m n top a b ≡ number
Holds (satisfies m n g answer) = allperm m n g ≡ answer
Holds (prunes m n top low high outcome) = pruned m n top low high ≡ outcome

unfoldable pub table : List Case
table =
    -- M1: 223/231 gives 123/322, P = 1 0, Q = 2 0 1
    represents 2 3 3 (2 ∷ 2 ∷ 3 ∷ 2 ∷ 3 ∷ 1 ∷ []) (1 ∷ 2 ∷ 3 ∷ 3 ∷ 2 ∷ 2 ∷ [])
    ∷ produces 2 3 (2 ∷ 2 ∷ 3 ∷ 2 ∷ 3 ∷ 1 ∷ []) (1 ∷ 0 ∷ []) (2 ∷ 0 ∷ 1 ∷ []) (1 ∷ 2 ∷ 3 ∷ 3 ∷ 2 ∷ 2 ∷ [])
    -- M2: 10/01 gives 01/10
    ∷ represents 2 2 1 (1 ∷ 0 ∷ 0 ∷ 1 ∷ []) (0 ∷ 1 ∷ 1 ∷ 0 ∷ [])
    -- M3: 112/010 gives 001/121
    ∷ represents 2 3 2 (1 ∷ 1 ∷ 2 ∷ 0 ∷ 1 ∷ 0 ∷ []) (0 ∷ 0 ∷ 1 ∷ 1 ∷ 2 ∷ 1 ∷ [])
    -- M4: 12/12 gives itself
    ∷ represents 2 2 2 (1 ∷ 2 ∷ 1 ∷ 2 ∷ []) (1 ∷ 2 ∷ 1 ∷ 2 ∷ [])
    -- M5: 302 gives 023
    ∷ represents 1 3 3 (3 ∷ 0 ∷ 2 ∷ []) (0 ∷ 2 ∷ 3 ∷ [])
    -- M6: same of 00/11 and 01/01 is 103
    ∷ compares 2 2 1 (0 ∷ 0 ∷ 1 ∷ 1 ∷ []) (0 ∷ 1 ∷ 0 ∷ 1 ∷ []) 103
    -- M7: allperm fails for 223/231
    ∷ satisfies 2 3 (2 ∷ 2 ∷ 3 ∷ 2 ∷ 3 ∷ 1 ∷ []) false
    -- M8: it holds for 123/322
    ∷ satisfies 2 3 (1 ∷ 2 ∷ 3 ∷ 3 ∷ 2 ∷ 2 ∷ []) true
    -- M9: prune, top 3, [1,3] [0,3] / [0,1] [0,2] leaves [1,1] [0,2] / [1,1] [1,2], 5 removed
    ∷ prunes 2 2 3 (1 ∷ 0 ∷ 0 ∷ 0 ∷ []) (3 ∷ 3 ∷ 1 ∷ 2 ∷ []) (record { number = 0; count = 5; low = 1 ∷ 0 ∷ 1 ∷ 1 ∷ []; high = 1 ∷ 2 ∷ 1 ∷ 2 ∷ [] })
    -- M10: prune, top 3, [2,3] / [0,1] is 102
    ∷ prunes 2 1 3 (2 ∷ 0 ∷ []) (3 ∷ 1 ∷ []) (record { number = 102; count = 0; low = 2 ∷ 0 ∷ []; high = 3 ∷ 1 ∷ [] })
    ∷ []

unfoldable pub MarkedPlans : Type 0
MarkedPlans = All Holds table
