-- Bounds that prune makes narrower, row after row. Between functions: no answer of a call is defined here.
--
--   row_of n l i              ==  row i of a list of bounds for n columns, by its columns
--   AllLead m n x high       ==  x leads the highs of every row but row 0
--   Narrowed m n top low high low' high'  ==  each row is pruned with row 0: low' and high' are the new bounds
--   NarrowOutcome b m n low high low' high'  ==  b tells whether the lows of row 0 lead the highs of every other row, and if they do, all rows are pruned
--   NarrowSizes m n low high low' high'  ==  the rows are 1 to 8, the columns 1 to 16, and the slices have a value for each cell
--   Inside size top low high low' high'  ==  low' and high' are bounds within the bounds low and high
--   removed_by size top low high low' high'   ==  how many values the bounds low and high have and low' and high' have not, summed over the cells
use Rattle.std.specs.Prelude.{◌≡◌, Bool, true, false, ℕ, ◌+◌, ◌*◌, ◌-◌, ◌≤◌, ◌<◌, length, get_or}
use mathlib.Core.List.{List, foldr}
use Rattle.permutations.specs.Lists.{tabulate}
use Rattle.grids.specs.Order.{rank}
use Rattle.grids.specs.Grids.{cell}
use Rattle.bounds.specs.Bounds.{IsBounds, between}
use Rattle.bounds.specs.Rows.{Leads, Raised, Lowered}

abbrev pub row_of : ℕ → List ℕ → ℕ → ℕ → ℕ
row_of n l i j = cell n l i j

abbrev pub AllLead : ℕ → ℕ → (ℕ → ℕ) → List ℕ → Type 0
AllLead m n x high = (i : ℕ) → 0 < i → i < m → Leads n x (row_of n high i)

pub record Narrowed (m n top : ℕ) (low high low' high' : List ℕ) : Type 0 where
  pub leads : AllLead m n (row_of n low 0) high
  pub raised : (i : ℕ) → 0 < i → i < m → Raised (Leads n (row_of n low 0)) n top (row_of n high i) (row_of n low i) (row_of n low' i)
  pub lowered : Lowered (λ x. AllLead m n x high) n top (row_of n low 0) (row_of n high 0) (row_of n high' 0)
  -- the lows of row 0 and the highs of the others are as they were
  pub low-size : length low' ≡ length low
  pub high-size : length high' ≡ length high
  pub low-kept : (k : ℕ) → k < n → get_or low' k 0 ≡ get_or low k 0
  pub high-kept : (k : ℕ) → n ≤ k → get_or high' k 0 ≡ get_or high k 0

abbrev pub NarrowOutcome : Bool → ℕ → ℕ → List ℕ → List ℕ → List ℕ → List ℕ → Type 0
NarrowOutcome true m n low high low' high' = (top : ℕ) → IsBounds (m * n) top low high → Narrowed m n top low high low' high'
NarrowOutcome false m n low high low' high' = AllLead m n (row_of n low 0) high → ⊥

pub record NarrowSizes (m n : ℕ) (low high low' high' : List ℕ) : Type 0 where
  pub rows-limits : (1 ≤ m) × (m ≤ 8)
  pub column-limits : (1 ≤ n) × (n ≤ 16)
  pub low-size : length low ≡ m * n
  pub high-size : length high ≡ m * n
  pub new-low-size : length low' ≡ m * n
  pub new-high-size : length high' ≡ m * n

pub record Inside (size top : ℕ) (low high low' high' : List ℕ) : Type 0 where
  pub old : IsBounds size top low high
  pub new : IsBounds size top low' high'
  pub above : (k : ℕ) → k < size → rank (get_or low k 0) ≤ rank (get_or low' k 0)
  pub below : (k : ℕ) → k < size → rank (get_or high' k 0) ≤ rank (get_or high k 0)

unfoldable pub removed_by : ℕ → ℕ → List ℕ → List ℕ → List ℕ → List ℕ → ℕ
removed_by size top low high low' high' =
    foldr ◌+◌ 0 (tabulate 0 size (λ k. length (between top (get_or low k 0) (get_or high k 0)) - length (between top (get_or low' k 0) (get_or high' k 0))))
