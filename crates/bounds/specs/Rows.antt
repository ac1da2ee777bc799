-- Two rows: the lows of row 0 and the highs of another row. Between functions: no answer of a call is defined here.
-- A row of n columns is given by a value for each column number: x for the lows of row 0, y for the highs of the other row, s for these sorted.
--
--   cell_at l                      ==  the row whose values are the entries of l
--   put x c v                     ==  the row x with the value v in column c
--   Values n top x                ==  each of the n values of x is 0 to top
--   Ordered n x h                 ==  each of the n values of x ranks no higher than that of h
--   Leads n x y                   ==  x comes no later than any permutation of y: what allperm asks of row 0 and another row
--   IsSorted n y s                ==  s is y with its columns in an order in which the values ascend by rank
--   AgreeTo n x s shift from t    ==  t is the first column from `from` on at which x differs from s at `shift` columns before; n if none does
--   SaysBelow b n x s shift at    ==  b tells whether x ends before the column `at`, or has there a value that ranks below s's at `shift` columns before
--   SaysUnder b n x s at          ==  b tells whether s has, just before the column `at`, a value above x's at it; so too where x ends before it
--   NoLater n x s from            ==  compared from the column `from` on, x comes no later than s
--   SaysNoLater b n x s from      ==  b tells whether it does
--   Parted n x s at               ==  x comes no later than s, and `at` is the first column where they differ; n if none does
--   Threshold n top x y c t       ==  a value up to y's in column c lets x lead exactly if it ranks no lower than t
--   low_for z y                    ==  the lowest value that the numbers z allow where the high is y
--   IsLows n x s z                ==  where s is y sorted, z gives each column of y its threshold
--   Cap n top x y c t             ==  a value from x's on in column c lets x lead exactly if it ranks no higher than t
--   IsCap n x s c t               ==  where s is y sorted, t is the cap of column c
--   RaisedTo n z l y l'           ==  l' has in each column the low l, or the lowest value that z allows where the high is y, whichever is higher
--   Raised Rule n top y l l'      ==  of the values from l up to y's in a column, the rule allows exactly those that rank no lower than l'
--   Lowered Rule n top x h h'      ==  of the values from x's up to h in a column, the rule allows exactly those that rank no higher than h'
--   IsHighs n x s h h'            ==  where s is y sorted, x leads y with the values up to h in a column exactly if they rank no higher than h'
--   RowSizes n high highs lows  ==  the slices of a row have its length, 1 to 16
--   RowPruned n top x l y h h' l' ==  x leads y; the lows l of y's row become l', and the highs h of x's row become h'
--   RowOutcome b n x l y h h' l'  ==  b tells whether x leads y, and if it does, the row is pruned
use Rattle.std.specs.Prelude.{◌≡◌, List, Bool, true, false, ◌↔◌, ℕ, ◌-◌, ◌≤◌, ◌<◌, length, get_or, eqb, ltb}
use Rattle.permutations.specs.Lists.{tabulate}
use Rattle.permutations.specs.Permutations.{IsPermutation}
use Rattle.grids.specs.Order.{rank, higher, ◌≼◌}
use Rattle.bounds.specs.declared.lows.RowLows.{RowLows}

abbrev pub cell_at : List ℕ → ℕ → ℕ
cell_at l j = get_or l j 0

unfoldable pub put : (ℕ → ℕ) → ℕ → ℕ → ℕ → ℕ
put x c v j = elim (eqb j c) [ true ↦ v | false ↦ x j ]

abbrev pub Values : ℕ → ℕ → (ℕ → ℕ) → Type 0
Values n top x = (j : ℕ) → j < n → x j ≤ top

abbrev pub Ordered : ℕ → (ℕ → ℕ) → (ℕ → ℕ) → Type 0
Ordered n x h = (j : ℕ) → j < n → rank (x j) ≤ rank (h j)

unfoldable pub Leads : ℕ → (ℕ → ℕ) → (ℕ → ℕ) → Type 0
Leads n x y = (q : List ℕ) → IsPermutation n q → tabulate 0 n x ≼ tabulate 0 n (λ j. y (get_or q j 0))

pub record IsSorted (n : ℕ) (y s : ℕ → ℕ) : Type 0 where
  pub order : List ℕ
  pub permutation : IsPermutation n order
  pub values : (t : ℕ) → t < n → s t ≡ y (get_or order t 0)
  pub ascend : (a b : ℕ) → a ≤ b → b < n → rank (s a) ≤ rank (s b)

-- ---- where two rows part

pub record AgreeTo (n : ℕ) (x s : ℕ → ℕ) (shift from t : ℕ) : Type 0 where
  pub from_on : from ≤ t
  pub up_to : t ≤ n
  pub equal : (j : ℕ) → from ≤ j → j < t → x j ≡ s (j - shift)
  pub unequal : t < n → x t ≡ s (t - shift) → ⊥

unfoldable pub SaysBelow : Bool → ℕ → (ℕ → ℕ) → (ℕ → ℕ) → ℕ → ℕ → Type 0
SaysBelow true n x s shift at = at < n → rank (x at) < rank (s (at - shift))
SaysBelow false n x s shift at = (at < n) × (rank (s (at - shift)) ≤ rank (x at))

unfoldable pub SaysUnder : Bool → ℕ → (ℕ → ℕ) → (ℕ → ℕ) → ℕ → Type 0
SaysUnder true n x s at = (0 < at) × (at < n → rank (x at) < rank (s (at - 1)))
SaysUnder false n x s at = (at < n) × (0 < at → rank (s (at - 1)) ≤ rank (x at))

unfoldable pub NoLater : ℕ → (ℕ → ℕ) → (ℕ → ℕ) → ℕ → Type 0
NoLater n x s from = (t : ℕ) → from ≤ t → t < n → ((j : ℕ) → from ≤ j → j < t → x j ≡ s j) → rank (x t) ≤ rank (s t)

unfoldable pub SaysNoLater : Bool → ℕ → (ℕ → ℕ) → (ℕ → ℕ) → ℕ → Type 0
SaysNoLater true n x s from = NoLater n x s from
SaysNoLater false n x s from = NoLater n x s from → ⊥

pub record Parted (n : ℕ) (x s : ℕ → ℕ) (at : ℕ) : Type 0 where
  pub agree : AgreeTo n x s 0 0 at
  pub before : at < n → rank (x at) < rank (s at)

-- ---- the lows of the other row

pub record Threshold (n top : ℕ) (x y : ℕ → ℕ) (c t : ℕ) : Type 0 where
  pub within : t ≤ top
  pub exact : (v : ℕ) → v ≤ top → rank v ≤ rank (y c) → Leads n x (put y c v) ↔ (rank t ≤ rank v)

unfoldable pub low_for : RowLows → ℕ → ℕ
low_for z y =
    elim (ltb (rank y) (rank z.floor)) [
      | true ↦ y
      | false ↦ elim (ltb (rank y) (rank z.limit)) [ true ↦ z.least | false ↦ z.raised ]
    ]

unfoldable pub IsLows : ℕ → (ℕ → ℕ) → (ℕ → ℕ) → RowLows → Type 0
IsLows n x s z = (top : ℕ) (y : ℕ → ℕ) → Values n top x → Values n top s → IsSorted n y s → (c : ℕ) → c < n → Threshold n top x y c (low_for z (y c))

unfoldable pub RaisedTo : ℕ → RowLows → (ℕ → ℕ) → (ℕ → ℕ) → (ℕ → ℕ) → Type 0
RaisedTo n z l y l' = (c : ℕ) → c < n → l' c ≡ higher (l c) (low_for z (y c))

pub record Raised (Rule : (ℕ → ℕ) → Type 0) (n top : ℕ) (y l l' : ℕ → ℕ) : Type 0 where
  pub within : Values n top l'
  pub exact : (c v : ℕ) → c < n → v ≤ top → rank v ≤ rank (y c) → ((rank (l c) ≤ rank v) × Rule (put y c v)) ↔ (rank (l' c) ≤ rank v)

-- ---- the highs of row 0

pub record Cap (n top : ℕ) (x y : ℕ → ℕ) (c t : ℕ) : Type 0 where
  pub within : t ≤ top
  pub exact : (v : ℕ) → v ≤ top → rank (x c) ≤ rank v → Leads n (put x c v) y ↔ (rank v ≤ rank t)

unfoldable pub IsCap : ℕ → (ℕ → ℕ) → (ℕ → ℕ) → ℕ → ℕ → Type 0
IsCap n x s c t = (top : ℕ) (y : ℕ → ℕ) → Values n top s → IsSorted n y s → Cap n top x y c t

pub record Lowered (Rule : (ℕ → ℕ) → Type 0) (n top : ℕ) (x h h' : ℕ → ℕ) : Type 0 where
  pub within : Values n top h'
  pub exact : (c v : ℕ) → c < n → v ≤ top → rank (x c) ≤ rank v → ((rank v ≤ rank (h c)) × Rule (put x c v)) ↔ (rank v ≤ rank (h' c))

unfoldable pub IsHighs : ℕ → (ℕ → ℕ) → (ℕ → ℕ) → (ℕ → ℕ) → (ℕ → ℕ) → Type 0
IsHighs n x s h h' =
    (top : ℕ) (y : ℕ → ℕ) → Values n top x → Values n top s → Values n top h → Ordered n x h → IsSorted n y s → Lowered (λ z. Leads n z y) n top x h h'

-- ---- both

pub record RowSizes (n : ℕ) (high highs lows : List ℕ) : Type 0 where
  pub some : 0 < n
  pub limit : n ≤ 16
  pub high-size : length high ≡ n
  pub highs-size : length highs ≡ n
  pub lows-size : length lows ≡ n

pub record RowPruned (n top : ℕ) (x l y h h' l' : ℕ → ℕ) : Type 0 where
  pub leads : Leads n x y
  pub raised : Raised (λ z. Leads n x z) n top y l l'
  pub lowered : Lowered (λ z. Leads n z y) n top x h h'

unfoldable pub RowOutcome : Bool → ℕ → (ℕ → ℕ) → (ℕ → ℕ) → (ℕ → ℕ) → (ℕ → ℕ) → (ℕ → ℕ) → (ℕ → ℕ) → Type 0
RowOutcome true n x l y h h' l' =
    (top : ℕ) → Values n top x → Values n top l → Values n top y → Values n top h → Ordered n x h → RowPruned n top x l y h h' l'
RowOutcome false n x l y h h' l' = Leads n x y → ⊥
