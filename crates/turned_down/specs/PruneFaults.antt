-- Faults of programs for prune, on bounds and slices that it can be lent.
--
--   Form              ==  bounds within the limits
--   pruned_by f x      ==  what the program f makes of them
--   HasGrid x         ==  some grid in them has allperm
--   Side, left_on, sent_on  ==  the lows or the highs; those that an outcome leaves, and those that were sent
--   NeverPrunes f     ==  every form is called empty, or refused
--   NeverEmpty f      ==  no form is called empty
--   RemovesNothing f  ==  the bounds stay as they were
--   RaisesNoLow f     ==  the lows stay as they were
--   LowersNoHigh f    ==  the highs do
--   unsorted m n g    ==  row 0 is at most every other row as it stands
--   PrunesUnsorted f  ==  the other rows are taken unsorted
--   InventsRemoved f  ==  the count does not go by the bounds
--   WritesEmpty side f  ==  of some form with 102 the bounds of one side are changed
--   CountsEmpty f     ==  of some form with 102 values are said to be removed
--   ShortensBounds side f  ==  of some form that has a grid fewer or more bounds are left than it has cells
--   LeavesAboveTop f  ==  of some such form a high above top is left
--   RefusedCall, refused_by f x  ==  a call of which some question gets a no; what the program f makes of it
--   IgnoresOrder f    ==  some call whose first no is that of question 8 is not refused by it
--   PruneWritesRefusing side f  ==  some refusal changes the bounds of one side
--   CountsRefusing f  ==  with some refusal values are said to be removed
--   prune_faults       ==  these, each against a contract
use Rattle.std.specs.Prelude.{◌≡◌, List, [], ◌∷◌, Bool, ℕ, suc, ◌-◌, ◌*◌, ◌<◌, length, get_or}
use Rattle.permutations.specs.Lists.{tabulate, every}
use Rattle.grids.specs.Order.{leq}
use Rattle.grids.specs.Grids.{row}
use Rattle.grids.specs.Questions.{first_no, Limits}
use Rattle.grids.specs.Lent.{Lent}
use Rattle.bounds.specs.Bounds.{IsBounds}
use Rattle.bounds.specs.Kept.{Obeyed, kept_low}
use Rattle.bounds.specs.Allperm.{Allperm}
use Rattle.bounds.specs.Prune.{Pruned, prune_questions}
use Rattle.bounds.specs.Demand2.{PruneProgram, PruneExact, MeetsPrune}
use Rattle.turned_down.specs.Faults.{Fault, fault}

pub record Form : Type 0 where
  pub rows : ℕ
  pub columns : ℕ
  pub top : ℕ
  pub low : List ℕ
  pub high : List ℕ
  pub limits : Limits rows columns top
  pub bounds : IsBounds (rows * columns) top low high

abbrev pub pruned_by : PruneProgram → Form → Pruned
pruned_by f x = f x.rows x.columns x.top x.low x.high

abbrev pub HasGrid : Form → Type 0
HasGrid x = Obeyed (Allperm x.rows x.columns) (x.rows * x.columns) x.top x.low x.high

pub data Side : Type 0 where
  lows : Side
  highs : Side

abbrev pub left_on : Side → Pruned → List ℕ
left_on lows r = r.low
left_on highs r = r.high

abbrev pub sent_on : Side → List ℕ → List ℕ → List ℕ
sent_on lows low high = low
sent_on highs low high = high

-- ---- what is kept

unfoldable pub NeverPrunes : PruneProgram → Type 0
NeverPrunes f = (x : Form) → (pruned_by f x).number ≡ 0 → ⊥

unfoldable pub NeverEmpty : PruneProgram → Type 0
NeverEmpty f = (x : Form) → (pruned_by f x).number ≡ 102 → ⊥

unfoldable pub RemovesNothing : PruneProgram → Type 0
RemovesNothing f = (x : Form) → (pruned_by f x).number ≡ 0 → ((pruned_by f x).low ≡ x.low) × ((pruned_by f x).high ≡ x.high)

unfoldable pub RaisesNoLow : PruneProgram → Type 0
RaisesNoLow f = (x : Form) → (pruned_by f x).number ≡ 0 → (pruned_by f x).low ≡ x.low

unfoldable pub LowersNoHigh : PruneProgram → Type 0
LowersNoHigh f = (x : Form) → (pruned_by f x).number ≡ 0 → (pruned_by f x).high ≡ x.high

unfoldable pub unsorted : ℕ → ℕ → List ℕ → Bool
unsorted m n g = every (λ i. leq (row n g 0) (row n g i)) (tabulate 1 (m - 1) (λ i. i))

unfoldable pub PrunesUnsorted : PruneProgram → Type 0
PrunesUnsorted f =
    (x : Form) → (pruned_by f x).number ≡ 0 → (pruned_by f x).low ≡ kept_low (unsorted x.rows x.columns) (x.rows * x.columns) x.top x.low x.high

unfoldable pub InventsRemoved : PruneProgram → Type 0
InventsRemoved f = (x y : Form) → (pruned_by f x).number ≡ 0 → (pruned_by f y).number ≡ 0 → (pruned_by f x).count ≡ (pruned_by f y).count

-- ---- what is left

pub record WritesEmpty (side : Side) (f : PruneProgram) : Type 0 where
  pub on : Form
  pub empty : (pruned_by f on).number ≡ 102
  pub changed : left_on side (pruned_by f on) ≡ sent_on side on.low on.high → ⊥

pub record CountsEmpty (f : PruneProgram) : Type 0 where
  pub on : Form
  pub empty : (pruned_by f on).number ≡ 102
  pub counts : (pruned_by f on).count ≡ 0 → ⊥

pub record ShortensBounds (side : Side) (f : PruneProgram) : Type 0 where
  pub on : Form
  pub some : HasGrid on
  pub unsized : length (left_on side (pruned_by f on)) ≡ on.rows * on.columns → ⊥

pub record LeavesAboveTop (f : PruneProgram) : Type 0 where
  pub on : Form
  pub some : HasGrid on
  pub cell : ℕ
  pub inside : cell < on.rows * on.columns
  pub above : on.top < get_or (pruned_by f on).high cell 0

-- ---- what is refused

pub record RefusedCall : Type 0 where
  pub rows : ℕ
  pub columns : ℕ
  pub top : ℕ
  pub low : List ℕ
  pub high : List ℕ
  pub lent : Lent rows columns top low high
  pub no : ℕ
  pub first : first_no (prune_questions rows columns top low high) ≡ suc no

abbrev pub refused_by : PruneProgram → RefusedCall → Pruned
refused_by f x = f x.rows x.columns x.top x.low x.high

pub record IgnoresOrder (f : PruneProgram) : Type 0 where
  pub on : RefusedCall
  pub order : on.no ≡ 7
  pub ignored : (refused_by f on).number ≡ 8 → ⊥

pub record PruneWritesRefusing (side : Side) (f : PruneProgram) : Type 0 where
  pub on : RefusedCall
  pub changed : left_on side (refused_by f on) ≡ sent_on side on.low on.high → ⊥

pub record CountsRefusing (f : PruneProgram) : Type 0 where
  pub on : RefusedCall
  pub counts : (refused_by f on).count ≡ 0 → ⊥

-- ---- as a list

-- by demand 2: every form called empty, nothing removed; the other row unsorted; what is left and counted
unfoldable pub prune_faults : List Fault
prune_faults =
    fault PruneExact NeverPrunes
    ∷ fault PruneExact NeverEmpty
    ∷ fault PruneExact RemovesNothing
    ∷ fault PruneExact RaisesNoLow
    ∷ fault PruneExact LowersNoHigh
    ∷ fault PruneExact PrunesUnsorted
    ∷ fault PruneExact InventsRemoved
    ∷ fault PruneExact (WritesEmpty lows)
    ∷ fault PruneExact (WritesEmpty highs)
    ∷ fault PruneExact CountsEmpty
    ∷ fault PruneExact (ShortensBounds lows)
    ∷ fault PruneExact (ShortensBounds highs)
    ∷ fault PruneExact LeavesAboveTop
    -- by prune's contract: the order of bounds not asked, and what is changed or counted with a refusal
    ∷ fault MeetsPrune IgnoresOrder
    ∷ fault MeetsPrune (PruneWritesRefusing lows)
    ∷ fault MeetsPrune (PruneWritesRefusing highs)
    ∷ fault MeetsPrune CountsRefusing
    ∷ []
