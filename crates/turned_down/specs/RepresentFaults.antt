-- Faults of programs for represent. Each is that of some call, as it can be lent, something happens on it. The first are of a grid within the limits.
--
--   Sent                ==  three numbers and two slices, as represent or same can be lent them
--   on f s              ==  what f answers to them
--   Fitting most        ==  a grid within the limits, of at most that many rows, and an output slice of its length
--   HandsBack most f    ==  such a grid, not the least of its class, is handed back as its own least
--   OneForTwo f         ==  one grid is given for two grids in two classes
--   RefusesPlan f        ==  a grid within the limits is refused
--   sorted_both_ways m n g  ==  the rows of g ascend from the top, and its columns from the left
--   SortsByTurns f      ==  a grid whose rows and columns are sorted is called least, and is not: sorting rows and columns by turns ends on such a grid
--   equal_rows n g       ==  the two rows of g have the same values, and so are equally good to begin with
--   first_row_first n g o ==  o is an arrangement of g's two rows with the first of them first
--   FollowsFirst f      ==  of two such rows only the first is followed, though the second is to come first
--   by_orders s rows columns x, returned f s x  ==  the arrangement of x by such orders, and by those that f returns
--   OrdersBackwards f   ==  the orders returned produce the grid from what was written, and not what was written from the grid
--   FillsPast width m order  ==  in an order of `width` positions one past the first m holds another number than its own
--   FillsPastRows f, FillsPastColumns f  ==  so it is of the row order returned, of the column order
--   IgnoresLength f     ==  the grid's length is wrong, and not refused
--   IgnoresCells f      ==  a cell above top is not refused
--   WritesRefusing f    ==  a refusal changes the output slice
--   MovesRowsRefusing f, MovesColumnsRefusing f  ==  a refusal returns a row order, a column order that moves something
--   represent_faults  ==  these, each against a contract
use Rattle.std.specs.Prelude.{◌≡◌, List, [], ◌∷◌, Bool, true, false, ◌&&◌, ℕ, suc, ◌-◌, ◌*◌, ◌≤◌, ◌<◌, length, take, get_or}
use Rattle.permutations.specs.Lists.{numbers, every, some}
use Rattle.permutations.specs.Permutations.{identity, permutations}
use Rattle.grids.specs.Order.{leq, equal}
use Rattle.grids.specs.Grids.{IsGrid, row, column, permuted_row, arrangement}
use Rattle.grids.specs.Least.{least}
use Rattle.grids.specs.Questions.{first_no, Limits}
use Rattle.grids.specs.Lent.{Lent}
use Rattle.canonical.specs.Represent.{represent_questions}
use Rattle.canonical.specs.Programs.{RepresentProgram, MeetsRepresent}
use Rattle.canonical.specs.Demand2.{RepresentLeast}
use Rattle.turned_down.specs.Faults.{Fault, fault}

pub record Sent : Type 0 where
  pub rows : ℕ
  pub columns : ℕ
  pub top : ℕ
  pub first : List ℕ
  pub second : List ℕ
  pub lent : Lent rows columns top first second

abbrev pub on : {A : Type 0} → ((m n top : ℕ) → (x y : List ℕ) → A) → Sent → A
on f s = f s.rows s.columns s.top s.first s.second

pub record Fitting (most : ℕ) : Type 0 where
  pub sent : Sent
  pub few : sent.rows ≤ most
  pub limits : Limits sent.rows sent.columns sent.top
  pub grid : IsGrid sent.rows sent.columns sent.top sent.first
  pub out-sized : length sent.second ≡ sent.rows * sent.columns

-- ---- grids within the limits

pub record HandsBack (most : ℕ) (f : RepresentProgram) : Type 0 where
  pub fitting : Fitting most
  pub not_least : least fitting.sent.rows fitting.sent.columns fitting.sent.first ≡ fitting.sent.first → ⊥
  pub back : (on f fitting.sent).out ≡ fitting.sent.first

pub record OneForTwo (f : RepresentProgram) : Type 0 where
  pub fitting : Fitting 8
  pub other : Fitting 8
  pub two-leasts : least fitting.sent.rows fitting.sent.columns fitting.sent.first ≡ least other.sent.rows other.sent.columns other.sent.first → ⊥
  pub one : (on f fitting.sent).out ≡ (on f other.sent).out

pub record RefusesPlan (f : RepresentProgram) : Type 0 where
  pub fitting : Fitting 8
  pub refuses : (on f fitting.sent).number ≡ 0 → ⊥

unfoldable pub sorted_both_ways : ℕ → ℕ → List ℕ → Bool
sorted_both_ways m n g =
    every (λ i. leq (row n g i) (row n g (suc i))) (numbers (m - 1)) && every (λ j. leq (column m n g j) (column m n g (suc j))) (numbers (n - 1))

pub record SortsByTurns (f : RepresentProgram) : Type 0 where
  pub back : HandsBack 8 f
  pub sorted : sorted_both_ways back.fitting.sent.rows back.fitting.sent.columns back.fitting.sent.first ≡ true

unfoldable pub equal_rows : ℕ → List ℕ → Bool
equal_rows n g = some (λ q. equal (row n g 0) (permuted_row n g 1 q)) (permutations n)

unfoldable pub first_row_first : ℕ → List ℕ → List ℕ → Bool
first_row_first n g o = some (λ q. equal (arrangement 2 n (0 ∷ 1 ∷ []) q g) o) (permutations n)

pub record FollowsFirst (f : RepresentProgram) : Type 0 where
  pub fitting : Fitting 8
  pub two-rows : fitting.sent.rows ≡ 2
  pub equally-good : equal_rows fitting.sent.columns fitting.sent.first ≡ true
  pub second-first : first_row_first fitting.sent.columns fitting.sent.first (least fitting.sent.rows fitting.sent.columns fitting.sent.first) ≡ false
  pub follows : first_row_first fitting.sent.columns fitting.sent.first (on f fitting.sent).out ≡ true

abbrev pub by_orders : Sent → List ℕ → List ℕ → List ℕ → List ℕ
by_orders s rows columns x = arrangement s.rows s.columns (take s.rows rows) (take s.columns columns) x

abbrev pub returned : RepresentProgram → Sent → List ℕ → List ℕ
returned f s x = by_orders s (on f s).rows (on f s).columns x

pub record OrdersBackwards (f : RepresentProgram) : Type 0 where
  pub fitting : Fitting 8
  pub backwards : returned f fitting.sent (on f fitting.sent).out ≡ fitting.sent.first
  pub not-forwards : returned f fitting.sent fitting.sent.first ≡ (on f fitting.sent).out → ⊥

pub record FillsPast (width m : ℕ) (order : List ℕ) : Type 0 where
  pub at : ℕ
  pub past : m ≤ at
  pub within : at < width
  pub other : get_or order at 0 ≡ at → ⊥

pub record FillsPastRows (f : RepresentProgram) : Type 0 where
  pub fitting : Fitting 8
  pub fills : FillsPast 8 fitting.sent.rows (on f fitting.sent).rows

pub record FillsPastColumns (f : RepresentProgram) : Type 0 where
  pub fitting : Fitting 8
  pub fills : FillsPast 16 fitting.sent.columns (on f fitting.sent).columns

-- ---- the questions, and refusals

pub record IgnoresLength (f : RepresentProgram) : Type 0 where
  pub sent : Sent
  pub asked : first_no (on represent_questions sent) ≡ 6
  pub out-sized : length sent.second ≡ sent.rows * sent.columns
  pub unrefused : (on f sent).number ≡ 6 → ⊥

pub record IgnoresCells (f : RepresentProgram) : Type 0 where
  pub sent : Sent
  pub asked : first_no (on represent_questions sent) ≡ 7
  pub unrefused : (on f sent).number ≡ 7 → ⊥

pub record WritesRefusing (f : RepresentProgram) : Type 0 where
  pub sent : Sent
  pub refuses : (on f sent).number ≡ 0 → ⊥
  pub writes : (on f sent).out ≡ sent.second → ⊥

pub record MovesRowsRefusing (f : RepresentProgram) : Type 0 where
  pub sent : Sent
  pub refuses : (on f sent).number ≡ 0 → ⊥
  pub moves : (on f sent).rows ≡ identity 8 → ⊥

pub record MovesColumnsRefusing (f : RepresentProgram) : Type 0 where
  pub sent : Sent
  pub refuses : (on f sent).number ≡ 0 → ⊥
  pub moves : (on f sent).columns ≡ identity 16 → ⊥

-- ---- as a list

-- by demand 2: the grid handed back as its own least, one grid for all; with the questions: refusing all
unfoldable pub represent_faults : List Fault
represent_faults =
    fault RepresentLeast (HandsBack 8)
    ∷ fault RepresentLeast OneForTwo
    ∷ fault RepresentLeast RefusesPlan
    -- how plans get confused: sorting by turns, following only the first of equally good rows
    ∷ fault RepresentLeast SortsByTurns
    ∷ fault RepresentLeast FollowsFirst
    -- the orders that represent returns
    ∷ fault RepresentLeast OrdersBackwards
    ∷ fault RepresentLeast FillsPastRows
    ∷ fault RepresentLeast FillsPastColumns
    -- its questions and refusals
    ∷ fault MeetsRepresent IgnoresLength
    ∷ fault MeetsRepresent IgnoresCells
    ∷ fault MeetsRepresent WritesRefusing
    ∷ fault MeetsRepresent MovesRowsRefusing
    ∷ fault MeetsRepresent MovesColumnsRefusing
    ∷ []
