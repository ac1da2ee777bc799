-- Faults of programs for same. Each is that of some call, as it can be lent, something happens on it.
--
--   DeniesClass f        ==  two grids in one class are not said to be
--   row_sums m n g      ==  the sums of the rows
--   JudgesByRowSums f  ==  two grids in two classes, with the same row sums, are said to be in one
--   ComparesSorted f   ==  two grids in one class are said to be in two, though the rows and columns of both are sorted
--   carried f s x      ==  the arrangement of x by the orders that f returns
--   OrdersFromB f      ==  the orders returned produce A from B, and not B from A
--   SameFillsPastRows f, SameFillsPastColumns f  ==  in the row order, in the column order returned with 0 a position past the rows, past the columns holds another number than its own
--   IgnoresB f         ==  a cell of B above top is not refused
--   MovesRowsUnmatched f, MovesColumnsUnmatched f  ==  a refusal, or 103, returns a row order, a column order that moves something
--   agreeing s         ==  how many leading cells of the representatives of the two grids agree
--   AgreesAsSent f     ==  with 103 the cells that agree are counted in the grids as sent, and not in the representatives
--   MiscountsByOne f   ==  with 103 one cell too many is counted, or one too few
--   AgreesInNone f     ==  with 0 no cell is said to agree
--   AgreesRefusing f   ==  in a refusal some cell is said to agree
--   same_faults  ==  these, each against a contract
use Rattle.std.specs.Prelude.{◌≡◌, true, ◌⊎◌, ℕ, suc, ◌+◌, ◌*◌}
use mathlib.Core.List.{List, foldr, [], ◌∷◌}
use Rattle.permutations.specs.Lists.{tabulate}
use Rattle.permutations.specs.Permutations.{identity}
use Rattle.grids.specs.Order.{equal}
use Rattle.grids.specs.CommonPrefix.{common_prefix_length}
use Rattle.grids.specs.Grids.{capped, row, OneClass}
use Rattle.grids.specs.Least.{least}
use Rattle.grids.specs.Questions.{first_no}
use Rattle.canonical.specs.Same.{same_questions}
use Rattle.canonical.specs.Programs.{SameProgram, MeetsSame}
use Rattle.turned_down.specs.RepresentFaults.{Sent, on, sorted_both_ways, FillsPast, by_orders}
use Rattle.turned_down.specs.Faults.{Fault, fault}

pub record DeniesClass (f : SameProgram) : Type 0 where
  pub sent : Sent
  pub asked : first_no (on same_questions sent) ≡ 0
  pub one-class : OneClass sent.rows sent.columns sent.first sent.second
  pub denied : (on f sent).number ≡ 0 → ⊥

unfoldable pub row_sums : ℕ → ℕ → List ℕ → List ℕ
row_sums m n g = tabulate 0 m (λ i. foldr ◌+◌ 0 (row n g i))

pub record JudgesByRowSums (f : SameProgram) : Type 0 where
  pub sent : Sent
  pub asked : first_no (on same_questions sent) ≡ 0
  pub two-classes : OneClass sent.rows sent.columns sent.first sent.second → ⊥
  pub one-sum : equal (row_sums sent.rows sent.columns sent.first) (row_sums sent.rows sent.columns sent.second) ≡ true
  pub said : (on f sent).number ≡ 0

pub record ComparesSorted (f : SameProgram) : Type 0 where
  pub sent : Sent
  pub asked : first_no (on same_questions sent) ≡ 0
  pub one-class : OneClass sent.rows sent.columns sent.first sent.second
  pub first-sorted : sorted_both_ways sent.rows sent.columns sent.first ≡ true
  pub second-sorted : sorted_both_ways sent.rows sent.columns sent.second ≡ true
  pub said : (on f sent).number ≡ 103

-- ---- the orders

abbrev pub carried : SameProgram → Sent → List ℕ → List ℕ
carried f s x = by_orders s (on f s).rows (on f s).columns x

pub record OrdersFromB (f : SameProgram) : Type 0 where
  pub sent : Sent
  pub zero : (on f sent).number ≡ 0
  pub from-b : carried f sent sent.second ≡ sent.first
  pub not-from-a : carried f sent sent.first ≡ sent.second → ⊥

pub record SameFillsPastRows (f : SameProgram) : Type 0 where
  pub sent : Sent
  pub zero : (on f sent).number ≡ 0
  pub fills : FillsPast 8 sent.rows (on f sent).rows

pub record SameFillsPastColumns (f : SameProgram) : Type 0 where
  pub sent : Sent
  pub zero : (on f sent).number ≡ 0
  pub fills : FillsPast 16 sent.columns (on f sent).columns

pub record MovesRowsUnmatched (f : SameProgram) : Type 0 where
  pub sent : Sent
  pub not-zero : (on f sent).number ≡ 0 → ⊥
  pub moves : (on f sent).rows ≡ identity 8 → ⊥

pub record MovesColumnsUnmatched (f : SameProgram) : Type 0 where
  pub sent : Sent
  pub not-zero : (on f sent).number ≡ 0 → ⊥
  pub moves : (on f sent).columns ≡ identity 16 → ⊥

-- ---- the questions, and the cells that agree

pub record IgnoresB (f : SameProgram) : Type 0 where
  pub sent : Sent
  pub asked : first_no (on same_questions sent) ≡ 7
  pub first-capped : capped sent.top sent.first ≡ true
  pub unrefused : (on f sent).number ≡ 7 → ⊥

-- how many leading cells of the two representatives agree
abbrev pub agreeing : Sent → ℕ
agreeing s = common_prefix_length (least s.rows s.columns s.first) (least s.rows s.columns s.second)

pub record AgreesAsSent (f : SameProgram) : Type 0 where
  pub sent : Sent
  pub with-103 : (on f sent).number ≡ 103
  pub as-sent : (on f sent).agreed ≡ common_prefix_length sent.first sent.second
  pub not-agreeing : common_prefix_length sent.first sent.second ≡ agreeing sent → ⊥

pub record MiscountsByOne (f : SameProgram) : Type 0 where
  pub sent : Sent
  pub with-103 : (on f sent).number ≡ 103
  pub by_one : ((on f sent).agreed ≡ suc (agreeing sent)) ⊎ (suc (on f sent).agreed ≡ agreeing sent)

pub record AgreesInNone (f : SameProgram) : Type 0 where
  pub sent : Sent
  pub zero : (on f sent).number ≡ 0
  pub some-cells : sent.rows * sent.columns ≡ 0 → ⊥
  pub none : (on f sent).agreed ≡ 0

pub record AgreesRefusing (f : SameProgram) : Type 0 where
  pub sent : Sent
  pub not-zero : (on f sent).number ≡ 0 → ⊥
  pub not-103 : (on f sent).number ≡ 103 → ⊥
  pub agrees : (on f sent).agreed ≡ 0 → ⊥

-- ---- as a list

-- by what a class is: a same that always says 103; row sums; sorted grids compared; its orders, questions and 103
unfoldable pub same_faults : List Fault
same_faults =
    fault MeetsSame DeniesClass
    ∷ fault MeetsSame JudgesByRowSums
    ∷ fault MeetsSame ComparesSorted
    ∷ fault MeetsSame OrdersFromB
    ∷ fault MeetsSame SameFillsPastRows
    ∷ fault MeetsSame SameFillsPastColumns
    ∷ fault MeetsSame IgnoresB
    ∷ fault MeetsSame MovesRowsUnmatched
    ∷ fault MeetsSame MovesColumnsUnmatched
    -- the cells that agree: in the grids as sent, one too many or too few, none where the plans are one, some after a refusal
    ∷ fault MeetsSame AgreesAsSent
    ∷ fault MeetsSame MiscountsByOne
    ∷ fault MeetsSame AgreesInNone
    ∷ fault MeetsSame AgreesRefusing
    ∷ []
