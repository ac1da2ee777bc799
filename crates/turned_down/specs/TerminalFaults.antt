-- Faults of programs for a terminal's represent and same. Each is that of some call, as it can be lent, something happens on it. Those of numbers and of row
-- orders are said of the number and of the row order that a call answers to three numbers and two slices, so that they are faults of represent and of same alike.
--
--   HandsBackMany f       ==  a grid of more than two rows, not the least of its class, is handed back as its own least
--   Answering, Ordering   ==  such numbers, such row orders
--   representing f, represent_rows f, comparing f, compared_rows f  ==  those of a program for represent, for same
--   AsksColumnsFirst k    ==  question 14 is asked after question 2
--   RefusesFewRows k      ==  at most 5 rows are refused by 14
--   Refuses9Rows k        ==  rows above 8 are
--   Never14 k             ==  6 to 8 rows are not
--   Keeps8Positions k p   ==  with 0 a row order of 8 positions is returned
--   Keeps8Refusing k p    ==  with another number it is
--   AgreesWith14 f        ==  with 14 some cell is said to agree
--   BothSets A            ==  two programs: one for the order system, one for a terminal
--   RepresentsUnlike p    ==  for up to 5 rows they represent a grid with one number, and write two grids
--   ComparesUnlike p      ==  for up to 5 rows they answer one number to two grids, and say that unlike numbers of cells agree
--   terminal_faults  ==  these, each against a contract
use Rattle.std.specs.Prelude.{◌≡◌, List, [], ◌∷◌, ℕ, ◌≤◌, ◌<◌, length}
use Rattle.canonical.specs.Programs.{RepresentProgram, SameProgram, MeetsTerminalRepresent, MeetsTerminalSame, RepresentAlike, SameAlike}
use Rattle.canonical.specs.Demand2.{TerminalRepresentLeast}
use Rattle.turned_down.specs.RepresentFaults.{Sent, on, HandsBack}
use Rattle.turned_down.specs.Faults.{Fault, fault}

pub record HandsBackMany (f : RepresentProgram) : Type 0 where
  pub back : HandsBack 5 f
  pub many : 2 < back.fitting.sent.rows

-- ---- numbers

abbrev pub Answering : Type 0
Answering = (m n top : ℕ) → (x y : List ℕ) → ℕ

abbrev pub representing : RepresentProgram → Answering
representing f m n top g out = (f m n top g out).number

abbrev pub comparing : SameProgram → Answering
comparing f m n top a b = (f m n top a b).number

pub record AsksColumnsFirst (k : Answering) : Type 0 where
  pub sent : Sent
  pub many : (6 ≤ sent.rows) × (sent.rows ≤ 8)
  pub wide : 16 < sent.columns
  pub columns-first : on k sent ≡ 2

pub record RefusesFewRows (k : Answering) : Type 0 where
  pub sent : Sent
  pub few : sent.rows ≤ 5
  pub refuses : on k sent ≡ 14

pub record Refuses9Rows (k : Answering) : Type 0 where
  pub sent : Sent
  pub above : 8 < sent.rows
  pub refuses : on k sent ≡ 14

pub record Never14 (k : Answering) : Type 0 where
  pub sent : Sent
  pub many : (6 ≤ sent.rows) × (sent.rows ≤ 8)
  pub unrefused : on k sent ≡ 14 → ⊥

-- ---- row orders, and the cells that agree

abbrev pub Ordering : Type 0
Ordering = (m n top : ℕ) → (x y : List ℕ) → List ℕ

abbrev pub represent_rows : RepresentProgram → Ordering
represent_rows f m n top g out = (f m n top g out).rows

abbrev pub compared_rows : SameProgram → Ordering
compared_rows f m n top a b = (f m n top a b).rows

pub record Keeps8Positions (k : Answering) (p : Ordering) : Type 0 where
  pub sent : Sent
  pub zero : on k sent ≡ 0
  pub eight : length (on p sent) ≡ 8

pub record Keeps8Refusing (k : Answering) (p : Ordering) : Type 0 where
  pub sent : Sent
  pub not-zero : on k sent ≡ 0 → ⊥
  pub eight : length (on p sent) ≡ 8

pub record AgreesWith14 (f : SameProgram) : Type 0 where
  pub sent : Sent
  pub with-14 : (on f sent).number ≡ 14
  pub agrees : (on f sent).agreed ≡ 0 → ⊥

-- ---- both sets

pub record BothSets (A : Type 0) : Type 0 where
  pub system : A
  pub terminal : A

pub record RepresentsUnlike (p : BothSets RepresentProgram) : Type 0 where
  pub sent : Sent
  pub few : sent.rows ≤ 5
  pub one_number : (on p.terminal sent).number ≡ (on p.system sent).number
  pub two-grids : (on p.terminal sent).out ≡ (on p.system sent).out → ⊥

pub record ComparesUnlike (p : BothSets SameProgram) : Type 0 where
  pub sent : Sent
  pub few : sent.rows ≤ 5
  pub one_number : (on p.terminal sent).number ≡ (on p.system sent).number
  pub unlike : (on p.terminal sent).agreed ≡ (on p.system sent).agreed → ⊥

-- ---- as a list

-- by demand 2 at a terminal: the grid handed back as its own least, also where it has more than two rows
unfoldable pub terminal_faults : List Fault
terminal_faults =
    fault TerminalRepresentLeast (HandsBack 5)
    ∷ fault TerminalRepresentLeast HandsBackMany
    -- by the questions of a terminal's represent and same: 14 asked after 2, for at most 5 rows, for rows above 8, never
    ∷ fault MeetsTerminalRepresent (λ f. AsksColumnsFirst (representing f))
    ∷ fault MeetsTerminalRepresent (λ f. RefusesFewRows (representing f))
    ∷ fault MeetsTerminalRepresent (λ f. Refuses9Rows (representing f))
    ∷ fault MeetsTerminalRepresent (λ f. Never14 (representing f))
    ∷ fault MeetsTerminalSame (λ f. AsksColumnsFirst (comparing f))
    ∷ fault MeetsTerminalSame (λ f. RefusesFewRows (comparing f))
    ∷ fault MeetsTerminalSame (λ f. Refuses9Rows (comparing f))
    ∷ fault MeetsTerminalSame (λ f. Never14 (comparing f))
    -- its row orders, and the cells that agree
    ∷ fault MeetsTerminalRepresent (λ f. Keeps8Positions (representing f) (represent_rows f))
    ∷ fault MeetsTerminalRepresent (λ f. Keeps8Refusing (representing f) (represent_rows f))
    ∷ fault MeetsTerminalSame (λ f. Keeps8Positions (comparing f) (compared_rows f))
    ∷ fault MeetsTerminalSame (λ f. Keeps8Refusing (comparing f) (compared_rows f))
    ∷ fault MeetsTerminalSame AgreesWith14
    -- both sets answer alike for up to 5 rows: the number, and the grid that is written or the cells that agree
    ∷ fault (λ (p : BothSets RepresentProgram). RepresentAlike p.system p.terminal) RepresentsUnlike
    ∷ fault (λ (p : BothSets SameProgram). SameAlike p.system p.terminal) ComparesUnlike
    ∷ []
