-- Programs for represent and same, as functions of the numbers and slices that they are lent.
--
--   RepresentProgram  ==  programs for represent
--   MeetsRepresent f  ==  f meets represent's contract, on what it can be lent
--   SameProgram       ==  programs for same
--   MeetsSame f       ==  f meets same's contract, on what it can be lent
--   MeetsTerminalRepresent f, MeetsTerminalSame f  ==  f meets the contract of a terminal's represent, of a terminal's same, on what it can be lent
--   RepresentAlike f t, SameAlike f t  ==  for up to 5 rows the programs f and t answer alike, on what they can be lent, the pair of orders excepted
use Rattle.std.specs.Prelude.{◌≡◌, List, ℕ, ◌≤◌}
use Rattle.grids.specs.Lent.{Lent}
use Rattle.canonical.specs.Represent.{RepresentAnswer, Represented, TerminalRepresented}
use Rattle.canonical.specs.Same.{SameAnswer, Compared, TerminalCompared}

abbrev pub RepresentProgram : Type 0
RepresentProgram = (m n top : ℕ) → (g out : List ℕ) → RepresentAnswer

unfoldable pub MeetsRepresent : RepresentProgram → Type 0
MeetsRepresent f = (m n top : ℕ) (g out : List ℕ) → Lent m n top g out → Represented m n top g out (f m n top g out)

abbrev pub SameProgram : Type 0
SameProgram = (m n top : ℕ) → (a b : List ℕ) → SameAnswer

unfoldable pub MeetsSame : SameProgram → Type 0
MeetsSame f = (m n top : ℕ) (a b : List ℕ) → Lent m n top a b → Compared m n top a b (f m n top a b)

-- ---- at a terminal

unfoldable pub MeetsTerminalRepresent : RepresentProgram → Type 0
MeetsTerminalRepresent f = (m n top : ℕ) (g out : List ℕ) → Lent m n top g out → TerminalRepresented m n top g out (f m n top g out)

unfoldable pub MeetsTerminalSame : SameProgram → Type 0
MeetsTerminalSame f = (m n top : ℕ) (a b : List ℕ) → Lent m n top a b → TerminalCompared m n top a b (f m n top a b)

unfoldable pub RepresentAlike : RepresentProgram → RepresentProgram → Type 0
RepresentAlike f t =
    (m n top : ℕ) (g out : List ℕ) → Lent m n top g out → m ≤ 5 → ((t m n top g out).number ≡ (f m n top g out).number) × ((t m n top g out).out ≡ (f m n top g out).out)

unfoldable pub SameAlike : SameProgram → SameProgram → Type 0
SameAlike f t =
    (m n top : ℕ) (a b : List ℕ) → Lent m n top a b → m ≤ 5 → ((t m n top a b).number ≡ (f m n top a b).number) × ((t m n top a b).agreed ≡ (f m n top a b).agreed)
