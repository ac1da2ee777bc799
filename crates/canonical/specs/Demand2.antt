-- Demand 2's sentence on represent: the representative is the row-wise least of all arrangements, and the two orders returned produce it.
--
--   AnswersLeast width m n g r  ==  the answer r is 0, the least of all arrangements of g, and two orders that produce it
--   RepresentLeast f  ==  the sentence, of a program for represent: for every grid within the limits and every output slice of bytes of its length
--   TerminalRepresentLeast f  ==  the same of a program for a terminal's represent, for up to 5 rows
use Rattle.std.specs.Prelude.{◌≡◌, List, ℕ, ◌*◌, ◌≤◌, length}
use Rattle.grids.specs.Grids.{IsGrid}
use Rattle.grids.specs.Least.{IsLeast}
use Rattle.grids.specs.Questions.{Limits}
use Rattle.grids.specs.Lent.{Bytes}
use Rattle.canonical.specs.Represent.{Produces, RepresentAnswer}
use Rattle.canonical.specs.Programs.{RepresentProgram}

pub record AnswersLeast (width m n : ℕ) (g : List ℕ) (r : RepresentAnswer) : Type 0 where
  pub number_is : r.number ≡ 0
  pub is-least : IsLeast m n g r.out
  pub produced : Produces width m n g r.out r.rows r.columns

unfoldable pub RepresentLeast : RepresentProgram → Type 0
RepresentLeast f =
    (m n top : ℕ) (g out : List ℕ) → Limits m n top → IsGrid m n top g → Bytes out → length out ≡ m * n → AnswersLeast 8 m n g (f m n top g out)

unfoldable pub TerminalRepresentLeast : RepresentProgram → Type 0
TerminalRepresentLeast f =
    (m n top : ℕ) (g out : List ℕ) → m ≤ 5 → Limits m n top → IsGrid m n top g → Bytes out → length out ≡ m * n → AnswersLeast 5 m n g (f m n top g out)
