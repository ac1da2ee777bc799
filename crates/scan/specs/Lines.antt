-- The lines of entries, by their bytes: what layout's EntryLine and EntriesLaid come to. Between functions: no answer of a call is defined here.
--
--   LineLaid size top b at  ==  the cells and the holdings of the line at `at` are laid out, and its last byte is a line feed
--   Precedes size b p q     ==  the cells of the line at p come before those of the line at q
--   Follows size top b p q  ==  the line at q is laid out, and the one at p comes before it
--   LinesLaid size top n b  ==  the first n lines are laid out, each of which comes before the next
use Rattle.std.specs.Prelude.{◌≡◌, List, ℕ, ◌+◌, ◌-◌, ◌*◌, ◌<◌, get_or, drop}
use Rattle.grids.specs.Order.{◌≺◌}
use Rattle.layout.specs.Layout.{line_length, line_start, cells_of}
use Rattle.scan.specs.Cells.{CellsLaid}
use Rattle.scan.specs.Holdings.{HoldingsLaid}

pub record LineLaid (size top : ℕ) (b : List ℕ) (at : ℕ) : Type 0 where
  pub feed : get_or b (at + line_length size - 1) 0 ≡ 10
  pub cells-laid : CellsLaid top b at size
  pub holdings-laid : HoldingsLaid b (at + 3 * size)

unfoldable pub Precedes : ℕ → List ℕ → ℕ → ℕ → Type 0
Precedes size b p q = cells_of size (drop p b) ≺ cells_of size (drop q b)

pub record Follows (size top : ℕ) (b : List ℕ) (p q : ℕ) : Type 0 where
  pub laid : LineLaid size top b q
  pub order : Precedes size b p q

pub record LinesLaid (size top n : ℕ) (b : List ℕ) : Type 0 where
  pub lines : (e : ℕ) → e < n → LineLaid size top b (line_start size e)
  pub ascend : (e : ℕ) → e + 1 < n → Precedes size b (line_start size e) (line_start size (e + 1))
