-- Cells read from their fields. Between functions: no answer of a call is defined here.
--
--   ReadsCells b n cells r  ==  r says whether the bytes b are n cells, 3 wide, none above 255; if so the slice then holds them
use Rattle.std.specs.Prelude.{◌≡◌, List, Bool, true, ◌↔◌, ℕ, length}
use Rattle.grids.specs.Grids.{capped}
use Rattle.layout.specs.Layout.{fields, cells_of}

pub record ReadsCells (b : List ℕ) (n : ℕ) (cells : List ℕ) (r : Bool) : Type 0 where
  pub decides : (r ≡ true) ↔ ((b ≡ fields 3 (cells_of n b)) × (capped 255 (cells_of n b) ≡ true))
  pub read : r ≡ true → cells ≡ cells_of n b
  pub kept : length cells ≡ n
