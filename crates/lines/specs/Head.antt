-- Line 1 as the code holds it. Between functions: no answer of a call is defined here.
--
--   shape_of h  ==  the shape that its numbers are
--   States b h  ==  the bytes b state these numbers
use Rattle.std.specs.Prelude.{◌≡◌, ℕ, List}
use Rattle.layout.specs.Layout.{Shape, count, decode_shape}
use Rattle.lines.specs.declared.head.Head.{Head}

abbrev pub shape_of : Head → Shape
shape_of h = record { rows = h.rows; columns = h.columns; top = h.top; capacity = h.capacity }

pub record States (b : List ℕ) (h : Head) : Type 0 where
  pub shape : shape_of h ≡ decode_shape b
  pub counts : h.count ≡ count b
