-- A step of the search for a place. Between functions: no answer of a call is defined here.
--
--   Halved l r span next  ==  the place of r in l is still in the span, and the span is shorter
use Rattle.std.specs.Prelude.{List, ℕ, ◌-◌, ◌<◌}
use Rattle.calls.specs.Places.{Between}
use Rattle.register.specs.declared.places.Span.{Span}

pub record Halved (l : List (List ℕ)) (r : List ℕ) (span next : Span) : Type 0 where
  pub between : Between l r next.low next.high
  pub shorter : next.high - next.low < span.high - span.low
