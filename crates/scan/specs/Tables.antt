-- The tables of a top. Between functions: no answer of a call is defined here.
--
--   teen_of top, span_of top     ==  17, how far a 1 is above a space, where a 1 may stand before a digit (top 10 and more), else 0; the greatest last digit
use Rattle.std.specs.Prelude.{true, false, ℕ, ltb, min}

unfoldable pub teen_of : ℕ → ℕ
teen_of top = elim (ltb top 10) [ true ↦ 0 | false ↦ 17 ]

unfoldable pub span_of : ℕ → ℕ
span_of top = min top 9
