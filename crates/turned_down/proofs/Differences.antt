-- Lists that the test of equality tells apart are not equal.
--
--   unequal  ==  that
use mathlib.Core.Path.{◌≡◌, sym, ◌∙◌}
use mathlib.Core.List.{List}
use mathlib.Core.Bool.{false, true≢false}
use Prim.Native.Nat.{ℕ}
use Rattle.grids.specs.Order.{equal}
use Rattle.grids.proofs.OrderLaws.{eq-equal}

pub unequal : (a b : List ℕ) → equal a b ≡ false → a ≡ b → ⊥
unequal a b d e = true≢false (sym (eq-equal a b e) ∙ d)
