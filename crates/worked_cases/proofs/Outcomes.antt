-- The test of an outcome.
--
--   outcome_so o number place b  ==  the outcome o has this number, this place or count, and these bytes
--   outcome-so                   ==  what the test shows
use mathlib.Core.Path.{◌≡◌}
use mathlib.Core.List.{List}
use mathlib.Core.Bool.{Bool, true, ◌&&◌}
use Prim.Native.Nat.{ℕ}
use lib.Dec.{eqb}
use borrow.Author.Tests.{eqb-true}
use Rattle.permutations.proofs.BoolLaws.{and_yes}
use Rattle.grids.specs.Order.{equal}
use Rattle.grids.proofs.OrderLaws.{equal-eq}
use Rattle.calls.specs.Calls.{Outcome}

unfoldable pub outcome_so : Outcome → ℕ → ℕ → List ℕ → Bool
outcome_so o number place b = eqb o.number number && (eqb o.place place && equal o.bytes b)

pub outcome-so : (o : Outcome) (number place : ℕ) (b : List ℕ) → outcome_so o number place b ≡ true → o ≡ record { number = number; place = place; bytes = b }
unfolding outcome_so
outcome-so o number place b t =
    let p = and_yes (eqb o.number number) _ t in
    let q = and_yes (eqb o.place place) (equal o.bytes b) p.1 in
    λ i. record { number = eqb-true o.number number p.0 i; place = eqb-true o.place place q.0 i; bytes = equal-eq o.bytes b q.1 i }
