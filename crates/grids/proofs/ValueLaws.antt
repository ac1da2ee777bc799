-- The values of a grid as the loops look at its cells.
--
--   LowestTo g i low          ==  `low` is a cell, or 0, and ranks no higher than any of the first i cells
--   lowest-none, lowest-next  ==  at first, and with a cell more
--   OnlyTo g low high i b     ==  where b is true, each of the first i cells is one of two values
use mathlib.Core.Path.{◌≡◌, refl}
use mathlib.Core.List.{List}
use mathlib.Core.Bool.{Bool, true}
use mathlib.Core.Logic.{◌⊎◌}
use Prim.Native.Nat.{ℕ, ◌+◌, ◌≤◌, ◌<◌}
use native.Mathlib.Nat.{not-suc-le-zero}
use native.Mathlib.Decide.{ℕ_discrete}
use native.Mathlib.Omega.{arith}
use lib.ListN.{get_or}
use Rattle.grids.specs.Order.{rank, lower}
use Rattle.grids.specs.Values.{HasCell}
use Rattle.grids.proofs.HigherLaws.{lower-all, lower-exact}

pub record LowestTo (g : List ℕ) (i low : ℕ) : Type 0 where
  pub cell : HasCell g low
  pub lowest : (k : ℕ) → k < i → rank low ≤ rank (get_or g k 0)

pub lowest-none : (g : List ℕ) (i : ℕ) → LowestTo g 0 (get_or g i 0)
lowest-none g i = record { cell = (i, refl); lowest = λ k b. absurd (not-suc-le-zero b) }

pub lowest-next : {g : List ℕ} {i low : ℕ} → LowestTo g i low → (r : ℕ) → r ≡ lower low (get_or g i 0) → LowestTo g (i + 1) r
lowest-next {g} {i} {low} h r d = record {
  cell = rw d (lower-all low (get_or g i 0) (HasCell g) (λ l. (i, refl)) (λ l. h.cell));
  lowest = λ k b. go k b (ℕ_discrete k i);
}
  where
    e : (rank r ≤ rank low) × (rank r ≤ rank (get_or g i 0))
    e = rw d ((lower-exact low (get_or g i 0) (lower low (get_or g i 0))).1 (omega arith))

    go : (k : ℕ) → k < i + 1 → Dec (k ≡ i) → rank r ≤ rank (get_or g k 0)
    go k b (yes y) = rw y e.1
    go k b (no y) = omega (arith, e.0, h.lowest k (omega arith))

pub record OnlyTo (g : List ℕ) (low high i : ℕ) (b : Bool) : Type 0 where
  pub only : b ≡ true → (k : ℕ) → k < i → (get_or g k 0 ≡ low) ⊎ (get_or g k 0 ≡ high)
