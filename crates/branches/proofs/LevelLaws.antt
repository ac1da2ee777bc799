-- Laws of levels: of values up to 15 they are in the order of the ranks.
--
--   Levelled x y   ==  two values are equal, or their ranks and their levels are in one order
--   levelled       ==  so are values up to 15
--   level-most     ==  a level is at most 15
--   level-lower, level-same, level-no-higher  ==  of two values, the lesser level ranks lower, equal levels are of equal values, and a level no higher ranks no higher
--   level-ascends  ==  and a rank no higher has a level no higher
use mathlib.Core.Path.{◌≡◌, ap}
use mathlib.Core.Logic.{◌⊎◌, inl, inr}
use Prim.Native.Nat.{ℕ, ◌%◌, ◌≤◌, ◌<◌}
use native.Mathlib.Decide.{ℕ_discrete, dec_lt}
use native.Mathlib.Omega.{arith}
use Rattle.grids.specs.Order.{rank}
use Rattle.branches.specs.Keys.{level}

abbrev pub Levelled : ℕ → ℕ → Type 0
Levelled x y = (x ≡ y) ⊎ (((rank x < rank y) × (level x < level y)) ⊎ ((rank y < rank x) × (level y < level x)))

pub level-most : (v : ℕ) → level v ≤ 15
unfolding level
level-most v = omega arith

pub levelled : (x y : ℕ) → x ≤ 15 → y ≤ 15 → Levelled x y
unfolding level rank
levelled x y x15 y15 = go (ℕ_discrete x y) (dec_lt x y)
  where
    go : Dec (x ≡ y) → Dec (x < y) → (x ≡ y) ⊎ (((x < y) × (x % 16 < y % 16)) ⊎ ((y < x) × (y % 16 < x % 16)))
    go (yes e) d = inl e
    go (no ne) (yes h) = inr (inl (h, omega arith))
    go (no ne) (no h) = inr (inr (omega arith, omega arith))

pub level-same : (x y : ℕ) → x ≤ 15 → y ≤ 15 → level x ≡ level y → x ≡ y
level-same x y x15 y15 e = go (levelled x y x15 y15)
  where
    go : Levelled x y → x ≡ y
    go (inl z) = z
    go (inr (inl h)) = absurd (omega (arith, h.1))
    go (inr (inr h)) = absurd (omega (arith, h.1))

pub level-lower : (x y : ℕ) → x ≤ 15 → y ≤ 15 → level x < level y → rank x < rank y
level-lower x y x15 y15 l = go (levelled x y x15 y15)
  where
    go : Levelled x y → rank x < rank y
    go (inl z) = absurd (omega (arith, ap level z))
    go (inr (inl h)) = h.0
    go (inr (inr h)) = absurd (omega (arith, h.1))

pub level-no-higher : (x y : ℕ) → x ≤ 15 → y ≤ 15 → level x ≤ level y → rank x ≤ rank y
level-no-higher x y x15 y15 l = go (levelled x y x15 y15)
  where
    go : Levelled x y → rank x ≤ rank y
    go (inl z) = omega (arith, ap rank z)
    go (inr (inl h)) = omega (arith, h.0)
    go (inr (inr h)) = absurd (omega (arith, h.1))

pub level-ascends : (x y : ℕ) → x ≤ 15 → y ≤ 15 → rank x ≤ rank y → level x ≤ level y
level-ascends x y x15 y15 l = go (levelled x y x15 y15)
  where
    go : Levelled x y → level x ≤ level y
    go (inl z) = omega (arith, ap level z)
    go (inr (inl h)) = omega (arith, h.1)
    go (inr (inr h)) = absurd (omega (arith, h.0))
