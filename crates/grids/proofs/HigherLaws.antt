-- The higher and the lower of two values, by rank.
--
--   lower-all, higher-all      ==  what holds of either holds of the lower, of the higher
--   lower-exact, higher-exact  ==  what ranks no higher than the lower of two, no lower than the higher of two
--   lower-within, higher-within  ==  the lower and the higher of two values 0 to top are such values
--   max-higher, min-lower      ==  what the library's functions find
use mathlib.Core.Path.{◌≡◌, refl, sym}
use mathlib.Core.Bool.{true, false, cond}
use mathlib.Core.Logic.{◌↔◌}
use Prim.Native.Nat.{ℕ, ◌≤◌, ◌<◌}
use native.Mathlib.Decide.{dec_lt}
use native.Mathlib.Omega.{arith}
use lib.Dec.{ltb}
use borrow.Author.Tests.{lt-ltb, le-ltb}
use Rattle.std.specs.declared.cmp.Ordering.TheVariants.{Less, Equal, Greater}
use Rattle.std.specs.Ordering.{is_lt, nat_cmp, ord_max, ord_min}
use Rattle.std.specs.Cmp.{nat_cmp_is}
use Rattle.grids.specs.Order.{rank, higher, lower}
use Rattle.grids.proofs.OrderLaws.{rank-antisymm}

by_rank : (P : ℕ → Type 0) (x y u v : ℕ) → (rank x < rank y → P u) → (rank y ≤ rank x → P v) → P (elim (ltb (rank x) (rank y)) [ true ↦ u | false ↦ v ])
by_rank P x y u v f g = go (dec_lt (rank x) (rank y))
  where
    go : Dec (rank x < rank y) → P (elim (ltb (rank x) (rank y)) [ true ↦ u | false ↦ v ])
    go (yes h) = rw (lt-ltb (rank x) (rank y) h) (f h)
    go (no h) = rw (le-ltb (rank x) (rank y) (omega arith)) (g (omega arith))

module _ (a b : ℕ) where
  pub lower-all : (P : ℕ → Type 0) → (rank b < rank a → P b) → (rank a ≤ rank b → P a) → P (lower a b)
  unfolding lower
  lower-all P f g = by_rank P b a b a f g

  pub higher-all : (P : ℕ → Type 0) → (rank a < rank b → P b) → (rank b ≤ rank a → P a) → P (higher a b)
  unfolding higher
  higher-all P f g = by_rank P a b b a f g

  pub lower-exact : (v : ℕ) → ((rank v ≤ rank a) × (rank v ≤ rank b)) ↔ (rank v ≤ rank (lower a b))
  lower-exact v =
      lower-all (λ z. ((rank v ≤ rank a) × (rank v ≤ rank b)) ↔ (rank v ≤ rank z)) (λ h. (λ k. k.1, λ k. (omega arith, k))) (λ h. (λ k. k.0, λ k. (k, omega arith)))

  pub higher-exact : (v : ℕ) → ((rank a ≤ rank v) × (rank b ≤ rank v)) ↔ (rank (higher a b) ≤ rank v)
  higher-exact v =
      higher-all (λ z. ((rank a ≤ rank v) × (rank b ≤ rank v)) ↔ (rank z ≤ rank v)) (λ h. (λ k. k.1, λ k. (omega arith, k))) (λ h. (λ k. k.0, λ k. (k, omega arith)))

  pub lower-within : (top : ℕ) → a ≤ top → b ≤ top → lower a b ≤ top
  lower-within top h k = lower-all (λ z. z ≤ top) (λ l. k) (λ l. h)

  pub higher-within : (top : ℕ) → a ≤ top → b ≤ top → higher a b ≤ top
  higher-within top h k = higher-all (λ z. z ≤ top) (λ l. k) (λ l. h)

  -- ---- what the library's functions find

  pub max-higher : ord_max (λ x y. nat_cmp (rank x) (rank y)) a b ≡ higher a b
  max-higher =
      higher-all (λ z. cond (is_lt (nat_cmp (rank b) (rank a))) a b ≡ z)
      (λ h. rw (sym (nat_cmp_is (rank b) (rank a) Greater h)) refl)
      (λ h. equal-or-lower (dec_lt (rank b) (rank a)) h)
    where
      equal-or-lower : Dec (rank b < rank a) → rank b ≤ rank a → cond (is_lt (nat_cmp (rank b) (rank a))) a b ≡ a
      equal-or-lower (yes l) h = rw (sym (nat_cmp_is (rank b) (rank a) Less l)) refl
      equal-or-lower (no l) h =
          let e : rank b ≡ rank a = omega arith in
          rw (sym (nat_cmp_is (rank b) (rank a) Equal e)) (rank-antisymm b a h (omega arith))

  pub min-lower : ord_min (λ x y. nat_cmp (rank x) (rank y)) a b ≡ lower a b
  min-lower =
      lower-all (λ z. cond (is_lt (nat_cmp (rank b) (rank a))) b a ≡ z)
      (λ h. rw (sym (nat_cmp_is (rank b) (rank a) Less h)) refl)
      (λ h. equal-or-higher (dec_lt (rank a) (rank b)) h)
    where
      equal-or-higher : Dec (rank a < rank b) → rank a ≤ rank b → cond (is_lt (nat_cmp (rank b) (rank a))) b a ≡ a
      equal-or-higher (yes l) h = rw (sym (nat_cmp_is (rank b) (rank a) Greater l)) refl
      equal-or-higher (no l) h =
          let e : rank b ≡ rank a = omega arith in
          rw (sym (nat_cmp_is (rank b) (rank a) Equal e)) refl
