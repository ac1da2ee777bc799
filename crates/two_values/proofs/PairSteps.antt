-- What the tests of pairs of columns say together.
--
--   word-some      ==  a word with few zeros at its end has a digit 1
--   digit-small    ==  a digit's value is at most that of the first
--   sides_first, sides-second  ==  the first row is over the other, the second is
use mathlib.Core.Path.{◌≡◌, refl}
use mathlib.Core.List.{List}
use Prim.Native.Nat.{ℕ, zero, suc, ◌-◌, ◌^◌, ◌≤◌, ◌<◌}
use native.Mathlib.Omega.{arith}
use lib.Count.{count_trailing_zeros}
use lib.Pow.{pow_mono}
use Rattle.std.proofs.Common.{Some}
use Rattle.two_values.specs.declared.pairs.Side.TheVariants.{First, Second}
use Rattle.two_values.specs.Domination.{Over, Sides}

pub word-some : (w : ℕ) → count_trailing_zeros 32 w < 16 → 0 < w
unfolding count_trailing_zeros
word-some zero h = let e : count_trailing_zeros 32 0 ≡ 32 = refl in absurd (omega arith)
word-some (suc w) h = omega arith

pub digit-small : (last i : ℕ) → 2 ^ (last - i) ≤ 2 ^ last
digit-small last i = pow_mono (omega arith)

module _ (y u v a : List ℕ) (n r q : ℕ) where
  pub sides_first : Over y u v a n r q → Sides y u v a n r q (Some First)
  sides_first h = record { first = λ e. h; second = λ e. absurd (cc) }

  pub sides-second : Over y u v a n q r → Sides y u v a n r q (Some Second)
  sides-second h = record { first = λ e. absurd (cc); second = λ e. h }
