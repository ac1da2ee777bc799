-- Tests of all numbers below one.
--
--   all_below t n  ==  every number below n passes the test t
--   all-below      ==  then each does
use Rattle.std.proofs.Common.{◌≡◌, ℕ, zero, suc, ◌<◌, Bool, true, ◌&&◌, not-suc-le-zero, arith}
use native.Mathlib.Decide.{ℕ_discrete}
use Rattle.permutations.proofs.BoolLaws.{and_yes}

unfoldable pub all_below : (ℕ → Bool) → ℕ → Bool
all_below t zero = true
all_below t (suc n) = t n && all_below t n

pub all-below : (t : ℕ → Bool) (n : ℕ) → all_below t n ≡ true → (j : ℕ) → j < n → t j ≡ true
unfolding all_below
all-below t zero e j h = absurd (not-suc-le-zero h)
all-below t (suc n) e j h = let p = and_yes (t n) (all_below t n) e in go p.0 (all-below t n p.1 j) (ℕ_discrete j n)
  where
    go : t n ≡ true → (j < n → t j ≡ true) → Dec (j ≡ n) → t j ≡ true
    go last others (yes y) = rw y last
    go last others (no y) = others (omega arith)
