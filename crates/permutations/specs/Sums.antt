-- Sums, and how many numbers pass a test. Between functions: no answer of a call is defined here.
--
--   sum_to n f   ==  f 0 + f 1 + .. + f (n - 1)
--   indicator b  ==  1 for true, 0 for false
--   count n t    ==  how many numbers below n pass the test t
use Rattle.std.specs.Prelude.{Bool, true, false, ℕ, zero, suc, ◌+◌}

unfoldable pub sum_to : ℕ → (ℕ → ℕ) → ℕ
sum_to zero f = 0
sum_to (suc n) f = sum_to n f + f n

unfoldable pub indicator : Bool → ℕ
indicator true = 1
indicator false = 0

unfoldable pub count : ℕ → (ℕ → Bool) → ℕ
count n t = sum_to n (λ i. indicator (t i))
