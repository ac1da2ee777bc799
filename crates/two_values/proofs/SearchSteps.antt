-- Steps of the small functions of the search.
--
--   lowest-next    ==  the least of some numbers with a number more
use mathlib.Core.Path.{◌≡◌, sym, ap, ◌∙◌}
use mathlib.Core.List.{List}
use Prim.Native.Nat.{ℕ, min, ◌+◌, ◌≤◌, ◌<◌}
use native.Mathlib.Decide.{ℕ_discrete, dec_lt}
use native.Mathlib.Omega.{arith}
use lib.ListN.{get_or}
use Rattle.two_values.specs.Search.{Lowest}

-- ---- the least number

at_row : (p keys : List ℕ) (t row key : ℕ) → row ≡ get_or p t 0 → key ≡ get_or keys row 0 → get_or keys (get_or p t 0) 0 ≡ key
at_row p keys t row key e f = ap (λ (i : ℕ). get_or keys i 0) (sym e) ∙ sym f

module _ (p keys : List ℕ) (k t row key least : ℕ) (e : row ≡ get_or p t 0) (f : key ≡ get_or keys row 0) (kt : k ≤ t) (l : Lowest t k p keys least) where
  lowest-below : key < least → Lowest (t + 1) k p keys key
  lowest-below h = record { no_more = λ s ks st. go s ks st (ℕ_discrete s t); reached = (t, kt, omega arith, at_row p keys t row key e f) }
    where
      go : (s : ℕ) → k ≤ s → s < t + 1 → Dec (s ≡ t) → key ≤ get_or keys (get_or p s 0) 0
      go s ks st (yes g) = rw g (omega (arith, at_row p keys t row key e f))
      go s ks st (no ne) = omega (arith, l.no_more s ks (omega arith))

  lowest-stays : least ≤ key → Lowest (t + 1) k p keys least
  lowest-stays h =
      let r = l.reached in
      record { no_more = λ s ks st. go s ks st (ℕ_discrete s t); reached = (r.0, r.1, omega (arith, r.2), r.3) }
    where
      go : (s : ℕ) → k ≤ s → s < t + 1 → Dec (s ≡ t) → least ≤ get_or keys (get_or p s 0) 0
      go s ks st (yes g) = rw g (omega (arith, at_row p keys t row key e f))
      go s ks st (no ne) = l.no_more s ks (omega arith)

  pub lowest-next : (new : ℕ) → new ≡ min least key → Lowest (t + 1) k p keys new
  lowest-next new g = go (dec_lt key least)
    where
      go : Dec (key < least) → Lowest (t + 1) k p keys new
      go (yes h) = let n : new ≡ key = omega arith in rw n (lowest-below h)
      go (no h) = let n : new ≡ least = omega arith in rw n (lowest-stays (omega arith))
