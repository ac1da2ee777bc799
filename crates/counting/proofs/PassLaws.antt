-- Laws of bytes that pass.
--
--   passes-is               ==  the test of a byte, by its steps
--   ranks-byte              ==  the rank of what is stated is a byte, since the code has it as one
--   outcome-none, outcome-next  ==  no byte, and a byte more
--   all-at, at_all          ==  all bytes pass exactly if each does
--   passes-any              ==  every byte passes by the low 0 and the span 255
--   passes-within, within-passes  ==  a rank that is a byte is within two others exactly if it is above the lower by at most their distance
use mathlib.Core.Path.{◌≡◌, refl, sym, ap, ◌∙◌}
use mathlib.Core.List.{List}
use mathlib.Core.Bool.{Bool, true, ◌&&◌}
use Prim.Native.Nat.{ℕ, zero, suc, ◌+◌, ◌-◌, ◌≤◌, ◌<◌}
use native.Mathlib.Nat.{not-suc-le-zero}
use native.Mathlib.Numerals.{add-one}
use native.Mathlib.Decide.{dec_lt}
use native.Mathlib.Omega.{arith}
use lib.Dec.{leb}
use lib.ListN.{get_or}
use borrow.Author.Tests.{le-leb, leb-true}
use Rattle.permutations.proofs.BoolLaws.{and_yes, yes_and}
use Rattle.grids.specs.Order.{rank}
use Rattle.lines.specs.Bytes.{above, stated}
use Rattle.counting.specs.Within.{passes, all_pass, LineOutcome}

pub passes-is : (byte before low span v r x : ℕ) → v ≡ stated byte before → r ≡ rank v → x ≡ above r low → leb x span ≡ passes byte before low span
unfolding passes
passes-is byte before low span v r x a b c = rw (c, b, a) refl

pub ranks-byte : (byte before v r : ℕ) → v ≡ stated byte before → r ≡ rank v → r < 256 → rank (stated byte before) < 256
ranks-byte byte before v r a b h = rw (b ∙ ap rank a) at h

pub outcome-none : (line before lows spans : List ℕ) → LineOutcome true 0 line before lows spans
unfolding all_pass
outcome-none line before lows spans = record { answer = refl; ranked = λ i b. absurd (not-suc-le-zero b) }

all-next : (k : ℕ) (line before lows spans : List ℕ) →
    all_pass (k + 1) line before lows spans ≡ (all_pass k line before lows spans && passes (get_or line k 0) (get_or before k 0) (get_or lows k 0) (get_or spans k 0))
unfolding all_pass
all-next k line before lows spans = rw add-one refl

pub outcome-next : {within r : Bool} {k : ℕ} {line before lows spans : List ℕ} → LineOutcome within k line before lows spans →
    (r ≡ (within && passes (get_or line k 0) (get_or before k 0) (get_or lows k 0) (get_or spans k 0))) × (rank (stated (get_or line k 0) (get_or before k 0)) < 256) →
    LineOutcome r (k + 1) line before lows spans
outcome-next {within} {r} {k} {line} {before} {lows} {spans} o (e, b) = record {
  answer = e ∙ ap (λ (w : Bool). w && passes (get_or line k 0) (get_or before k 0) (get_or lows k 0) (get_or spans k 0)) o.answer ∙ sym (all-next k line before lows spans);
  ranked = λ i h. go i h (dec_lt i k);
}
  where
    go : (i : ℕ) → i < k + 1 → Dec (i < k) → rank (stated (get_or line i 0) (get_or before i 0)) < 256
    go i h (yes l) = o.ranked i l
    go i h (no l) = let z : i ≡ k = omega arith in rw z b

module _ (line before lows spans : List ℕ) where
  pub all-at : (k : ℕ) → all_pass k line before lows spans ≡ true → (i : ℕ) → i < k → passes (get_or line i 0) (get_or before i 0) (get_or lows i 0) (get_or spans i 0) ≡ true
  all-at zero e i h = absurd (not-suc-le-zero h)
  all-at (suc k) e i h = go (all-at k) (dec_lt i k)
    where
      both : (all_pass k line before lows spans ≡ true) × (passes (get_or line k 0) (get_or before k 0) (get_or lows k 0) (get_or spans k 0) ≡ true)
      both = and_yes (all_pass k line before lows spans) _ (sym (all-next k line before lows spans) ∙ ap (λ (n : ℕ). all_pass n line before lows spans) (add-one k) ∙ e)

      go : (all_pass k line before lows spans ≡ true → (i : ℕ) → i < k → passes (get_or line i 0) (get_or before i 0) (get_or lows i 0) (get_or spans i 0) ≡ true) → Dec (i < k) →
          passes (get_or line i 0) (get_or before i 0) (get_or lows i 0) (get_or spans i 0) ≡ true
      go ih (yes l) = ih both.0 i l
      go ih (no l) = let z : i ≡ k = omega arith in rw z both.1

  pub at_all : (k : ℕ) → ((i : ℕ) → i < k → passes (get_or line i 0) (get_or before i 0) (get_or lows i 0) (get_or spans i 0) ≡ true) → all_pass k line before lows spans ≡ true
  unfolding all_pass
  at_all zero h = refl
  at_all (suc k) h = yes_and (all_pass k line before lows spans) _ (at_all k (λ i b. h i (omega arith))) (h k (omega arith))

pub passes-any : (byte before low span : ℕ) → low ≡ 0 → span ≡ 255 → passes byte before low span ≡ true
unfolding passes above
passes-any byte before low span a b = le-leb (above (rank (stated byte before)) low) span (omega arith)

pub passes-within : (byte before low span v a b : ℕ) → stated byte before ≡ v → rank v < 256 → low ≡ a → span ≡ b - a → a ≤ b → b < 256 →
    passes byte before low span ≡ true → (a ≤ rank v) × (rank v ≤ b)
unfolding passes above
passes-within byte before low span v a b e l p q o m t =
    let s = leb-true (above (rank (stated byte before)) low) span t in
    let z : rank (stated byte before) ≡ rank v = ap rank e in
    (omega arith, omega arith)

pub within-passes : (byte before low span v a b : ℕ) → stated byte before ≡ v → low ≡ a → span ≡ b - a → b < 256 → a ≤ rank v → rank v ≤ b →
    passes byte before low span ≡ true
unfolding passes above
within-passes byte before low span v a b e p q m h k =
    let z : rank (stated byte before) ≡ rank v = ap rank e in
    le-leb (above (rank (stated byte before)) low) span (omega arith)
