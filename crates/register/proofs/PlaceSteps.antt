-- From what the code finds at a line to the place of a grid.
--
--   entry-line              ==  the part of the register that is lent to be read is an entry's line
--   entry_length, entry-compared  ==  what was read is the entry's grid
--   past-entry, at_entry    ==  the test whether an entry has the grid
--   halved-low, halved-high ==  the two halves of a span
use mathlib.Core.Path.{◌≡◌, refl, sym, ap, ◌∙◌}
use mathlib.Core.List.{List, [], ◌++◌}
use mathlib.Core.Bool.{Bool, true, false, ◌&&◌}
use mathlib.Core.Logic.{◌⊎◌, inl, inr}
use Prim.Native.Nat.{ℕ, ◌+◌, ◌-◌, ◌/◌, ◌≤◌, ◌<◌}
use native.Mathlib.Omega.{arith}
use lib.ListN.{length, get_or, take, drop}
use lib.Dec.{ltb}
use borrow.Author.Tests.{lt-ltb, le-ltb}
use Rattle.permutations.proofs.BoolLaws.{yes_or_no, refuted}
use Rattle.permutations.proofs.ListLaws.{part-is, part_length}
use Rattle.std.specs.declared.cmp.Ordering.{Ordering}
use Rattle.grids.specs.Order.{◌≼◌, ◌≺◌, equal}
use Rattle.std.specs.Ordering.{is_eq}
use Rattle.grids.specs.Comparisons.{compared}
use Rattle.grids.proofs.OrderLaws.{equal-eq, eq-equal}
use Rattle.grids.proofs.ComparisonLaws.{equal-yes, equal-no}
use Rattle.layout.specs.Layout.{grids_of, line_length, line_start, decode, Ascends, cells_of}
use Rattle.layout.specs.Lines.{line_at, EntryLine}
use Rattle.layout.proofs.LineLaws.{length-cells}
use Rattle.calls.specs.Places.{Between}
use Rattle.calls.specs.Valid.{Valid}
use Rattle.calls.proofs.PlaceLaws.{between-low, between-high}
use Rattle.calls.proofs.ValidLaws.{valid-line, valid-sizes, entry-part}
use Rattle.register.specs.declared.places.Span.{Span}
use Rattle.register.specs.Spans.{Halved}

module _ {size n : ℕ} {b : List ℕ} (k : Valid size n b) (e : ℕ) {a w : ℕ} (h : e < n) (s : a ≡ line_start size e) (q : w ≡ line_length size) where
  pub entry-line : (z : List ℕ) → 128 ≤ length z → (length (take (size - 0) z) ≤ 128) × EntryLine (length (take (size - 0) z)) 15 (take (a + w - a) (drop a b))
  entry-line z l = let f = (valid-sizes k).cells_fit in rw (part_length z size (omega arith), entry-part k e s q) (f, (valid-line k e h).0)

  pub entry_length : (x : List ℕ) {j : ℕ} → j ≡ size → x ≡ cells_of j (take (a + w - a) (drop a b)) → length x ≡ size
  entry_length x {j} i p = ap length p ∙ length-cells j _ ∙ i

  pub entry-compared : (x x' g : List ℕ) {j : ℕ} {c : Ordering} → j ≡ size → x ≡ cells_of j (take (a + w - a) (drop a b)) →
      c ≡ compared (take (size - 0) (x ++ x')) g → c ≡ compared (get_or (grids_of (decode b).entries) e []) g
  entry-compared x x' g {j} i p d =
      let y : x ≡ cells_of size (line_at size b e) = rw (i, entry-part k e s q) at p in
      d ∙ ap (λ (l : List ℕ). compared l g) (part-is x x' size (entry_length x i p) ∙ y ∙ (valid-line k e h).1)

pub past-entry : (e n : ℕ) (t : Bool) → n ≤ e → false ≡ (ltb e n && t)
past-entry e n t h = rw (le-ltb e n h) refl

pub at_entry : (e n : ℕ) (a g : List ℕ) (t : Bool) {c : Ordering} → e < n → t ≡ is_eq c → c ≡ compared a g → t ≡ (ltb e n && equal a g)
at_entry e n a g t h i d = rw (lt-ltb e n h) (go (yes_or_no t))
  where
    go : (t ≡ true) ⊎ (t ≡ false) → t ≡ equal a g
    go (inl y) = y ∙ sym (eq-equal a g (equal-yes a g _ t d i y))
    go (inr y) = y ∙ sym (refuted (equal a g) (equal-eq a g, eq-equal a g) (equal-no a g _ t d i y))

module _ {l : List (List ℕ)} {r : List ℕ} (span : Span) (a : Ascends l) (b : Between l r span.low span.high) (h : span.low < span.high) where
  pub halved-low : get_or l (span.low + (span.high - span.low) / 2) [] ≺ r → Halved l r span (record { low = span.low + (span.high - span.low) / 2 + 1; high = span.high })
  halved-low x = record { between = between-low a b (span.low + (span.high - span.low) / 2) (omega arith) (omega arith) x; shorter = omega arith }

  pub halved-high : r ≼ get_or l (span.low + (span.high - span.low) / 2) [] → Halved l r span (record { low = span.low; high = span.low + (span.high - span.low) / 2 })
  halved-high x = record { between = between-high a b (span.low + (span.high - span.low) / 2) (omega arith) (omega arith) x; shorter = omega arith }
