-- Blank lines, as the loop over them finds them.
--
--   start-inside, line-inside          ==  an earlier line begins, and a line ends, within the bytes
--   compared                           ==  a line is compared with a blank one
--   blank_none, blank-next             ==  no line, and one more
use mathlib.Core.Path.{◌≡◌, refl, sym, ap, ◌∙◌}
use mathlib.Core.List.{List, ◌++◌}
use mathlib.Core.Bool.{Bool, true, false, not}
use mathlib.Core.Logic.{◌↔◌}
use Prim.Native.Nat.{ℕ, ◌+◌, ◌-◌, ◌≤◌, ◌<◌}
use native.Mathlib.Nat.{mul-le-mul_right}
use native.Mathlib.Decide.{ℕ_discrete}
use native.Mathlib.Omega.{arith}
use lib.Dec.{eqb}
use lib.ListN.{take, drop}
use lib.Pointwise.{pointwise}
use lib.Seq.{take_at}
use borrow.Author.Tests.{not-false}
use Rattle.std.proofs.lemmas.Bool.Decides.{Decides-eqb}
use Rattle.std.proofs.lemmas.Slice.Eq.{slice_eq-Decides}
use Rattle.layout.specs.Layout.{line_length, line_start, blank_line}
use Rattle.layout.specs.Lines.{line_at, BlanksLaid}
use Rattle.layout.proofs.LayoutLaws.{length-blank}
use Rattle.layout.proofs.LineLaws.{next_start}

pub start-inside : (size from to n : ℕ) → from ≤ to → line_start size to ≤ n → line_start size from ≤ n
start-inside size from to n h k = omega (arith, mul-le-mul_right (line_length size) h)

pub line-inside : (size e to n : ℕ) {at line : ℕ} → at ≡ line_start size e → line ≡ line_length size → e < to → line_start size to ≤ n → at + line ≤ n
line-inside size e to n p q h k = omega (arith, start-inside size (e + 1) to n (omega arith) k, next_start size e)

pub compared : (size e : ℕ) {at line : ℕ} (b rest : List ℕ) {room : List ℕ} {r : Bool} → at ≡ line_start size e → line ≡ line_length size → room ≡ blank_line size ++ rest →
    r ≡ not (pointwise eqb (take (at + line - at) (drop at b)) (take line room)) → (r ≡ false) ↔ (line_at size b e ≡ blank_line size)
unfolding line_at
compared size e {at} {line} b rest {room} {r} p q z h = (λ n. sym part ∙ same.0 (not-false _ (sym h ∙ n)) ∙ whole, λ n. h ∙ ap not (same.1 (part ∙ n ∙ sym whole)))
  where
    part : take (at + line - at) (drop at b) ≡ line_at size b e
    part =
        let d : at + line - at ≡ line_length size = omega arith in
        rw (d, p)

    whole : take line room ≡ blank_line size
    whole = rw (z, q) (take_at (blank_line size) rest (line_length size) (length-blank size))

    same : (pointwise eqb (take (at + line - at) (drop at b)) (take line room) ≡ true) ↔ (take (at + line - at) (drop at b) ≡ take line room)
    same = slice_eq-Decides Decides-eqb _ _ _ refl

pub blank_none : (size from : ℕ) (b : List ℕ) → BlanksLaid size from from b
blank_none size from b = record { lines = λ i low high. absurd (omega arith) }

pub blank-next : {size from e : ℕ} {b : List ℕ} → BlanksLaid size from e b → line_at size b e ≡ blank_line size → BlanksLaid size from (e + 1) b
blank-next {size} {from} {e} {b} h l = record { lines = λ i low high. one i low high (ℕ_discrete i e) }
  where
    one : (i : ℕ) → from ≤ i → i < e + 1 → Dec (i ≡ e) → line_at size b i ≡ blank_line size
    one i low high (yes q) = rw q l
    one i low high (no q) = h.lines i low (omega arith)
