-- A line passes exactly if its cells lie in the bounds.
--
--   stated-cell       ==  the last two bytes of each cell of a line state it
--   states            ==  at a field's last byte stands what states its cell
--   pass-in, in-pass  ==  the two directions
--   line-within       ==  the answer that all bytes pass is the test of the cells
use mathlib.Core.Path.{◌≡◌, sym, ap, ap₂, ◌∙◌}
use mathlib.Core.List.{List, [], ◌∷◌, ◌++◌}
use mathlib.Core.Bool.{Bool, true}
use Prim.Native.Nat.{ℕ, ◌+◌, ◌*◌, ◌/◌, ◌%◌, ◌≤◌, ◌<◌}
use native.Mathlib.Nat.{mul_comm}
use native.Mathlib.Decide.{dec_lt}
use native.Mathlib.Omega.{arith}
use lib.ListN.{length, get_or, take, drop, length-append, get_or-append}
use Rattle.permutations.proofs.BoolLaws.{bool-ext}
use Rattle.grids.specs.Order.{rank}
use Rattle.grids.proofs.QuestionLaws.{capped_at}
use Rattle.bounds.specs.Bounds.{IsBounds, InBounds, in_bounds}
use Rattle.bounds.proofs.BoundsLaws.{in_bounds-decides}
use Rattle.layout.specs.Decimal.{field}
use Rattle.layout.specs.Layout.{entry_line, cells_of, holdings_of}
use Rattle.layout.specs.Lines.{EntryLine}
use Rattle.layout.proofs.LayoutLaws.{field_at}
use Rattle.layout.proofs.LineLaws.{length-cells}
use Rattle.lines.specs.Bytes.{stated}
use Rattle.lines.proofs.FieldLaws.{stated-at}
use Rattle.counting.specs.Within.{passes, all_pass, LineOutcome, BoundTables}
use Rattle.counting.proofs.PassLaws.{all-at, at_all, passes-any, passes-within, within-passes}

stated-cell : {size top : ℕ} {l : List ℕ} → EntryLine size top l → top ≤ 15 → (j : ℕ) → j < size → stated (get_or l (3 * j + 2) 0) (get_or l (3 * j + 1) 0) ≡ get_or (cells_of size l) j 0
unfolding entry_line
stated-cell {size} {top} {l} c small j h =
    let m : j < length (cells_of size l) = omega (arith, length-cells size l) in
    let n : j < length (cells_of size l ++ holdings_of size l) = omega (arith, length-append (cells_of size l) (holdings_of size l)) in
    stated-at l (3 * j) (get_or (cells_of size l) j 0) (omega (arith, capped_at top (cells_of size l) c.at_most j m))
    (ap (λ (x : List ℕ). take 3 (drop (3 * j) x)) c.bytes
    ∙ rw (mul_comm 3 j) (field_at 3 (cells_of size l ++ holdings_of size l) (10 ∷ []) j n)
    ∙ ap (field 3) (get_or-append (cells_of size l) (holdings_of size l) 0 j m))

-- l is the entry's line, line its cells' bytes and before those a byte earlier
module _ {size top : ℕ} {l lows spans low high : List ℕ} (line before : List ℕ) (c : EntryLine size top l) (small : top ≤ 15)
    (same : (k : ℕ) → k < 3 * size → get_or line k 0 ≡ get_or l k 0) (earlier : (k : ℕ) → k + 1 < 3 * size → get_or before (k + 1) 0 ≡ get_or l k 0)
    (t : BoundTables size low high lows spans) (i : IsBounds size top low high) where
  states : (j : ℕ) → j < size → stated (get_or line (3 * j + 2) 0) (get_or before (3 * j + 2) 0) ≡ get_or (cells_of size l) j 0
  states j h =
      let e : 3 * j + 1 + 1 ≡ 3 * j + 2 = omega arith in
      ap₂ stated (same (3 * j + 2) (omega arith)) (ap (λ (k : ℕ). get_or before k 0) (sym e) ∙ earlier (3 * j + 1) (omega arith)) ∙ stated-cell c small j h

  pass-in : (r : Bool) → LineOutcome r (3 * size) line before lows spans → all_pass (3 * size) line before lows spans ≡ true → InBounds size top low high (cells_of size l)
  pass-in r o e = record {
    sized = length-cells size l;
    capped = λ j h. capped_at top (cells_of size l) c.at_most j (omega (arith, length-cells size l));
    above = λ j h. (both j h).0;
    below = λ j h. (both j h).1;
  }
    where
      both : (j : ℕ) → j < size → (rank (get_or low j 0) ≤ rank (get_or (cells_of size l) j 0)) × (rank (get_or (cells_of size l) j 0) ≤ rank (get_or high j 0))
      both j h =
          passes-within _ _ _ _ (get_or (cells_of size l) j 0) (rank (get_or low j 0)) (rank (get_or high j 0)) (states j h)
          (rw (states j h) at (o.ranked (3 * j + 2) (omega arith))) (t.low-ranks j h).2 (t.high-spans j h).2 (i.in_order j h) (t.ranked j h)
          (all-at line before lows spans (3 * size) e (3 * j + 2) (omega arith))

  in-pass : InBounds size top low high (cells_of size l) → all_pass (3 * size) line before lows spans ≡ true
  in-pass b = at_all line before lows spans (3 * size) λ k h. go k h (dec_lt (k % 3) 1) (dec_lt (k % 3) 2)
    where
      go : (k : ℕ) → k < 3 * size → Dec (k % 3 < 1) → Dec (k % 3 < 2) → passes (get_or line k 0) (get_or before k 0) (get_or lows k 0) (get_or spans k 0) ≡ true
      go k h (yes z) d =
          let e : k ≡ 3 * (k / 3) = omega arith in
          rw e (passes-any _ _ _ _ (t.low-ranks (k / 3) (omega arith)).0 (t.high-spans (k / 3) (omega arith)).0)
      go k h (no z) (yes d) =
          let e : k ≡ 3 * (k / 3) + 1 = omega arith in
          rw e (passes-any _ _ _ _ (t.low-ranks (k / 3) (omega arith)).1 (t.high-spans (k / 3) (omega arith)).1)
      go k h (no z) (no d) =
          let e : k ≡ 3 * (k / 3) + 2 = omega arith in
          let j = k / 3 in
          let m : j < size = omega arith in
          rw e (within-passes _ _ _ _ (get_or (cells_of size l) j 0) (rank (get_or low j 0)) (rank (get_or high j 0)) (states j m) (t.low-ranks j m).2 (t.high-spans j m).2 (t.ranked j m) (b.above j m) (b.below j m))

  pub line-within : (r : Bool) → LineOutcome r (3 * size) line before lows spans → r ≡ in_bounds size top low high (cells_of size l)
  line-within r o =
      o.answer ∙ bool-ext (all_pass (3 * size) line before lows spans) (in_bounds size top low high (cells_of size l))
      (λ e. (in_bounds-decides size top low high (cells_of size l)).1 (pass-in r o e))
      (λ e. in-pass ((in_bounds-decides size top low high (cells_of size l)).0 e))
