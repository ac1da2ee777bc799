-- Question 5, as the code goes about it: by the numbers that line 1 states.
--
--   LaidBy b h                    ==  limits, length, line 1, entries and blank lines, by the numbers h
--   laid_by                       ==  question 5 gets a yes exactly if that holds, of the numbers that the bytes state
--   both, neither                 ==  two tests, of which the second is made where the first says yes
--   head-decides                  ==  a comparison with line 1 decides that the bytes begin with it
--   short-no, refutes             ==  too few bytes, or a part whose test says no: question 5 gets a no
--   last-decides                  ==  where the other parts hold, the blank lines decide
use mathlib.Core.Path.{◌≡◌, sym, subst, ◌∙◌}
use mathlib.Core.List.{List}
use mathlib.Core.Bool.{Bool, true, false, true≢false}
use mathlib.Core.Logic.{◌↔◌}
use Prim.Native.Nat.{ℕ, ◌*◌, ◌<◌}
use native.Mathlib.Omega.{arith}
use lib.Dec.{eqb}
use lib.ListN.{length, take}
use Rattle.std.specs.List.{starts_with}
use Rattle.std.proofs.lemmas.Bool.Decides.{Decides-eqb}
use Rattle.std.proofs.lemmas.Slice.Eq.{slice_eq-Decides}
use Rattle.permutations.proofs.BoolLaws.{bool-ext, refuted}
use Rattle.layout.specs.Layout.{Shape, head_length, line_start, head_line, layout_length, laid_out}
use Rattle.layout.specs.Lines.{EntriesLaid, BlanksLaid}
use Rattle.layout.proofs.LayoutLaws.{length-head}
use Rattle.layout.proofs.LineLaws.{laid-lines}
use Rattle.lines.specs.declared.head.Head.{Head}
use Rattle.lines.specs.Head.{shape_of, States}
use Rattle.validation.specs.Limits.{WithinLimits}

pub record LaidBy (b : List ℕ) (h : Head) : Type 0 where
  pub limits : WithinLimits h.rows h.columns h.top h.capacity h.count
  pub sized : length b ≡ line_start (h.rows * h.columns) h.capacity
  pub line : take head_length b ≡ head_line (shape_of h) h.count
  pub entries : EntriesLaid (h.rows * h.columns) h.top h.count b
  pub blanks : BlanksLaid (h.rows * h.columns) h.count h.capacity b

-- two tests, the second made where the first says yes
pub both : {A B : Type 0} {v t : Bool} → A → (t ≡ true) ↔ B → v ≡ t → (v ≡ true) ↔ (A × B)
both a d e = (λ y. (a, d.0 (sym e ∙ y)), λ p. e ∙ d.1 p.1)

pub neither : {A B : Type 0} {v : Bool} → (A → ⊥) → v ≡ false → (v ≡ true) ↔ (A × B)
neither n e = (λ y. absurd (true≢false (sym y ∙ e)), λ p. absurd (n p.0))

pub head-decides : (s : Shape) (n : ℕ) {r : Bool} (b : List ℕ) {line : List ℕ} → line ≡ head_line s n → r ≡ starts_with eqb b line → (r ≡ true) ↔ (take head_length b ≡ head_line s n)
head-decides s n {r} b {line} e d =
    let same = slice_eq-Decides Decides-eqb line (take (length line) b) r d in
    let P : List ℕ → Type 0 = λ x. (r ≡ true) ↔ (take (length x) b ≡ x) in
    rw (length-head s n) at (subst P e (λ y. sym (same.0 y), λ y. same.1 (sym y)))

pub short-no : (b : List ℕ) → length b < head_length → false ≡ laid_out b
unfolding layout_length
short-no b few = sym (refuted (laid_out b) (laid-lines b) (λ p. omega (arith, p.0.sized)))

module _ {b : List ℕ} {h : Head} (s : States b h) where
  laid_by : (laid_out b ≡ true) ↔ LaidBy b h
  unfolding layout_length
  laid_by = (to, back)
    where
      to : laid_out b ≡ true → LaidBy b h
      to e =
          let p = (laid-lines b).0 e in
          record {
            limits = record {
              grid-limits = rw (← s.shape) at p.0.limits.grid-limits;
              capacity-limits = rw (← s.shape) at p.0.limits.capacity-limits;
              count_fits = rw (← s.shape, ← s.counts) at p.0.count_fits;
            };
            sized = rw (← s.shape) at p.0.sized;
            line = rw (← s.shape, ← s.counts) at p.0.line;
            entries = rw (← s.shape, ← s.counts) at p.1;
            blanks = rw (← s.shape, ← s.counts) at p.2;
          }

      back : LaidBy b h → laid_out b ≡ true
      back l =
          (laid-lines b).1 (
            record {
              limits = rw (← s.shape) (record { grid-limits = l.limits.grid-limits; capacity-limits = l.limits.capacity-limits });
              count_fits = rw (← s.shape, ← s.counts) l.limits.count_fits;
              sized = rw (← s.shape) l.sized;
              line = rw (← s.shape, ← s.counts) l.line;
            },
            rw (← s.shape, ← s.counts) l.entries,
            rw (← s.shape, ← s.counts) l.blanks,
          )

  -- a test of a part says no
  pub refutes : {A : Type 0} {r : Bool} → (LaidBy b h → A) → (r ≡ true) ↔ A → r ≡ false → false ≡ laid_out b
  refutes part d n = sym (refuted (laid_out b) laid_by (λ l. true≢false (sym (d.1 (part l)) ∙ n)))

  pub last-decides : {r : Bool} → WithinLimits h.rows h.columns h.top h.capacity h.count → length b ≡ line_start (h.rows * h.columns) h.capacity →
      take head_length b ≡ head_line (shape_of h) h.count → EntriesLaid (h.rows * h.columns) h.top h.count b → (r ≡ true) ↔ BlanksLaid (h.rows * h.columns) h.count h.capacity b → r ≡ laid_out b
  last-decides {r} w z f l d =
      bool-ext r (laid_out b) (λ y. laid_by.1 (record { limits = w; sized = z; line = f; entries = l; blanks = d.0 y })) (λ y. d.1 (laid_by.0 y).blanks)
