-- Open, from what the code finds to the outcome.
--
--   open-numbers, length-no   ==  one of questions 1 to 4 gets a no; they get a yes, and question 6 a no
--   open-yes                  ==  every question gets a yes
--   numbers-within            ==  what is known where questions 1 to 4 get a yes
--   length-is                 ==  how long a register is
--   open-asked                ==  what is asked of a slice is asked of its length
--   opened-no                 ==  the way out with a no
--   opened-passes, opened-yes ==  what is known where every question gets a yes, and the way out then
--   limits-size, head-fits    ==  a grid within the limits has at most 128 cells; line 1 fits the slice
--   head-written, room, blank-written, blanks-written  ==  the loop's start, room for a line, one turn, and its end
use mathlib.Core.Path.{◌≡◌, refl, sym, ap, ◌∙◌}
use mathlib.Core.List.{List, [], ◌∷◌, ◌++◌}
use mathlib.Core.Bool.{and-true}
use Prim.Native.Nat.{ℕ, ◌+◌, ◌-◌, ◌*◌, ◌≤◌, ◌<◌}
use native.Mathlib.Omega.{arith}
use lib.ListN.{length, drop}
use lib.Dec.{eqb}
use borrow.Author.Tests.{eq-eqb, ne_eqb}
use borrow.Rule.Slice.PartMut.{mid_of, put_mid}
use Rattle.permutations.specs.Lists.{every}
use Rattle.grids.specs.Asked.{numbers_no}
use Rattle.grids.specs.Questions.{Question, first_no, question6}
use Rattle.grids.proofs.QuestionLaws.{first_no-pass, first_no-stop, first-no-stays, first-no-next, size_fits}
use Rattle.layout.specs.Layout.{Shape, grid_size, head_length, line_length, line_start, head_line, blank_line, layout, layout_length, InLimits}
use Rattle.layout.proofs.LineLaws.{line-short}
use Rattle.layout.proofs.MoveLaws.{Opened, opened-head, opened-next, opened-all}
use Rattle.calls.specs.Calls.{answered, open_questions, opened, placed}
use Rattle.calls.specs.Valid.{open_no}
use Rattle.calls.proofs.AskedLaws.{number_questions, number-numbered, numbers-pass, open-pass}
use Rattle.calls.proofs.LeastSteps.{answered-refusal}
use Rattle.calls.proofs.ValidMoves.{Room, lines_fit, tail-part, put-tail}

-- question 6 of a length
module _ (s : Shape) (x : ℕ) where
  abbrev exact : Question
  exact = record { number = 6; answer = eqb x (layout_length s) }

  pub open-numbers : {k : ℕ} → k ≡ numbers_no s.rows s.columns s.top s.capacity → (k ≡ 0 → ⊥) → k ≡ open_no s x
  unfolding open_no numbers_no
  open-numbers e h = e ∙ sym (first-no-stays (number_questions s) (exact ∷ []) (λ z. h (e ∙ z)))

  module _ (z : 0 ≡ numbers_no s.rows s.columns s.top s.capacity) where
    past-numbers : open_no s x ≡ first_no (exact ∷ [])
    unfolding open_no numbers_no
    past-numbers = first-no-next (number_questions s) (exact ∷ []) (number-numbered s) (sym z)

    pub length-no : (x ≡ layout_length s → ⊥) → 6 ≡ open_no s x
    length-no h = sym (past-numbers ∙ first_no-stop exact [] (ne_eqb x (layout_length s) h))

    pub open-yes : x ≡ layout_length s → 0 ≡ open_no s x
    unfolding first_no
    open-yes d = sym (past-numbers ∙ first_no-pass exact [] (eq-eqb x (layout_length s) d))

pub numbers-within : (s : Shape) → 0 ≡ numbers_no s.rows s.columns s.top s.capacity → InLimits s
numbers-within s z = (numbers-pass s).0 (sym z)

pub length-is : (s : Shape) {x : ℕ} → x ≡ line_start (grid_size s) s.capacity → x ≡ layout_length s
unfolding layout_length
length-is s q = q

pub open-asked : (s : Shape) (b : List ℕ) → open_no s (length b) ≡ first_no (open_questions s b)
unfolding open_no open_questions question6 every
open-asked s b = rw (and-true (eqb (length b) (layout_length s))) refl

module _ (s : Shape) (b : List ℕ) {k : ℕ} (e : k ≡ open_no s (length b)) where
  pub opened-no : (k ≡ 0 → ⊥) → placed k 0 b ≡ opened s b
  unfolding opened
  opened-no n =
      ap (λ (i : ℕ). placed i 0 b) (e ∙ open-asked s b)
      ∙ sym (answered-refusal (first_no (open_questions s b)) b _ (λ z. n (e ∙ open-asked s b ∙ z)))

module _ (s : Shape) (b : List ℕ) (z : 0 ≡ open_no s (length b)) where
  pub opened-passes : InLimits s × (length b ≡ layout_length s)
  opened-passes = (open-pass s b).0 (sym (z ∙ open-asked s b))

  pub opened-yes : {l : List ℕ} → l ≡ layout (record { shape = s; entries = [] }) → placed 0 0 l ≡ opened s b
  unfolding opened answered
  opened-yes {l} d = rw (d, sym (open-asked s b) ∙ sym z) refl

-- ---- the bytes

pub limits-size : (s : Shape) → InLimits s → s.rows * s.columns ≤ 128
limits-size s i = size_fits s.rows s.columns i.grid-limits.rows-limits.1 i.grid-limits.column-limits.1

pub head-fits : (s : Shape) (b : List ℕ) → length b ≡ layout_length s → head_length ≤ length b
unfolding layout_length
head-fits s b e = omega (arith, e)

pub head-written : (s : Shape) (b ys : List ℕ) → length b ≡ layout_length s → ys ≡ head_line s 0 → Opened s 0 (ys ++ drop head_length b)
head-written s b ys e d = rw d (opened-head b e)

-- what is left behind e lines
module _ {s : Shape} {e : ℕ} {b : List ℕ} (i : InLimits s) (f : Opened s e b) (h : e < s.capacity) {start : ℕ} (p : start ≡ line_start (grid_size s) e) where
  pub room : Room b start 0 (line_length (grid_size s))
  unfolding layout_length
  room =
      let c = limits-size s i in
      let z : 0 ≡ 0 * line_length (grid_size s) = omega arith in
      rw (p, z) (lines_fit b e 0 s.capacity (grid_size s) (omega arith) f.sized i.capacity-limits.1 (line-short (grid_size s) c))

  pub blank-written : (ys : List ℕ) → ys ≡ blank_line (grid_size s) ++ drop (line_length (grid_size s)) (mid_of start (length b - start) b) → Opened s (e + 1) (put_mid start (length b - start) b ys)
  blank-written ys d = rw (put-tail b start room.start-inside ys, d, tail-part b start room.start-inside, p) (opened-next f h)

pub blanks-written : {s : Shape} {e : ℕ} {b : List ℕ} → Opened s e b → e ≡ s.capacity → b ≡ layout (record { shape = s; entries = [] })
blanks-written {b = b} f q = opened-all (rw q at f)
