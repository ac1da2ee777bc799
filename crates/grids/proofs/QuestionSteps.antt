-- The first no of a shape's questions, and the test of cells, as the code finds them.
--
--   range-no    ==  a number outside a range
--   rows-no, columns-no, top-no  ==  of questions 1 to 3, those before get a yes, this one a no
--   limits-yes  ==  each gets a yes
--   passed      ==  what a yes of these questions says
--   shape-limits, lengths-no, shape-yes  ==  of a shape's questions, one of 1 to 3 gets a no, then 6; each gets a yes
--   numbers-limits, capacity-no, numbers-yes  ==  of questions 1 to 4, one of 1 to 3 gets a no, then 4; each gets a yes
--   Greatest g i x  ==  x is the greatest of the first i cells of g, or 0
--   greatest-none, greatest-next, greatest-capped  ==  at first, a cell further, and what it says of the test of cells
use Rattle.std.proofs.Common.{Result, Ok}
use mathlib.Core.Path.{◌≡◌, sym, ◌∙◌}
use mathlib.Core.List.{List, [], ◌∷◌}
use mathlib.Core.Bool.{true, false, ◌&&◌}
use mathlib.Core.Logic.{◌↔◌}
use Prim.Native.Nat.{ℕ, ◌+◌, ◌*◌, ◌≤◌, ◌<◌, max}
use native.Mathlib.Decide.{ℕ_discrete, dec_lt}
use native.Mathlib.Omega.{arith}
use lib.ListN.{length, get_or}
use lib.Dec.{eqb, leb}
use borrow.Author.Tests.{eqb-true, eq-eqb, leb-true, le-leb}
use Rattle.permutations.proofs.BoolLaws.{and_yes, yes_and, bool-ext, refuted}
use Rattle.refusals.specs.declared.Refusal.{Refusal}
use Rattle.refusals.specs.Numbers.{asked_number}
use Rattle.refusals.proofs.NumberLaws.{yes-is}
use Rattle.grids.specs.Grids.{capped}
use Rattle.grids.specs.Asked.{limits_no, numbers_no, shape_no}
use Rattle.grids.specs.Questions.{Question, first_no, in_range, Limits, question1, question2, question3, question4}
use Rattle.grids.proofs.QuestionLaws.{first_no-pass, first_no-stop, range-yes, yes-range, limits-decide, limits-refuse, limits-pass, capped_at, at-capped}

pub range-no : (a b x : ℕ) → ((a ≤ x) × (x ≤ b) → ⊥) → in_range a b x ≡ false
range-no a b x h = refuted (in_range a b x) (range-yes a b x, yes-range a b x) h

-- have two slices of lengths x and y their exact length?
abbrev two-lengths : ℕ → ℕ → ℕ → Question
two-lengths size x y = record { number = 6; answer = eqb x size && eqb y size }

two-lengths-asked : (size x y : ℕ) → ((two-lengths size x y).answer ≡ true) ↔ ((x ≡ size) × (y ≡ size))
two-lengths-asked size x y = (
  λ e. let p = and_yes (eqb x size) (eqb y size) e in (eqb-true x size p.0, eqb-true y size p.1),
  λ h. yes_and (eqb x size) (eqb y size) (eq-eqb x size h.0) (eq-eqb y size h.1),
)

module _ (m n top : ℕ) where
  pub rows-no : ((1 ≤ m) × (m ≤ 8) → ⊥) → 1 ≡ limits_no m n top
  unfolding limits_no question1
  rows-no h = sym (first_no-stop (question1 m) _ (range-no 1 8 m h))

  past-rows : (1 ≤ m) × (m ≤ 8) → limits_no m n top ≡ first_no (question2 n ∷ question3 top ∷ [])
  unfolding limits_no question1
  past-rows h = first_no-pass (question1 m) _ (yes-range 1 8 m h)

  pub columns-no : (1 ≤ m) × (m ≤ 8) → ((1 ≤ n) × (n ≤ 16) → ⊥) → 2 ≡ limits_no m n top
  unfolding question2
  columns-no h k = sym (past-rows h ∙ first_no-stop (question2 n) _ (range-no 1 16 n k))

  pub top-no : (1 ≤ m) × (m ≤ 8) → (1 ≤ n) × (n ≤ 16) → 15 < top → 3 ≡ limits_no m n top
  unfolding question2 question3
  top-no h k l = sym (past-rows h ∙ first_no-pass (question2 n) _ (yes-range 1 16 n k) ∙ first_no-stop (question3 top) [] (range-no 0 15 top (λ r. omega arith)))

  pub limits-yes : Limits m n top → 0 ≡ limits_no m n top
  limits-yes l = sym ((limits-decide m n top).1 l)

  pub passed : {A : Type 0} {r : Result A Refusal} {y : A} → r ≡ Ok y → asked_number r ≡ limits_no m n top → Limits m n top
  passed d e = (limits-decide m n top).0 (sym (yes-is d e))

  module _ (x y : ℕ) where
    pub shape-limits : {k : ℕ} → k ≡ limits_no m n top → (k ≡ 0 → ⊥) → k ≡ shape_no m n top x y
    unfolding shape_no
    shape-limits e h = e ∙ sym (limits-refuse m n top (two-lengths (m * n) x y ∷ []) (λ z. h (e ∙ z)))

    module _ (l : Limits m n top) where
      past-limits : shape_no m n top x y ≡ first_no (two-lengths (m * n) x y ∷ [])
      unfolding shape_no
      past-limits = limits-pass m n top (two-lengths (m * n) x y ∷ []) l

      pub lengths-no : ((x ≡ m * n) × (y ≡ m * n) → ⊥) → 6 ≡ shape_no m n top x y
      lengths-no e = sym (past-limits ∙ first_no-stop (two-lengths (m * n) x y) [] (refuted (two-lengths (m * n) x y).answer (two-lengths-asked (m * n) x y) e))

      pub shape-yes : x ≡ m * n → y ≡ m * n → 0 ≡ shape_no m n top x y
      unfolding first_no
      shape-yes d e = sym (past-limits ∙ first_no-pass (two-lengths (m * n) x y) [] ((two-lengths-asked (m * n) x y).1 (d, e)))

module _ (m n top capacity : ℕ) where
  pub numbers-limits : {k : ℕ} → k ≡ limits_no m n top → (k ≡ 0 → ⊥) → k ≡ numbers_no m n top capacity
  unfolding numbers_no
  numbers-limits e h = e ∙ sym (limits-refuse m n top (question4 capacity ∷ []) (λ z. h (e ∙ z)))

  module _ (z : 0 ≡ limits_no m n top) where
    past_three : numbers_no m n top capacity ≡ first_no (question4 capacity ∷ [])
    unfolding numbers_no
    past_three = limits-pass m n top (question4 capacity ∷ []) ((limits-decide m n top).0 (sym z))

    pub capacity-no : ((1 ≤ capacity) × (capacity ≤ 500) → ⊥) → 4 ≡ numbers_no m n top capacity
    unfolding question4
    capacity-no h = sym (past_three ∙ first_no-stop (question4 capacity) [] (range-no 1 500 capacity h))

    pub numbers-yes : (1 ≤ capacity) × (capacity ≤ 500) → 0 ≡ numbers_no m n top capacity
    unfolding question4 first_no
    numbers-yes h = sym (past_three ∙ first_no-pass (question4 capacity) [] (yes-range 1 500 capacity h))

-- ---- question 7

-- x is the greatest of the first i cells of g, or 0
pub record Greatest (g : List ℕ) (i x : ℕ) : Type 0 where
  pub bound : (k : ℕ) → k < i → get_or g k 0 ≤ x
  pub reached : (t : ℕ) → t < x → (k : ℕ) × (k < i) × (t < get_or g k 0)

pub greatest-none : (g : List ℕ) → Greatest g 0 0
greatest-none g = record { bound = λ k h. absurd (omega arith); reached = λ t h. absurd (omega arith) }

pub greatest-next : {g : List ℕ} {i x r : ℕ} → Greatest g i x → r ≡ max x (get_or g i 0) → Greatest g (i + 1) r
greatest-next {g} {i} {x} {r} h m = record { bound = λ k b. below k b (ℕ_discrete k i); reached = λ t b. found t b (dec_lt t x) }
  where
    below : (k : ℕ) → k < i + 1 → Dec (k ≡ i) → get_or g k 0 ≤ r
    below k b (yes e) = rw e (omega arith)
    below k b (no ne) = omega (arith, h.bound k (omega arith))

    found : (t : ℕ) → t < r → Dec (t < x) → (k : ℕ) × (k < i + 1) × (t < get_or g k 0)
    found t b (yes e) = let w = h.reached t e in (w.0, omega (arith, w.1), w.2)
    found t b (no e) = (i, omega arith, omega arith)

pub greatest-capped : (top : ℕ) (g : List ℕ) (x : ℕ) → Greatest g (length g) x → leb x top ≡ capped top g
greatest-capped top g x h = bool-ext (leb x top) (capped top g) (λ e. at-capped top g (λ k b. omega (arith, leb-true x top e, h.bound k b))) λ e. le-leb x top (go (dec_lt top x) e)
  where
    go : Dec (top < x) → capped top g ≡ true → x ≤ top
    go (yes b) e = let w = h.reached top b in absurd (omega (arith, w.2, capped_at top g e w.0 w.1))
    go (no b) e = omega arith
