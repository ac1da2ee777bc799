-- What the register's calls ask, exactly: which arguments pass every question.
--
--   number_questions s  ==  questions 1 to 4
--   number-numbered, numbers-pass  ==  each has a number; they ask the limits
--   open-pass    ==  open's: the limits, and a slice of the exact length
--   client-numbered, client-pass  ==  questions 6, 7 and 15: a grid, and a client
--   enter-tested   ==  enter's: a register, a grid, a client, its class held or room for it, and this client's holding below 999
--   strike-tested  ==  strike's: a register, a grid, a client, and its class held by this client
--   count-tested   ==  count's: a register, and bounds
use mathlib.Core.Path.{◌≡◌, refl}
use mathlib.Core.List.Memᴰ
use mathlib.Core.List.{List, [], ◌∷◌, ◌++◌}
use mathlib.Core.Bool.{true, ◌||◌}
use mathlib.Core.Logic.{◌↔◌}
use Prim.Native.Nat.{ℕ, ◌≤◌}
use native.Mathlib.Omega.{arith}
use lib.ListN.{length}
use lib.Dec.{ltb}
use Rattle.grids.specs.Grids.{IsGrid, capped}
use Rattle.grids.specs.Asked.{numbers_no}
use Rattle.grids.specs.Questions.{Question, first_no, question1, question2, question3, question4, question6, question7}
use Rattle.grids.proofs.QuestionLaws.{AllYes, Numbered, first-no-zero, range-yes, yes-range, grid-of, grid-capped, all_one, limits-asked, numbers-numbered, numbers-decide, lengths-asked, cells-asked}
use Rattle.bounds.specs.Bounds.{IsBounds}
use Rattle.bounds.proofs.BoundsLaws.{bounds-asked, bounds-numbered}
use Rattle.layout.specs.Layout.{Shape, Register, clients, most_held, grids_of, grid_size, layout_length, InLimits, laid_out}
use Rattle.calls.specs.Entries.{grid_questions, client_questions, holds, held_by, question9, question10, question15, question16}
use Rattle.calls.specs.Calls.{question5, open_questions, enter_questions, strike_questions, count_questions}

-- ---- a grid's questions

grid-yes : (s : Shape) (g : List ℕ) → ((question6 (grid_size s) (g ∷ [])).answer ≡ true) → ((question7 s.top (g ∷ [])).answer ≡ true) → IsGrid s.rows s.columns s.top g
grid-yes s g p q =
    grid-of s.rows s.columns s.top g ((lengths-asked (grid_size s) (g ∷ [])).0 p g (Memᴰ.head refl)) ((cells-asked s.top (g ∷ [])).0 q g (Memᴰ.head refl))

yes-length : (s : Shape) (g : List ℕ) → IsGrid s.rows s.columns s.top g → (question6 (grid_size s) (g ∷ [])).answer ≡ true
yes-length s g i = (lengths-asked (grid_size s) (g ∷ [])).1 (all_one (λ x. length x ≡ grid_size s) g i.sized)

yes-cells : (s : Shape) (g : List ℕ) → IsGrid s.rows s.columns s.top g → (question7 s.top (g ∷ [])).answer ≡ true
yes-cells s g i = (cells-asked s.top (g ∷ [])).1 (all_one (λ x. capped s.top x ≡ true) g (grid-capped s.rows s.columns s.top g i))

-- ---- the four numbers

abbrev pub number_questions : Shape → List Question
number_questions s = question1 s.rows ∷ question2 s.columns ∷ question3 s.top ∷ question4 s.capacity ∷ []

module _ (s : Shape) where
  pub number-numbered : Numbered (number_questions s)
  number-numbered = numbers-numbered s.rows s.columns s.top s.capacity

  pub numbers-pass : (numbers_no s.rows s.columns s.top s.capacity ≡ 0) ↔ InLimits s
  numbers-pass =
      let d = numbers-decide s.rows s.columns s.top s.capacity in
      (λ e. let h = d.0 e in record { grid-limits = h.0; capacity-limits = h.1 }, λ i. d.1 (i.grid-limits, i.capacity-limits))

-- ---- open

open-numbered : (s : Shape) (b : List ℕ) → Numbered (open_questions s b)
unfolding open_questions question1 question2 question3 question4 question6
open-numbered s b = (omega arith, (omega arith, (omega arith, (omega arith, (omega arith, tt)))))

pub open-pass : (s : Shape) (b : List ℕ) → (first_no (open_questions s b) ≡ 0) ↔ (InLimits s × (length b ≡ layout_length s))
unfolding open_questions question4
open-pass s b = (to, back)
  where
    rest : List Question
    rest = question4 s.capacity ∷ question6 (layout_length s) (b ∷ []) ∷ []

    zeros : (first_no (open_questions s b) ≡ 0) ↔ AllYes (open_questions s b)
    zeros = first-no-zero (open_questions s b) (open-numbered s b)

    to : first_no (open_questions s b) ≡ 0 → InLimits s × (length b ≡ layout_length s)
    to e =
        let h = (limits-asked s.rows s.columns s.top rest).0 (zeros.0 e) in
        (record { grid-limits = h.0; capacity-limits = range-yes 1 500 s.capacity h.1.0 }, (lengths-asked (layout_length s) (b ∷ [])).0 h.1.1.0 b (Memᴰ.head refl))

    back : InLimits s × (length b ≡ layout_length s) → first_no (open_questions s b) ≡ 0
    back h =
        zeros.1 ((limits-asked s.rows s.columns s.top rest).1 (
          h.0.grid-limits,
          (yes-range 1 500 s.capacity h.0.capacity-limits, ((lengths-asked (layout_length s) (b ∷ [])).1 (all_one (λ x. length x ≡ layout_length s) b h.1), tt)),
        ))

-- ---- enter, strike and count

pub client-numbered : (s : Shape) (c : ℕ) (g : List ℕ) → Numbered (client_questions s c g)
unfolding client_questions grid_questions question6 question7 question15
client-numbered s c g = (omega arith, (omega arith, (omega arith, tt)))

pub client-pass : (s : Shape) (c : ℕ) (g : List ℕ) → (first_no (client_questions s c g) ≡ 0) ↔ (IsGrid s.rows s.columns s.top g × (1 ≤ c) × (c ≤ clients))
unfolding client_questions grid_questions question15
client-pass s c g =
    let z = first-no-zero (client_questions s c g) (client-numbered s c g) in (
      λ e. let h = z.0 e in let k = range-yes 1 clients c h.1.1.0 in (grid-yes s g h.0 h.1.0, k.0, k.1),
      λ h. z.1 (yes-length s g h.0, (yes-cells s g h.0, (yes-range 1 clients c (h.1, h.2), tt))),
    )

-- question 5, a grid's and a client's questions, and what is asked of the register
then-pass : (b : List ℕ) (s : Shape) (c : ℕ) (g : List ℕ) (l : List Question) → Numbered l →
    (first_no (question5 b ∷ (client_questions s c g ++ l)) ≡ 0) ↔ ((laid_out b ≡ true) × (first_no (client_questions s c g) ≡ 0) × AllYes l)
unfolding client_questions grid_questions question5 question6 question7 question15
then-pass b s c g l n =
    let z = first-no-zero (question5 b ∷ (client_questions s c g ++ l)) (omega arith, (omega arith, (omega arith, (omega arith, n)))) in
    let y = first-no-zero (client_questions s c g) (client-numbered s c g) in (
      λ e. let h = z.0 e in (h.0, y.1 (h.1.0, (h.1.1.0, (h.1.1.1.0, tt))), h.1.1.1.1),
      λ h. let q = y.0 h.1 in z.1 (h.0, (q.0, (q.1.0, (q.1.1.0, h.2)))),
    )

module _ (b : List ℕ) (x : Register) (c : ℕ) (g r : List ℕ) where
  pub enter-tested : (first_no (enter_questions b x c g r) ≡ 0)
      ↔ ((laid_out b ≡ true) × (first_no (client_questions x.shape c g) ≡ 0) × ((holds r (grids_of x.entries) || ltb (length x.entries) x.shape.capacity) ≡ true) × (ltb (held_by c r x.entries) most_held ≡ true))
  unfolding enter_questions question9 question16
  enter-tested =
      let z = then-pass b x.shape c g (question9 x r ∷ question16 x c r ∷ []) (omega arith, (omega arith, tt)) in (
        λ e. let h = z.0 e in (h.0, h.1, h.2.0, h.2.1.0),
        λ h. z.1 (h.0, h.1, (h.2, (h.3, tt))),
      )

  pub strike-tested : (first_no (strike_questions b x c g r) ≡ 0)
      ↔ ((laid_out b ≡ true) × (first_no (client_questions x.shape c g) ≡ 0) × (ltb 0 (held_by c r x.entries) ≡ true))
  unfolding strike_questions question10
  strike-tested =
      let z = then-pass b x.shape c g (question10 x c r ∷ []) (omega arith, tt) in
      (λ e. let h = z.0 e in (h.0, h.1, h.2.0), λ h. z.1 (h.0, h.1, (h.2, tt)))

count-numbered : (b : List ℕ) (x : Register) (low high : List ℕ) → Numbered (count_questions b x low high)
unfolding count_questions question5
count-numbered b x low high = (omega arith, bounds-numbered (grid_size x.shape) x.shape.top low high)

pub count-tested : (b : List ℕ) (x : Register) (low high : List ℕ) → (first_no (count_questions b x low high) ≡ 0) ↔ ((laid_out b ≡ true) × IsBounds (grid_size x.shape) x.shape.top low high)
unfolding count_questions question5
count-tested b x low high =
    let z = first-no-zero (count_questions b x low high) (count-numbered b x low high) in
    let a = bounds-asked (grid_size x.shape) x.shape.top low high in
    (λ e. let h = z.0 e in (h.0, a.0 h.1), λ h. z.1 (h.0, a.1 h.1))
