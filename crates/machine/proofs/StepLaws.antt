-- What the machine can answer.
--
--   Answerable P l  ==  P holds of each number, with its place or count, that a call can be answered by where the set is l
--   step-answers    ==  so it holds of a step's
use mathlib.Core.Path.{◌≡◌, refl}
use mathlib.Core.List.{List, ◌∷◌}
use mathlib.Core.Bool.{Bool}
use Prim.Native.Nat.{ℕ, zero, suc}
use native.Mathlib.Omega.{arith}
use lib.ListN.{length}
use Rattle.permutations.specs.Lists.{select}
use Rattle.grids.specs.Questions.{first_no, question6, question7, question14}
use Rattle.grids.proofs.QuestionLaws.{first_no-has}
use Rattle.bounds.specs.Bounds.{in_bounds}
use Rattle.bounds.specs.Prune.{bounds_questions, question8}
use Rattle.layout.specs.Layout.{Shape, grids_of, grid_size}
use Rattle.calls.specs.Entries.{grid_questions, client_questions, question15, least_in, place_in}
use Rattle.machine.specs.CallLists.{Call, enter, strike, count_in, terminal_enter}
use Rattle.machine.specs.Machine.{Step, step_unless, enter_class, strike_class, count_classes, step}
use Rattle.calls.proofs.EntryLaws.{Entries}
use Rattle.machine.proofs.MachineLaws.{enter-cases, strike-cases}

pub record Answerable (P : ℕ → ℕ → Type 0) (l : Entries) : Type 0 where
  pub length-no : P 6 0
  pub cells-no : P 7 0
  pub order-no : P 8 0
  pub full : P 9 0
  pub not-held : P 10 0
  pub rows-no : P 14 0
  pub client-no : P 15 0
  pub most : P 16 0
  pub done : (r : List ℕ) → P 0 (place_in (grids_of l) r)
  pub held : (r : List ℕ) → P 101 (place_in (grids_of l) r)
  pub counted : (t : List ℕ → Bool) → P 0 (length (select t (grids_of l)))

module _ (P : ℕ → ℕ → Type 0) (s : Shape) (l : Entries) (a : Answerable P l) where
  abbrev Has : Step → Type 0
  Has t = P t.number t.place

  -- a first no, or what follows
  unless-has : (k : ℕ) (t : Step) → ((k ≡ 0 → ⊥) → P k 0) → Has t → Has (step_unless k l t)
  unfolding step_unless
  unless-has zero t h p = p
  unless-has (suc k) t h p = h (λ e. omega arith)

  abbrev Refuses : ℕ → Type 0
  Refuses k = (k ≡ 0 → ⊥) → P k 0

  client-refuses : (c : ℕ) (g : List ℕ) → Refuses (first_no (client_questions s c g))
  unfolding client_questions grid_questions question6 question7 question15
  client-refuses c g = first_no-has Refuses (client_questions s c g) (λ n. absurd (n refl)) (λ n. a.length-no, (λ n. a.cells-no, (λ n. a.client-no, tt)))

  terminal-refuses : (c : ℕ) (g : List ℕ) → Refuses (first_no (question14 s.rows ∷ client_questions s c g))
  unfolding client_questions grid_questions question6 question7 question14 question15
  terminal-refuses c g =
      first_no-has Refuses (question14 s.rows ∷ client_questions s c g) (λ n. absurd (n refl)) (λ n. a.rows-no, (λ n. a.length-no, (λ n. a.cells-no, (λ n. a.client-no, tt))))

  bounds-refuse : (low high : List ℕ) → Refuses (first_no (bounds_questions (grid_size s) s.top low high))
  unfolding bounds_questions question6 question7 question8
  bounds-refuse low high =
      first_no-has Refuses (bounds_questions (grid_size s) s.top low high) (λ n. absurd (n refl)) (λ n. a.length-no, (λ n. a.cells-no, (λ n. a.order-no, tt)))

  enter-has : (c : ℕ) (r : List ℕ) → Has (enter_class s l c r)
  enter-has c r = enter-cases Has s l c r (λ h m. a.held r) a.most (λ h f. a.done r) a.full

  strike-has : (c : ℕ) (r : List ℕ) → Has (strike_class s l c r)
  strike-has c r = strike-cases Has s l c r (λ h. a.done r) a.not-held

  count-has : (low high : List ℕ) → Has (count_classes s l low high)
  unfolding count_classes
  count-has low high = a.counted (in_bounds (grid_size s) s.top low high)

  pub step-answers : (c : Call) → P (step s l c).number (step s l c).place
  unfolding step
  step-answers (enter c g) = unless-has _ _ (client-refuses c g) (enter-has c (least_in s g))
  step-answers (strike c g) = unless-has _ _ (client-refuses c g) (strike-has c (least_in s g))
  step-answers (count_in low high) = unless-has _ _ (bounds-refuse low high) (count-has low high)
  step-answers (terminal_enter c g) = unless-has _ _ (terminal-refuses c g) (enter-has c (least_in s g))
