-- The plain machine: what its set keeps, its bytes, and each call on its bytes.
--
--   Good s l         ==  what holds of a set reached by calls: limits, no class twice, at most capacity classes, each by its least grid and with holdings
--   empty-good       ==  the empty set, of a shape within the limits
--   register_of s l   ==  the register that the machine shows
--   good-register, reads, laid  ==  it is one, the machine's bytes state it, and question 5 gets a yes
--   grids-good, self-least  ==  a grid of the set is one, and the least of its class
--   terminal-step-yes, terminal-step-no  ==  a terminal's step is enter's where question 14 gets a yes, and 14 where it gets a no
--   terminal-step-has  ==  what holds of both holds of it
--   enter-same, strike-same, count_same, terminal-enter-same  ==  each call on the machine's bytes answers and leaves what the machine does
--   enter-cases, strike-cases  ==  what holds of each case of an enter, of a strike, holds of it
--   afterwards s l calls  ==  the set after the calls
--   set-fit          ==  a class's holdings are one for each client, each at most 999
--   step-good, afterwards-good  ==  a good set stays good
use mathlib.Core.Path.{◌≡◌, refl, sym, ap, subst, ◌∙◌}
use mathlib.Core.List.Memᴰ
use mathlib.Core.List.{List, [], ◌∷◌, ◌++◌, Memᴰ}
use mathlib.Core.Bool.{Bool, true, false}
use mathlib.Core.Logic.{◌⊎◌, inl, inr}
use Prim.Native.Nat.{ℕ, zero, suc, ◌-◌, ◌≤◌, ◌<◌}
use native.Mathlib.Omega.{arith}
use lib.ListN.{length, get_or}
use lib.Dec.{ltb}
use borrow.Author.Tests.{ltb-true}
use Rattle.permutations.specs.Lists.{select}
use Rattle.permutations.proofs.BoolLaws.{yes_or_no}
use Rattle.grids.specs.Order.{less}
use Rattle.grids.specs.Grids.{IsGrid}
use Rattle.grids.specs.Least.{IsLeast}
use Rattle.grids.specs.Questions.{Question, first_no, question14}
use Rattle.grids.proofs.LeastLaws.{least-is, least-grid, least-least}
use Rattle.grids.proofs.QuestionLaws.{first_no-pass, first_no-stop}
use Rattle.bounds.specs.Bounds.{in_bounds}
use Rattle.bounds.specs.Prune.{bounds_questions}
use Rattle.layout.specs.Layout.{Shape, Entry, Register, most_held, grids_of, grid_size, layout, holding, decode, InLimits, IsHoldings, IsRegister, some_held, laid_out}
use Rattle.calls.specs.Entries.{question9, question10, question16, client_questions, least_in, more, fewer, holds, holdings_in, held_by, place_in, insert, without, Once}
use Rattle.calls.specs.Calls.{Outcome, answered, question5, kept, enter_into, strike_from, enter_questions, strike_questions, count_questions, enter_register, strike_register, entries_in, count_register, entered, struck, counted, terminal_entered}
use Rattle.machine.specs.CallLists.{Call, enter, strike, count_in, terminal_enter}
use Rattle.machine.specs.Machine.{sorted, shown, Step, step_unless, put, entering, striking, enter_class, strike_class, count_classes, step, outcome}
use Rattle.layout.proofs.LayoutLaws.{decode-layout}
use Rattle.layout.proofs.RegisterLaws.{register-printable, question5-layouts}
use Rattle.calls.proofs.AskedLaws.{client-numbered, client-pass}
use Rattle.calls.proofs.TerminalLaws.{terminal-entered, no-terminal-entered}
use Rattle.calls.proofs.EntryLaws.{Entries, holds-in, of-grids}
use Rattle.machine.proofs.SetLaws.{of-sorted, sorted-asc, length-sorted, count-sorted, holds-sorted, sorted-select, sorted-holdings}
use Rattle.calls.proofs.HoldingLaws.{none-by, held-here, HoldingsFit, holdings-fit, changed-fit, fit-held, differs, of-without, without-once, without-none, without_fewer, without-shorter}
use Rattle.calls.proofs.LeastSteps.{answered-append}

-- ---- what holds of a set reached by calls

pub record Good (s : Shape) (l : Entries) : Type 0 where
  pub limits : InLimits s
  pub once : Once (grids_of l)
  pub fits : length l ≤ s.capacity
  pub grids : (e : Entry) → Memᴰ e l → IsGrid s.rows s.columns s.top e.grid
  pub leasts : (e : Entry) → Memᴰ e l → least_in s e.grid ≡ e.grid
  pub held : (e : Entry) → Memᴰ e l → IsHoldings e.holdings

pub empty-good : (s : Shape) → InLimits s → Good s []
empty-good s h = record {
  limits = h;
  once = tt;
  fits = omega arith;
  grids = λ r m. absurd (Memᴰ.not-nil m);
  leasts = λ r m. absurd (Memᴰ.not-nil m);
  held = λ r m. absurd (Memᴰ.not-nil m);
}

unfoldable pub register_of : Shape → Entries → Register
register_of s l = record { shape = s; entries = sorted l }

module _ (s : Shape) (l : Entries) (g : Good s l) where
  pub good-register : IsRegister (register_of s l)
  unfolding register_of
  good-register = record {
    limits = g.limits;
    count_fits = omega (arith, length-sorted l, g.fits);
    entry-grids = λ x m. g.grids x (of-sorted l x m);
    entry-holdings = λ x m. g.held x (of-sorted l x m);
    entries-ascend = sorted-asc l g.once;
  }

  pub reads : decode (shown s l) ≡ register_of s l
  unfolding shown register_of
  reads = decode-layout (register_of s l) (register-printable (register_of s l) good-register)

  pub laid : laid_out (shown s l) ≡ true
  unfolding shown register_of
  laid = (question5-layouts (shown s l)).1 (register_of s l, good-register, refl)

-- a terminal's step: that of enter, or 14
module _ (s : Shape) (l : Entries) (c : ℕ) (g : List ℕ) (t : Step) where
  abbrev terminal_step : Step
  terminal_step = step_unless (first_no (question14 s.rows ∷ client_questions s c g)) l t

  pub terminal-step-yes : (question14 s.rows).answer ≡ true → terminal_step ≡ step_unless (first_no (client_questions s c g)) l t
  terminal-step-yes e = ap (λ (k : ℕ). step_unless k l t) (first_no-pass (question14 s.rows) (client_questions s c g) e)

  pub terminal-step-no : (question14 s.rows).answer ≡ false → terminal_step ≡ record { number = 14; place = 0; next = l }
  unfolding step_unless question14
  terminal-step-no e = ap (λ (k : ℕ). step_unless k l t) (first_no-stop (question14 s.rows) (client_questions s c g) e)

  -- what holds of both holds of it
  pub terminal-step-has : (P : Step → Type 0) → P (step_unless (first_no (client_questions s c g)) l t) → P (record { number = 14; place = 0; next = l }) → P terminal_step
  terminal-step-has P p q = go (yes_or_no (question14 s.rows).answer)
    where
      go : ((question14 s.rows).answer ≡ true) ⊎ ((question14 s.rows).answer ≡ false) → P terminal_step
      go (inl e) = subst P (sym (terminal-step-yes e)) p
      go (inr e) = subst P (sym (terminal-step-no e)) q

-- ---- one call on the machine's bytes

-- an outcome by its parts
made : {j k p q : ℕ} {a b : List ℕ} → j ≡ k → p ≡ q → a ≡ b → ◌≡◌ {A = Outcome} (record { number = j; place = p; bytes = a }) (record { number = k; place = q; bytes = b })
made d e f = λ i. record { number = d i; place = e i; bytes = f i }

-- the first no, and what is answered then, on bytes and by the machine
refused-or : (k : ℕ) (o : Outcome) (s : Shape) (l : Entries) (u : Step) → (k ≡ 0 → o ≡ outcome s u) → answered k (shown s l) o ≡ outcome s (step_unless k l u)
unfolding answered step_unless outcome
refused-or zero o s l u h = h refl
refused-or (suc k) o s l u h = refl

-- other holdings for a class, of the machine's set and of its entries
kept-sorted : (r h : List ℕ) (l : Entries) → Once (grids_of l) → kept r h (sorted l) ≡ sorted (put r h l)
unfolding kept put sorted without
kept-sorted r h l o = go (yes_or_no (some_held h))
  where
    go : (some_held h ≡ true) ⊎ (some_held h ≡ false) → kept r h (sorted l) ≡ sorted (put r h l)
    go (inl t) = rw (t, kept, put) (ap (insert (record { grid = r; holdings = h })) (sorted-select (differs r) l o))
    go (inr t) = rw (t, kept, put) (sorted-select (differs r) l o)

module _ (s : Shape) (l : Entries) (g : Good s l) where
  place_same : (r : List ℕ) → place_in (grids_of (sorted l)) r ≡ place_in (grids_of l) r
  unfolding place_in
  place_same r = ap suc (count-sorted (λ x. less x r) l g.once)

  held_same : (c : ℕ) (r : List ℕ) → held_by c r (sorted l) ≡ held_by c r l
  unfolding held_by
  held_same c r = ap (holding c) (sorted-holdings l g.once r)

  -- the bytes after a change of a grid's holdings
  shown-put : (f : List ℕ → List ℕ) (r : List ℕ) → layout (record { shape = s; entries = kept r (f (holdings_in r (sorted l))) (sorted l) }) ≡ shown s (put r (f (holdings_in r l)) l)
  unfolding shown
  shown-put f r =
      ap (λ (es : Entries). layout (record { shape = s; entries = es }))
      (ap (λ (h : List ℕ). kept r (f h) (sorted l)) (sorted-holdings l g.once r) ∙ kept-sorted r (f (holdings_in r l)) l g.once)

  question5-passes : (qs : List Question) → first_no (question5 (shown s l) ∷ qs) ≡ first_no qs
  unfolding question5
  question5-passes qs = first_no-pass (question5 (shown s l)) qs (laid s l g)

  enter-class : (c : ℕ) (r : List ℕ) →
      answered (first_no (question9 (register_of s l) r ∷ question16 (register_of s l) c r ∷ [])) (shown s l) (enter_into (register_of s l) c r) ≡ outcome s (enter_class s l c r)
  unfolding question9 question16 register_of enter_into enter_class outcome
  enter-class c r =
      rw (holds-sorted r l, length-sorted l, held_same c r)
      (refused-or _ _ s l _ (λ z. made refl (place_same r) (shown-put (more c) r)))

  strike-class : (c : ℕ) (r : List ℕ) →
      answered (first_no (question10 (register_of s l) c r ∷ [])) (shown s l) (strike_from (register_of s l) c r) ≡ outcome s (strike_class s l c r)
  unfolding question10 register_of strike_from strike_class outcome
  strike-class c r = rw (held_same c r) (refused-or _ _ s l _ (λ z. made refl (place_same r) (shown-put (fewer c) r)))

  -- a client's call of the grid a, qs what it asks of the register, o what it answers where each gets a yes, and u the machine's step after the questions of the slices
  client-call : (c : ℕ) (a : List ℕ) (qs : List Question) (o : Outcome) (u : Step) → answered (first_no qs) (shown s l) o ≡ outcome s u →
      answered (first_no (question5 (shown s l) ∷ (client_questions s c a ++ qs))) (shown s l) o ≡ outcome s (step_unless (first_no (client_questions s c a)) l u)
  client-call c a qs o u h =
      ap (λ (k : ℕ). answered k (shown s l) o) (question5-passes _)
      ∙ answered-append (client_questions s c a) qs (shown s l) o (client-numbered s c a)
      ∙ refused-or (first_no (client_questions s c a)) (answered (first_no qs) (shown s l) o) s l u (λ z. h)

  enter-register : (c : ℕ) (a r : List ℕ) → enter_register (shown s l) (register_of s l) c a r ≡ outcome s (step_unless (first_no (client_questions s c a)) l (enter_class s l c r))
  unfolding enter_register enter_questions register_of
  enter-register c a r = client-call c a (question9 (register_of s l) r ∷ question16 (register_of s l) c r ∷ []) _ (enter_class s l c r) (enter-class c r)

  strike-register : (c : ℕ) (a r : List ℕ) → strike_register (shown s l) (register_of s l) c a r ≡ outcome s (step_unless (first_no (client_questions s c a)) l (strike_class s l c r))
  unfolding strike_register strike_questions register_of
  strike-register c a r = client-call c a (question10 (register_of s l) c r ∷ []) _ (strike_class s l c r) (strike-class c r)

  pub enter-same : (c : ℕ) (a : List ℕ) → entered (shown s l) c a ≡ outcome s (step_unless (first_no (client_questions s c a)) l (enter_class s l c (least_in s a)))
  unfolding entered register_of
  enter-same c a =
      ap (λ (x : Register). enter_register (shown s l) x c a (least_in x.shape a)) (reads s l g)
      ∙ enter-register c a (least_in s a)

  pub strike-same : (c : ℕ) (a : List ℕ) → struck (shown s l) c a ≡ outcome s (step_unless (first_no (client_questions s c a)) l (strike_class s l c (least_in s a)))
  unfolding struck register_of
  strike-same c a =
      ap (λ (x : Register). strike_register (shown s l) x c a (least_in x.shape a)) (reads s l g)
      ∙ strike-register c a (least_in s a)

  pub grids-good : (r : List ℕ) → Memᴰ r (grids_of l) → IsGrid s.rows s.columns s.top r × (least_in s r ≡ r)
  grids-good r m = let p = of-grids l r m in (rw p.2 at (g.grids p.0 p.1), rw p.2 at (g.leasts p.0 p.1))

  pub self-least : (r : List ℕ) → Memᴰ r (grids_of l) → IsLeast s.rows s.columns r r
  self-least r m = let p = grids-good r m in rw p.1 at (least-is s.rows s.columns r p.0.sized)

  entries-same : (low high : List ℕ) → entries_in (register_of s l) low high ≡ length (select (in_bounds (grid_size s) s.top low high) (grids_of l))
  unfolding entries_in register_of
  entries-same low high = count-sorted _ l g.once

  pub count_same : (low high : List ℕ) → counted (shown s l) low high ≡ outcome s (step_unless (first_no (bounds_questions (grid_size s) s.top low high)) l (count_classes s l low high))
  unfolding counted count_register count_questions register_of count_classes outcome
  count_same low high =
      ap (λ (x : Register). count_register (shown s l) x low high) (reads s l g)
      ∙ ap (λ (k : ℕ). answered k (shown s l) (record { number = 0; place = entries_in (register_of s l) low high; bytes = shown s l })) (question5-passes _)
      ∙ refused-or (first_no (bounds_questions (grid_size s) s.top low high)) _ s l (count_classes s l low high) (λ z. made refl (entries-same low high) refl)

  pub terminal-enter-same : (c : ℕ) (a : List ℕ) → terminal_entered (shown s l) c a ≡ outcome s (step_unless (first_no (question14 s.rows ∷ client_questions s c a)) l (enter_class s l c (least_in s a)))
  unfolding register_of outcome
  terminal-enter-same c a = go (yes_or_no (question14 s.rows).answer)
    where
      rows : (decode (shown s l)).shape.rows ≡ s.rows
      rows = ap (λ (x : Register). x.shape.rows) (reads s l g)

      go : ((question14 s.rows).answer ≡ true) ⊎ ((question14 s.rows).answer ≡ false) →
          terminal_entered (shown s l) c a ≡ outcome s (step_unless (first_no (question14 s.rows ∷ client_questions s c a)) l (enter_class s l c (least_in s a)))
      go (inl e) = terminal-entered (shown s l) c a (rw rows e) ∙ enter-same c a ∙ ap (outcome s) (sym (terminal-step-yes s l c a _ e))
      go (inr e) = no-terminal-entered (shown s l) c a (laid s l g) (rw rows e) ∙ ap (outcome s) (sym (terminal-step-no s l c a _ e))

-- ---- the cases of enter and strike

pub enter-cases : (P : Step → Type 0) (s : Shape) (l : Entries) (c : ℕ) (r : List ℕ) →
    (holds r (grids_of l) ≡ true → held_by c r l < most_held → P (record { number = 101; place = place_in (grids_of l) r; next = entering l c r })) →
    P (record { number = 16; place = 0; next = l }) →
    (holds r (grids_of l) ≡ false → length l < s.capacity → P (record { number = 0; place = place_in (grids_of l) r; next = entering l c r })) →
    P (record { number = 9; place = 0; next = l }) →
    P (enter_class s l c r)
unfolding enter_class question9 question16 first_no step_unless
enter-cases P s l c r held most new full = go (holds r (grids_of l)) refl (ltb (held_by c r l) most_held) refl (ltb (length l) s.capacity) refl
  where
    go : (h : Bool) → holds r (grids_of l) ≡ h → (m : Bool) → ltb (held_by c r l) most_held ≡ m → (f : Bool) → ltb (length l) s.capacity ≡ f → P (enter_class s l c r)
    go true h true m f e = rw (h, m, enter_class) (held h (ltb-true (held_by c r l) most_held m))
    go true h false m f e = rw (h, m, enter_class) most
    go false h t m true e = rw (h, e, none-by l r c h, enter_class) (new h (ltb-true (length l) s.capacity e))
    go false h t m false e = rw (h, e, enter_class) full

pub strike-cases : (P : Step → Type 0) (s : Shape) (l : Entries) (c : ℕ) (r : List ℕ) →
    (0 < held_by c r l → P (record { number = 0; place = place_in (grids_of l) r; next = striking l c r })) →
    P (record { number = 10; place = 0; next = l }) →
    P (strike_class s l c r)
unfolding strike_class question10 first_no step_unless
strike-cases P s l c r held none = go (ltb 0 (held_by c r l)) refl
  where
    go : (h : Bool) → ltb 0 (held_by c r l) ≡ h → P (strike_class s l c r)
    go true h = rw (h, strike_class) (held (ltb-true 0 (held_by c r l) h))
    go false h = rw (h, strike_class) none

-- ---- a good set stays good

module _ (s : Shape) (l : Entries) (g : Good s l) where
  reduced : (r : List ℕ) → Good s (without r l)
  reduced r = record {
    limits = g.limits;
    once = without-once r l g.once;
    fits = omega (arith, without_fewer r l, g.fits);
    grids = λ x m. g.grids x (of-without r l x m);
    leasts = λ x m. g.leasts x (of-without r l x m);
    held = λ x m. g.held x (of-without r l x m);
  }

  -- other holdings for the class of r, which the set has or has room for
  put-good : (r h : List ℕ) → IsGrid s.rows s.columns s.top r → least_in s r ≡ r → HoldingsFit h → length (without r l) < s.capacity → Good s (put r h l)
  unfolding put
  put-good r h i e f room = go (yes_or_no (some_held h))
    where
      new : Entry
      new = record { grid = r; holdings = h }

      pick : (P : Entry → Type 0) → P new → ((y : Entry) → Memᴰ y l → P y) → (y : Entry) → (y ≡ new) ⊎ Memᴰ y (without r l) → P y
      pick P p q y (inl d) = rw d p
      pick P p q y (inr m) = q y (of-without r l y m)

      go : (some_held h ≡ true) ⊎ (some_held h ≡ false) → Good s (put r h l)
      go (inl t) = rw (t, put) (record {
        limits = g.limits;
        once = (without-none r l, without-once r l g.once);
        fits = omega (arith, room);
        grids = λ x m. pick (λ y. IsGrid s.rows s.columns s.top y.grid) i g.grids x (Memᴰ.cases_cons m);
        leasts = λ x m. pick (λ y. least_in s y.grid ≡ y.grid) e g.leasts x (Memᴰ.cases_cons m);
        held = λ x m. pick (λ y. IsHoldings y.holdings) (fit-held h f t) g.held x (Memᴰ.cases_cons m);
      })
      go (inr t) = rw (t, put) (reduced r)

  pub set-fit : (r : List ℕ) → HoldingsFit (holdings_in r l)
  set-fit = holdings-fit l g.held

  held-room : (r : List ℕ) → holds r (grids_of l) ≡ true → length (without r l) < s.capacity
  held-room r t = omega (arith, without-shorter r l (holds-in r (grids_of l) t), g.fits)

  module _ (c : ℕ) (a : List ℕ) (e : first_no (client_questions s c a) ≡ 0) where
    abbrev r : List ℕ
    r = least_in s a

    least-good : IsGrid s.rows s.columns s.top r × (least_in s r ≡ r)
    least-good = let i = ((client-pass s c a).0 e).0 in (least-grid s.rows s.columns s.top a i, least-least s.rows s.columns a i.sized)

    enter-good : Good s (enter_class s l c r).next
    unfolding held_by more
    enter-good =
        enter-cases (λ t. Good s t.next) s l c r
        (λ h m. entered-good m (held-room r h))
        g
        (λ h d. entered-good (omega (arith, none-by l r c h)) (omega (arith, without_fewer r l)))
        g
      where
        entered-good : held_by c r l < most_held → length (without r l) < s.capacity → Good s (entering l c r)
        entered-good small room = put-good r (more c (holdings_in r l)) least-good.0 least-good.1 (changed-fit c _ _ (omega (arith, small)) (set-fit r)) room

    strike-good : Good s (strike_class s l c r).next
    unfolding fewer holding
    strike-good =
        strike-cases (λ t. Good s t.next) s l c r
        (λ h. put-good r (fewer c (holdings_in r l)) least-good.0 least-good.1 (changed-fit c _ _ small (set-fit r)) (held-room r (held-here l r c h)))
        g
      where
        small : get_or (holdings_in r l) (c - 1) 0 - 1 ≤ most_held
        small = let q = (client-pass s c a).0 e in omega (arith, (set-fit r).capped (c - 1) (omega (arith, q.1, q.2)))

  unless-good : (k : ℕ) (t : Step) → (k ≡ 0 → Good s t.next) → Good s (step_unless k l t).next
  unfolding step_unless
  unless-good zero t h = h refl
  unless-good (suc k) t h = g

  pub step-good : (c : Call) → Good s (step s l c).next
  unfolding step count_classes
  step-good (enter c a) = unless-good (first_no (client_questions s c a)) _ (enter-good c a)
  step-good (strike c a) = unless-good (first_no (client_questions s c a)) _ (strike-good c a)
  step-good (count_in low high) = unless-good (first_no (bounds_questions (grid_size s) s.top low high)) _ (λ e. g)
  step-good (terminal_enter c a) = terminal-step-has s l c a _ (λ t. Good s t.next) (unless-good (first_no (client_questions s c a)) _ (enter-good c a)) g

-- the set after the calls
unfoldable pub afterwards : Shape → Entries → List Call → Entries
afterwards s l [] = l
afterwards s l (c ∷ calls) = afterwards s (step s l c).next calls

pub afterwards-good : (s : Shape) (calls : List Call) (l : Entries) → Good s l → Good s (afterwards s l calls)
unfolding afterwards
afterwards-good s [] l g = g
afterwards-good s (c ∷ calls) l g = afterwards-good s calls (step s l c).next (step-good s l g c)
