-- What a client holds, by the calls and their numbers alone, is what the machine's set says; so the live classes are those of the set.
--
--   class-equal      ==  the test of one class compares the least grids
--   client-refused, bounds-refused  ==  a refusal's number is not accepted
--   held-step        ==  what a client holds of a class after a call: one more by its accepted enter, one fewer by its accepted strike
--   held-list        ==  the same after a list of calls
--   held-machine     ==  so what an implementation's calls say, where it answers what the machine does, is what the set says
--   held-positive    ==  some client holds a class exactly where the set has it
--   live-machine     ==  so the live classes are those of the set
--   lists-held       ==  a good set lists the least grids of the classes that it holds, each once
use mathlib.Core.Path.{◌≡◌, refl, sym, ap, ap₂, ◌∙◌}
use mathlib.Core.List.{List, [], ◌∷◌}
use mathlib.Core.Bool.{Bool, true, false, ◌&&◌}
use Prim.Native.Nat.{ℕ, zero, suc, ◌+◌, ◌-◌, ◌*◌, ◌≤◌, ◌<◌}
use native.Mathlib.Omega.{arith}
use lib.ListN.{length, get_or}
use lib.Dec.{ltb, eqb}
use borrow.Author.Tests.{ltb-true, lt-ltb}
use Rattle.permutations.specs.Lists.{tabulate, some}
use Rattle.permutations.proofs.BoolLaws.{bool-ext}
use Rattle.permutations.proofs.ListLaws.{some_at, at_some, in-tabulate, of-tabulate}
use Rattle.grids.specs.Order.{equal}
use Rattle.grids.specs.Grids.{one_class}
use Rattle.grids.specs.Least.{least}
use Rattle.grids.specs.Questions.{first_no, question6, question7}
use Rattle.grids.proofs.OrderLaws.{equal-eq, eq-equal}
use Rattle.grids.proofs.GridLaws.{class-passes, passes-class}
use Rattle.grids.proofs.LeastLaws.{class-least, least-class}
use Rattle.bounds.specs.Prune.{bounds_questions, question8}
use Rattle.layout.specs.Layout.{Shape, clients, grids_of, grid_size, holding}
use Rattle.calls.specs.Entries.{grid_questions, client_questions, question15, least_in, more, fewer, holds, holdings_in, held_by}
use Rattle.calls.specs.Calls.{accepted}
use Rattle.machine.specs.CallLists.{Call, enter, strike, count_in, terminal_enter, Implementation, run}
use Rattle.machine.specs.Machine.{Step, step_unless, enter_class, strike_class, count_classes, entering, striking, step, outcome, outcomes}
use Rattle.machine.specs.Demand3.{enters_class, strikes_class, accepted_of, enters_of, strikes_of, live, ListsLive}
use Rattle.calls.proofs.EntryLaws.{Entries, holds-in, in-holds, of-grids}
use Rattle.calls.proofs.AskedLaws.{client-pass}
use Rattle.calls.proofs.RefusalLaws.{refused-number}
use Rattle.layout.proofs.HoldingLaws.{length-changed}
use Rattle.calls.proofs.HoldingLaws.{held-member, held-here, none-by, one, more-held, fewer-held}
use Rattle.machine.proofs.SetLaws.{put-becomes}
use Rattle.machine.proofs.MachineLaws.{Good, grids-good, enter-cases, strike-cases, set-fit, step-good, terminal-step-has, afterwards, afterwards-good}

pub class-equal : (m n : ℕ) (a b : List ℕ) → length a ≡ m * n → length b ≡ m * n → one_class m n a b ≡ equal (least m n a) (least m n b)
class-equal m n a b e f =
    bool-ext (one_class m n a b) (equal (least m n a) (least m n b))
    (λ t. eq-equal (least m n a) (least m n b) (class-least m n a b e (passes-class m n a b t)))
    (λ t. class-passes m n a b (least-class m n a b e f (equal-eq (least m n a) (least m n b) t)))

-- ---- a refusal's number is neither 0 nor 101

pub client-refused : (s : Shape) (c : ℕ) (g : List ℕ) (k : ℕ) → first_no (client_questions s c g) ≡ suc k → accepted (suc k) ≡ false
unfolding client_questions grid_questions question6 question7 question15 accepted
client-refused s c g = refused-number (client_questions s c g) (refl, (refl, (refl, tt)))

pub bounds-refused : (size top : ℕ) (low high : List ℕ) (k : ℕ) → first_no (bounds_questions size top low high) ≡ suc k → accepted (suc k) ≡ false
unfolding bounds_questions question6 question7 question8 accepted
bounds-refused size top low high = refused-number (bounds_questions size top low high) (refl, (refl, (refl, tt)))

-- ---- one call of the machine

-- what client k holds of the class r: raised where the call enters, lowered where it strikes, if its number is accepted
abbrev Tallied : Entries → ℕ → List ℕ → Bool → Bool → Step → Type 0
Tallied l k r strikes enters t = held_by k r t.next + one (strikes && accepted t.number) ≡ held_by k r l + one (enters && accepted t.number)

-- a step that changes nothing and is not accepted, or neither enters nor strikes
refused-tally : (l : Entries) (k : ℕ) (r : List ℕ) (x y : Bool) (n : ℕ) → accepted n ≡ false → held_by k r l + one (x && accepted n) ≡ held_by k r l + one (y && accepted n)
refused-tally l k r x y n e = ap (λ (j : ℕ). held_by k r l + j) (none x ∙ sym (none y))
  where
    none : (x : Bool) → one (x && accepted n) ≡ 0
    none true = rw e
    none false = refl

and-true : (x : Bool) → (x && true) ≡ x
and-true true = refl
and-true false = refl

module _ (s : Shape) (l : Entries) (g : Good s l) (k : ℕ) (first : 1 ≤ k) (a : List ℕ) where
  module _ (c : ℕ) (low : 1 ≤ c) (high : c ≤ clients) (r : List ℕ) where
    entering-tally : held_by k a (entering l c r) ≡ held_by k a l + one (eqb c k && equal r a)
    unfolding more
    entering-tally = more-held l (entering l c r) r c low high (set-fit s l g r).sized a k first (put-becomes r (more c (holdings_in r l)) l (length-changed c _ (holdings_in r l) ∙ (set-fit s l g r).sized))

    striking-tally : 0 < held_by c r l → held_by k a (striking l c r) + one (eqb c k && equal r a) ≡ held_by k a l
    unfolding fewer
    striking-tally p = fewer-held l (striking l c r) r c low high (set-fit s l g r).sized a k first p (put-becomes r (fewer c (holdings_in r l)) l (length-changed c _ (holdings_in r l) ∙ (set-fit s l g r).sized))

    enter-tally : Tallied l k a false (eqb c k && equal r a) (enter_class s l c r)
    unfolding accepted
    enter-tally =
        enter-cases (Tallied l k a false (eqb c k && equal r a)) s l c r
        (λ h m. done)
        (refused-tally l k a false (eqb c k && equal r a) 16 refl)
        (λ h f. done)
        (refused-tally l k a false (eqb c k && equal r a) 9 refl)
      where
        done : held_by k a (entering l c r) + 0 ≡ held_by k a l + one ((eqb c k && equal r a) && true)
        done = rw (and-true (eqb c k && equal r a)) (omega (arith, entering-tally))

    strike-tally : Tallied l k a (eqb c k && equal r a) false (strike_class s l c r)
    unfolding accepted
    strike-tally =
        strike-cases (Tallied l k a (eqb c k && equal r a) false) s l c r
        (λ h. rw (and-true (eqb c k && equal r a)) (omega (arith, striking-tally h)))
        (refused-tally l k a (eqb c k && equal r a) false 10 refl)

module _ (s : Shape) (l : Entries) (g : Good s l) (a : List ℕ) (z : length a ≡ grid_size s) (k : ℕ) (first : 1 ≤ k) where
  -- client c's call of the grid q, of which `t` is what comes after its questions, where x and y say whether a call of the class strikes and enters
  tally-client : (c : ℕ) (q : List ℕ) (x y : Bool → Bool) (t : Step) →
      ((1 ≤ c) → (c ≤ clients) → Tallied l k (least_in s a) (x (eqb c k && equal (least_in s q) (least_in s a))) (y (eqb c k && equal (least_in s q) (least_in s a))) t) →
      Tallied l k (least_in s a) (x (eqb c k && one_class s.rows s.columns q a)) (y (eqb c k && one_class s.rows s.columns q a)) (step_unless (first_no (client_questions s c q)) l t)
  unfolding step_unless
  tally-client c q x y t h = go (first_no (client_questions s c q)) refl
    where
      go : (n : ℕ) → first_no (client_questions s c q) ≡ n → Tallied l k (least_in s a) (x (eqb c k && one_class s.rows s.columns q a)) (y (eqb c k && one_class s.rows s.columns q a)) (step_unless n l t)
      go zero e = let p = (client-pass s c q).0 e in rw (class-equal s.rows s.columns q a p.0.sized z) (h p.1 p.2)
      go (suc n) e = refused-tally l k (least_in s a) (x (eqb c k && one_class s.rows s.columns q a)) (y (eqb c k && one_class s.rows s.columns q a)) (suc n) (client-refused s c q n e)

  tally-enter : (c : ℕ) (q : List ℕ) → Tallied l k (least_in s a) false (eqb c k && one_class s.rows s.columns q a) (step_unless (first_no (client_questions s c q)) l (enter_class s l c (least_in s q)))
  tally-enter c q = tally-client c q (λ t. false) (λ t. t) (enter_class s l c (least_in s q)) (λ low high. enter-tally s l g k first (least_in s a) c low high (least_in s q))

  count-tally : (n : ℕ) (low high : List ℕ) → Tallied l k (least_in s a) false false (step_unless n l (count_classes s l low high))
  unfolding step_unless count_classes
  count-tally zero low high = refl
  count-tally (suc n) low high = refl

  pub held-step : (c : Call) → Tallied l k (least_in s a) (strikes_class s.rows s.columns a k c) (enters_class s.rows s.columns a k c) (step s l c)
  unfolding step enters_class strikes_class accepted
  held-step (enter c q) = tally-enter c q
  held-step (strike c q) = tally-client c q (λ t. t) (λ t. false) (strike_class s l c (least_in s q)) (λ low high. strike-tally s l g k first (least_in s a) c low high (least_in s q))
  held-step (count_in low high) = count-tally (first_no (bounds_questions (grid_size s) s.top low high)) low high
  held-step (terminal_enter c q) =
      terminal-step-has s l c q (enter_class s l c (least_in s q)) (Tallied l k (least_in s a) false (eqb c k && one_class s.rows s.columns q a)) (tally-enter c q)
      (refused-tally l k (least_in s a) false (eqb c k && one_class s.rows s.columns q a) 14 refl)

-- ---- whole lists

-- one call more
accepted-next : (p : Call → Bool) (c : Call) (calls : List Call) (s : Shape) (l : Entries) →
    accepted_of p (c ∷ calls) (outcomes s l (c ∷ calls)) ≡ one (p c && accepted (step s l c).number) + accepted_of p calls (outcomes s (step s l c).next calls)
unfolding accepted_of outcomes outcome
accepted-next p c calls s l = go (p c && accepted (step s l c).number) refl
  where
    go : (t : Bool) → (p c && accepted (step s l c).number) ≡ t → accepted_of p (c ∷ calls) (outcomes s l (c ∷ calls)) ≡ one t + accepted_of p calls (outcomes s (step s l c).next calls)
    go true e = rw (e, accepted_of) (omega arith)
    go false e = rw (e, accepted_of) (omega arith)

module _ (s : Shape) (a : List ℕ) (z : length a ≡ grid_size s) (k : ℕ) (first : 1 ≤ k) where
  abbrev enters : List Call → Entries → ℕ
  enters calls l = accepted_of (enters_class s.rows s.columns a k) calls (outcomes s l calls)

  abbrev strikes : List Call → Entries → ℕ
  strikes calls l = accepted_of (strikes_class s.rows s.columns a k) calls (outcomes s l calls)

  pub held-list : (calls : List Call) (l : Entries) → Good s l → held_by k (least_in s a) (afterwards s l calls) + strikes calls l ≡ held_by k (least_in s a) l + enters calls l
  unfolding afterwards accepted_of
  held-list [] l g = refl
  held-list (c ∷ calls) l g =
      let ih = held-list calls (step s l c).next (step-good s l g c) in
      omega (arith, ih, held-step s l g a z k first c, accepted-next (strikes_class s.rows s.columns a k) c calls s l, accepted-next (enters_class s.rows s.columns a k) c calls s l)

-- where an implementation answers what the machine does, from the empty set on
module _ (i : Implementation) (s : Shape) (b : List ℕ) (calls : List Call) (e : run i b calls ≡ outcomes s [] calls) (g : Good s []) (a : List ℕ) (z : length a ≡ grid_size s) where
  pub held-machine : (k : ℕ) → 1 ≤ k → held_by k (least_in s a) (afterwards s [] calls) + strikes_of i s b calls k a ≡ enters_of i s b calls k a
  unfolding enters_of strikes_of holds some
  held-machine k first = rw e (omega (arith, held-list s a z k first calls [] g, none-by [] (least_in s a) k refl))

  -- some client holds the class exactly where the set has it
  held-positive : (l : Entries) → Good s l → holds (least_in s a) (grids_of l) ≡ true → (k : ℕ) × (k < clients) × (0 < held_by (1 + k) (least_in s a) l)
  unfolding held_by holding
  held-positive l o t =
      let p = of-grids l (least_in s a) (holds-in (least_in s a) (grids_of l) t) in
      let h = (o.held p.0 p.1).held in
      let d : 1 + h.0 - 1 ≡ h.0 = omega arith in
      let q = ap (λ (r : List ℕ). holdings_in r l) (sym p.2) ∙ held-member l o.once p.0 p.1 in
      (h.0, h.1, omega (arith, h.2, ap₂ (λ (x : List ℕ) (j : ℕ). get_or x j 0) q d))

  pub live-machine : live i s b calls a ≡ holds (least_in s a) (grids_of (afterwards s [] calls))
  unfolding live
  live-machine = bool-ext (live i s b calls a) (holds (least_in s a) (grids_of end)) to back
    where
      end : Entries
      end = afterwards s [] calls

      test : ℕ → Bool
      test k = ltb (strikes_of i s b calls k a) (enters_of i s b calls k a)

      to : live i s b calls a ≡ true → holds (least_in s a) (grids_of end) ≡ true
      to t =
          let w = some_at test (tabulate 1 clients (λ k. k)) t in
          let m = of-tabulate 1 clients (λ k. k) w.0 w.1 in
          held-here end (least_in s a) w.0 (omega (arith, ltb-true (strikes_of i s b calls w.0 a) (enters_of i s b calls w.0 a) w.2, held-machine w.0 (omega (arith, m.2))))

      back : holds (least_in s a) (grids_of end) ≡ true → live i s b calls a ≡ true
      back t =
          let h = held-positive end (afterwards-good s calls [] g) t in
          at_some test (tabulate 1 clients (λ k. k)) (1 + h.0) (in-tabulate 1 clients (λ k. k) h.0 h.1) (lt-ltb (strikes_of i s b calls (1 + h.0) a) (enters_of i s b calls (1 + h.0) a) (omega (arith, h.2, held-machine (1 + h.0) (omega arith))))

-- a good set lists the classes that it holds
pub lists-held : (s : Shape) (l : Entries) → Good s l → (live : List ℕ → Bool) → ((a : List ℕ) → length a ≡ grid_size s → live a ≡ holds (least_in s a) (grids_of l)) → ListsLive s.rows s.columns live (grids_of l)
lists-held s l g live same = record {
  exact = λ a z. (λ h. holds-in (least_in s a) (grids_of l) (sym (same a z) ∙ h), λ k. same a z ∙ in-holds (least_in s a) (grids_of l) k);
  leasts = λ r k. let p = grids-good s l g r k in (p.0.sized, p.1);
  once = g.once;
}
