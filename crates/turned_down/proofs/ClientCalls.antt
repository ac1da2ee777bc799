-- Enter, strike and a terminal's enter as three kinds of one call, so that a fault that they may have alike is turned down by one law.
--
--   CallProgram         ==  programs for a client's call of a grid
--   Kind                ==  a client's call: when it is lent, whom it names, an implementation with just a program for it, and what an accepted one does
--   EnterKind k         ==  what enters have besides: an accepted one makes this client's holding one more, a refused one changes nothing, one that answers 0 is new
--   entering, striking, at-terminal  ==  the three kinds
--   enters, enters-at-terminal  ==  the two that enter
--   enter-lent, strike-lent, terminal-lent, enter-whom, strike-whom, terminal-whom, enter-makes, strike-makes, terminal-makes  ==  of each, when it is lent, whom it
--                           names, and that an implementation with just a program for it answers by that program
--   lent-client, literal-client  ==  a call of words and bytes, and of literals
--   Seen, seen          ==  what one more call on a register reached by calls does, where demand 3 is met: the set, the step, and the holdings before and after
--   seen-new, seen-raised  ==  there an enter that answers 0 is new, and makes this client's holding one more
--   unmoved, unstored   ==  there an accepted call changes this client's holding of the class, and so the bytes
--   taken_in, turned-away  ==  and one whose questions get a yes is accepted, so that it is not refused
use mathlib.Core.Path.{◌≡◌, refl, sym, ap, ◌∙◌}
use mathlib.Core.List.{List}
use mathlib.Core.Bool.{true, false, true≢false, ◌&&◌}
use Prim.Native.Nat.{ℕ, ◌+◌}
use native.Mathlib.Omega.{arith}
use lib.ListN.{length}
use lib.Dec.{ltb, eqb}
use borrow.Author.Tests.{ltb-true}
use Rattle.permutations.proofs.BoolLaws.{and_yes}
use Rattle.grids.specs.Lent.{Bytes, IsWord}
use Rattle.grids.specs.Questions.{first_no}
use Rattle.grids.proofs.LentLaws.{small_word, is_slice, tested-bytes}
use Rattle.layout.specs.Layout.{Shape, grids_of, count, decode_shape, decode}
use Rattle.calls.specs.Entries.{least_in, holds, held_by}
use Rattle.calls.specs.Calls.{Outcome, placed, accepted}
use Rattle.calls.proofs.EntryLaws.{Entries}
use Rattle.machine.specs.CallLists.{Call, enter, strike, terminal_enter, Implementation, register_calls, LentCall, called, questions_of}
use Rattle.machine.specs.Machine.{shown, Step, step, outcome}
use Rattle.machine.specs.Demand3.{Demand3}
use Rattle.machine.specs.Holdings.{names, held_in}
use Rattle.machine.proofs.MachineLaws.{Good, step-good}
use Rattle.machine.proofs.Demand1Laws.{accepted-asked}
use Rattle.machine.proofs.Demand3Laws.{shown-held}
use Rattle.machine.proofs.ReachedLaws.{stands-shape, stands-count, stands-holds, stands-held, stands-call, own-call, enter-has, terminal-has, enter-raises, terminal-raises, strike-lowers}
use Rattle.machine.proofs.NewEntryLaws.{New, enter-new, terminal-new}
use Rattle.turned_down.specs.RegisterFaults.{Reached, ClientReached, answer_at, class_on}
use Rattle.turned_down.specs.HoldingFaults.{ClientLent}
use Rattle.turned_down.proofs.RegisterCases.{striking-by, entering-at-terminal, standing}
use Rattle.turned_down.proofs.RegisterCases as cases

abbrev pub CallProgram : Type 0
CallProgram = (b : List ℕ) (c : ℕ) (g : List ℕ) → Outcome

pub record Kind : Type 0 where
  pub call : ℕ → List ℕ → Call
  pub lent : (c : ℕ) (g : List ℕ) → IsWord c → Bytes g → LentCall (call c g)
  pub whom : (j c : ℕ) (g : List ℕ) → names j (call c g) ≡ eqb c j
  pub make : CallProgram → Implementation
  pub takes : (f : CallProgram) (s : Shape) (b : List ℕ) → (make f).opens s b ≡ placed 0 0 b
  pub makes : (f : CallProgram) (b : List ℕ) (c : ℕ) (g : List ℕ) → called (make f) b (call c g) ≡ f b c g
  pub moves : (s : Shape) (l : Entries) → Good s l → (c : ℕ) (a : List ℕ) → accepted (step s l (call c a)).number ≡ true →
      held_by c (least_in s a) (step s l (call c a)).next ≡ held_by c (least_in s a) l → ⊥

pub record EnterKind (k : Kind) : Type 0 where
  pub raises : (s : Shape) (l : Entries) → Good s l → (c : ℕ) (a : List ℕ) → accepted (step s l (k.call c a)).number ≡ true →
      held_by c (least_in s a) (step s l (k.call c a)).next ≡ held_by c (least_in s a) l + 1
  pub keeps : (s : Shape) (l : Entries) (c : ℕ) (a : List ℕ) → accepted (step s l (k.call c a)).number ≡ false → (step s l (k.call c a)).next ≡ l
  pub new : (s : Shape) (l : Entries) (c : ℕ) (a : List ℕ) → (step s l (k.call c a)).number ≡ 0 → New s l c a (step s l (k.call c a))

-- ---- the three kinds

pub enter-lent : (c : ℕ) (g : List ℕ) → IsWord c → Bytes g → LentCall (enter c g)
unfolding LentCall
enter-lent c g w b = (w, b)

pub strike-lent : (c : ℕ) (g : List ℕ) → IsWord c → Bytes g → LentCall (strike c g)
unfolding LentCall
strike-lent c g w b = (w, b)

pub terminal-lent : (c : ℕ) (g : List ℕ) → IsWord c → Bytes g → LentCall (terminal_enter c g)
unfolding LentCall
terminal-lent c g w b = (w, b)

pub enter-whom : (j c : ℕ) (g : List ℕ) → names j (enter c g) ≡ eqb c j
unfolding names
enter-whom j c g = refl

pub strike-whom : (j c : ℕ) (g : List ℕ) → names j (strike c g) ≡ eqb c j
unfolding names
strike-whom j c g = refl

pub terminal-whom : (j c : ℕ) (g : List ℕ) → names j (terminal_enter c g) ≡ eqb c j
unfolding names
terminal-whom j c g = refl

pub enter-makes : (f : CallProgram) (b : List ℕ) (c : ℕ) (g : List ℕ) → called (cases.entering f) b (enter c g) ≡ f b c g
unfolding called
enter-makes f b c g = refl

pub strike-makes : (f : CallProgram) (b : List ℕ) (c : ℕ) (g : List ℕ) → called (striking-by f) b (strike c g) ≡ f b c g
unfolding called
strike-makes f b c g = refl

pub terminal-makes : (f : CallProgram) (b : List ℕ) (c : ℕ) (g : List ℕ) → called (entering-at-terminal f) b (terminal_enter c g) ≡ f b c g
unfolding called
terminal-makes f b c g = refl

abbrev pub entering : Kind
entering = record {
  call = enter;
  lent = enter-lent;
  whom = enter-whom;
  make = cases.entering;
  takes = λ f s b. refl;
  makes = enter-makes;
  moves = λ s l g c a e z. omega (arith, z, enter-raises s l c a g e);
}

abbrev pub striking : Kind
striking = record {
  call = strike;
  lent = strike-lent;
  whom = strike-whom;
  make = striking-by;
  takes = λ f s b. refl;
  makes = strike-makes;
  moves = λ s l g c a e z. omega (arith, z, strike-lowers s l c a g e);
}

abbrev pub at-terminal : Kind
at-terminal = record {
  call = terminal_enter;
  lent = terminal-lent;
  whom = terminal-whom;
  make = entering-at-terminal;
  takes = λ f s b. refl;
  makes = terminal-makes;
  moves = λ s l g c a e z. omega (arith, z, terminal-raises s l c a g e);
}

pub enters : EnterKind entering
unfolding accepted
enters = record {
  raises = λ s l g c a e. enter-raises s l c a g e;
  keeps = λ s l c a. enter-has s l c a (λ t. accepted t.number ≡ false → t.next ≡ l) (λ k e. refl) (λ h e. absurd (true≢false e)) (λ h e. absurd (true≢false e));
  new = enter-new;
}

pub enters-at-terminal : EnterKind at-terminal
unfolding accepted
enters-at-terminal = record {
  raises = λ s l g c a e. terminal-raises s l c a g e;
  keeps = λ s l c a. terminal-has s l c a (λ t. accepted t.number ≡ false → t.next ≡ l) (λ k e. refl) (λ h e. absurd (true≢false e)) (λ h e. absurd (true≢false e));
  new = terminal-new;
}

-- ---- calls that are lent

pub lent-client : (k : Kind) (on : ClientLent) → LentCall (k.call on.client on.grid)
lent-client k on = k.lent on.client on.grid on.client-word on.grid-bytes

abbrev pub literal-client : (b : List ℕ) → is_slice b ≡ true → (c : ℕ) (g : List ℕ) → (ltb c 10000000 && is_slice g) ≡ true → ClientLent
literal-client b small c g e = record {
  register = b;
  client = c;
  grid = g;
  register-bytes = tested-bytes b small;
  client-word = small_word c (ltb-true c 10000000 (and_yes (ltb c 10000000) (is_slice g) e).0);
  grid-bytes = tested-bytes g (and_yes (ltb c 10000000) (is_slice g) e).1;
}

-- ---- one more call on a register reached by calls

pub record Seen (k : Kind) (i : Implementation) (on : ClientReached i) : Type 0 where
  pub set : Entries
  pub good : Good on.from.shape set
  pub shape_is : decode_shape on.from.register ≡ on.from.shape
  pub counts : count on.from.register ≡ length set
  pub holds-before : (x : List ℕ) → holds x (grids_of (decode on.from.register).entries) ≡ holds x (grids_of set)
  pub class-is : class_on on.from.register on.grid ≡ least_in on.from.shape on.grid
  pub after : Step
  pub after_is : after ≡ step on.from.shape set (k.call on.client on.grid)
  pub after-good : Good on.from.shape after.next
  pub own : answer_at i k.call on ≡ called register_calls on.from.register (k.call on.client on.grid)
  pub number_is : (answer_at i k.call on).number ≡ after.number
  pub place_is : (answer_at i k.call on).place ≡ after.place
  pub bytes-are : (answer_at i k.call on).bytes ≡ shown on.from.shape after.next
  pub held-before : (j : ℕ) → held_in on.from.register j (class_on on.from.register on.grid) ≡ held_by j (least_in on.from.shape on.grid) set
  pub held_after : (j : ℕ) → held_in (answer_at i k.call on).bytes j (class_on on.from.register on.grid) ≡ held_by j (least_in on.from.shape on.grid) after.next

pub seen : (k : Kind) (i : Implementation) → Demand3 i → (on : ClientReached i) → Seen k i on
unfolding held_in outcome
seen k i d on =
    let s = on.from.shape in
    let b = on.from.register in
    let t = standing i d on.from in
    let call = k.call on.client on.grid in
    let lent = k.lent on.client on.grid on.client-word on.grid-bytes in
    let e = stands-call i s b t call lent in
    let class = ap (λ (x : Shape). least_in x on.grid) (stands-shape i s b t) in
    let next = (step s t.set call).next in record {
      set = t.set;
      good = t.good;
      shape_is = stands-shape i s b t;
      counts = stands-count i s b t;
      holds-before = stands-holds i s b t;
      class-is = class;
      after = step s t.set call;
      after_is = refl;
      after-good = step-good s t.set t.good call;
      own = own-call i s b t call lent;
      number_is = ap (λ (o : Outcome). o.number) e;
      place_is = ap (λ (o : Outcome). o.place) e;
      bytes-are = ap (λ (o : Outcome). o.bytes) e;
      held-before = λ j. ap (held_in b j) class ∙ stands-held i s b t j (least_in s on.grid);
      held_after = λ j.
          ap (λ (o : Outcome). held_in o.bytes j (class_on b on.grid)) e ∙ ap (held_in (shown s next) j) class
          ∙ shown-held s next (step-good s t.set t.good call) j (least_in s on.grid);
    }

pub taken_in : (i : Implementation) → Demand3 i → (r : Reached i) (c : Call) → LentCall c → first_no (questions_of r.register c) ≡ 0 → accepted (called i r.register c).number ≡ true
taken_in i d r c lent e =
    ap (λ (o : Outcome). accepted o.number) (own-call i r.shape r.register (standing i d r) c lent) ∙ accepted-asked r.register c ∙ ap (λ (n : ℕ). eqb n 0) e

module _ (k : Kind) (i : Implementation) (d : Demand3 i) (on : ClientReached i) where
  pub unmoved : accepted (answer_at i k.call on).number ≡ true → held_in (answer_at i k.call on).bytes on.client (class_on on.from.register on.grid) ≡ held_in on.from.register on.client (class_on on.from.register on.grid) → ⊥
  unmoved e z =
      let w = seen k i d on in
      let q = w.after_is in
      k.moves on.from.shape w.set w.good on.client on.grid (rw (sym q) (sym (ap accepted w.number_is) ∙ e))
      (rw (sym q) (sym (w.held_after on.client) ∙ z ∙ w.held-before on.client))

  module _ (e : EnterKind k) (z : (answer_at i k.call on).number ≡ 0) where
    pub seen-new : New on.from.shape (seen k i d on).set on.client on.grid (seen k i d on).after
    seen-new =
        let w = seen k i d on in
        let q = w.after_is in
        rw q (e.new on.from.shape w.set on.client on.grid (rw (sym q) (sym w.number_is ∙ z)))

    pub seen-raised : held_by on.client (least_in on.from.shape on.grid) (seen k i d on).after.next ≡ held_by on.client (least_in on.from.shape on.grid) (seen k i d on).set + 1
    unfolding accepted
    seen-raised =
        let w = seen k i d on in
        let q = w.after_is in
        rw q (e.raises on.from.shape w.set w.good on.client on.grid (rw (sym q) (ap accepted (sym w.number_is ∙ z))))

  pub unstored : accepted (answer_at i k.call on).number ≡ true → (answer_at i k.call on).bytes ≡ on.from.register → ⊥
  unstored e z = unmoved e (ap (λ (b : List ℕ). held_in b on.client (class_on on.from.register on.grid)) z)

  pub turned-away : first_no (questions_of on.from.register (k.call on.client on.grid)) ≡ 0 → (n : ℕ) → (answer_at i k.call on).number ≡ n → accepted n ≡ false → ⊥
  turned-away e n z h = true≢false (sym (taken_in i d on.from _ (k.lent on.client on.grid on.client-word on.grid-bytes) e) ∙ ap accepted z ∙ h)
