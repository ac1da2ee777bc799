-- A register reached by calls on an implementation that meets demand 3, and what one more call does to it.
--
--   Standing i s b   ==  b is the machine's bytes for a good set, from which i follows the machine
--   stands           ==  so it is after an open within the limits and lent calls
--   stands-shape, stands-holds, stands-count, stands-held  ==  what such bytes state
--   shown-length     ==  the machine's bytes are as many as the shape says
--   shown-shape, shown-holds, shown-blank  ==  they state the shape and the grids of the set, and the lines behind them are blank
--   counted-entries, counted-most  ==  a count that answers 0 is that of the entries in the bounds, and no count is more
--   never-answers    ==  a number that the machine does not answer is no step's
--   stands-call      ==  one more call answers and leaves what the machine does
--   own-call         ==  and what the calls of specs/Calls do
--   enter-has, terminal-has, strike-has  ==  what holds of each refusal and of each accepted case holds of a step
--   enter-asked, terminal-asked, strike-asked  ==  an accepted step's grid and client pass their questions
--   enter-raises, terminal-raises, strike-lowers  ==  an accepted enter makes this client's holding of the class one more, an accepted strike one fewer
use mathlib.Core.Path.{◌≡◌, refl, sym, ap, ◌∙◌}
use mathlib.Core.List.{List, [], ◌∷◌}
use mathlib.Core.Bool.{true, false, true≢false, not, ◌&&◌}
use Prim.Native.Nat.{ℕ, zero, suc, ◌+◌, ◌≤◌, ◌<◌}
use native.Mathlib.Omega.{arith}
use lib.ListN.{length}
use lib.Dec.{eqb}
use borrow.Author.Tests.{eq-eqb}
use Rattle.permutations.specs.Lists.{every, All}
use Rattle.permutations.proofs.BoolLaws.{and_yes, yes_and}
use Rattle.grids.specs.Lent.{Bytes}
use Rattle.grids.specs.Grids.{one_class}
use Rattle.grids.specs.Questions.{first_no}
use Rattle.grids.proofs.OrderLaws.{eq-equal}
use Rattle.layout.specs.Layout.{Shape, Register, grids_of, grid_size, blank_line, layout_length, count, decode_shape, decode, InLimits}
use Rattle.layout.specs.Lines.{line_at}
use Rattle.layout.proofs.LayoutLaws.{length-layout}
use Rattle.layout.proofs.LineLaws.{laid-lines}
use Rattle.layout.proofs.RegisterLaws.{register-sized}
use Rattle.calls.specs.Entries.{least_in, holds, held_by, place_in, client_questions}
use Rattle.calls.specs.Calls.{placed, answered, count_questions, entries_in, count_register, counted, accepted}
use Rattle.calls.proofs.EntryLaws.{Entries}
use Rattle.calls.proofs.AskedLaws.{client-pass}
use Rattle.machine.specs.CallLists.{Call, enter, strike, terminal_enter, Implementation, register_calls, LentCall, called, left}
use Rattle.machine.specs.Machine.{shown, Step, step_unless, entering, striking, enter_class, strike_class, step, outcome, outcomes}
use Rattle.machine.specs.Demand3.{enters_class, strikes_class, Demand3}
use Rattle.machine.specs.Holdings.{held_in}
use Rattle.machine.proofs.SetLaws.{holds-sorted}
use Rattle.machine.proofs.MachineLaws.{Good, empty-good, register_of, good-register, reads, laid, terminal-step-has, enter-cases, strike-cases, afterwards, afterwards-good}
use Rattle.machine.proofs.LiveLaws.{class-equal, client-refused, held-step}
use Rattle.machine.proofs.Demand3Laws.{call_same, machine_numbers, never, shown-count, shown-held}
use Rattle.machine.proofs.FollowLaws.{Follows, follows-open, follows-call, follows-list, left-follows}

pub shown-length : (s : Shape) (l : Entries) → Good s l → length (shown s l) ≡ layout_length s
unfolding shown register_of
shown-length s l g = let o = good-register s l g in length-layout (register_of s l) (register-sized (register_of s l) o) o.count_fits

module _ (s : Shape) (l : Entries) (g : Good s l) where
  pub shown-shape : decode_shape (shown s l) ≡ s
  unfolding register_of decode
  shown-shape = ap (λ (x : Register). x.shape) (reads s l g)

  pub shown-holds : (x : List ℕ) → holds x (grids_of (decode (shown s l)).entries) ≡ holds x (grids_of l)
  unfolding register_of
  shown-holds x = ap (λ (y : Register). holds x (grids_of y.entries)) (reads s l g) ∙ holds-sorted x l

  pub shown-blank : (e : ℕ) → length l ≤ e → e < s.capacity → line_at (grid_size s) (shown s l) e ≡ blank_line (grid_size s)
  shown-blank e low high = rw shown-shape at (((laid-lines (shown s l)).0 (laid s l g)).2.lines e (omega (arith, low, shown-count s l g)) (rw shown-shape high))

counted-case : (P : ℕ → ℕ → Type 0) (k : ℕ) (b : List ℕ) (n : ℕ) → ((j : ℕ) → P (suc j) 0) → P 0 n → P (answered k b (placed 0 n b)).number (answered k b (placed 0 n b)).place
unfolding answered
counted-case P zero b n refused sent = sent
counted-case P (suc k) b n refused sent = refused k

module _ (b low high : List ℕ) where
  pub counted-entries : (counted b low high).number ≡ 0 → (counted b low high).place ≡ entries_in (decode b) low high
  unfolding counted count_register
  counted-entries =
      counted-case (λ k p. k ≡ 0 → p ≡ entries_in (decode b) low high) (first_no (count_questions b (decode b) low high)) b (entries_in (decode b) low high) (λ j e. absurd (omega arith)) (λ e. refl)

  pub counted-most : (counted b low high).place ≤ entries_in (decode b) low high
  unfolding counted count_register
  counted-most = counted-case (λ k p. p ≤ entries_in (decode b) low high) (first_no (count_questions b (decode b) low high)) b (entries_in (decode b) low high) (λ j. omega arith) (omega arith)

pub never-answers : (n : ℕ) → every (λ k. not (eqb k n)) machine_numbers ≡ true → (s : Shape) (l : Entries) (c : Call) → (step s l c).number ≡ n → ⊥
unfolding every outcomes outcome
never-answers n h s l c e =
    let t = (and_yes (not (eqb (step s l c).number n)) true (never n h s (c ∷ []) l)).0 in
    true≢false (sym t ∙ ap not (eq-eqb (step s l c).number n e))

pub record Standing (i : Implementation) (s : Shape) (b : List ℕ) : Type 0 where
  pub set : Entries
  pub bytes : b ≡ shown s set
  pub good : Good s set
  pub follows : Follows i s set

pub stands : (i : Implementation) → Demand3 i → (s : Shape) (slice : List ℕ) → InLimits s → Bytes slice → (i.opens s slice).number ≡ 0 → (calls : List Call) → All LentCall calls →
    Standing i s (left i (i.opens s slice).bytes calls)
stands i d s slice h z o calls lent = record {
  set = afterwards s [] calls;
  bytes = ap (λ (b : List ℕ). left i b calls) (d.follows s slice h z o [] tt).starts ∙ left-follows i s calls [] (follows-open i d s h) lent;
  good = afterwards-good s calls [] (empty-good s h);
  follows = follows-list i s calls [] lent (follows-open i d s h);
}

module _ (i : Implementation) (s : Shape) (b : List ℕ) (t : Standing i s b) where
  abbrev l : Entries
  l = t.set

  pub stands-shape : decode_shape b ≡ s
  stands-shape = ap decode_shape t.bytes ∙ shown-shape s l t.good

  pub stands-holds : (x : List ℕ) → holds x (grids_of (decode b).entries) ≡ holds x (grids_of l)
  stands-holds x = ap (λ (y : List ℕ). holds x (grids_of (decode y).entries)) t.bytes ∙ shown-holds s l t.good x

  pub stands-count : count b ≡ length l
  stands-count = ap count t.bytes ∙ shown-count s l t.good

  pub stands-held : (k : ℕ) (r : List ℕ) → held_in b k r ≡ held_by k r l
  unfolding held_in
  stands-held k r = ap (λ (x : List ℕ). held_by k r (decode x).entries) t.bytes ∙ shown-held s l t.good k r

  pub stands-call : (c : Call) → LentCall c → called i b c ≡ outcome s (step s l c)
  stands-call c lent = ap (λ (x : List ℕ). called i x c) t.bytes ∙ follows-call i s l t.follows c lent

  pub own-call : (c : Call) → LentCall c → called i b c ≡ called register_calls b c
  own-call c lent = stands-call c lent ∙ sym (call_same s l t.good c) ∙ ap (λ (x : List ℕ). called register_calls x c) (sym t.bytes)

-- ---- one step

module _ (s : Shape) (l : Entries) (c : ℕ) (a : List ℕ) where
  abbrev r : List ℕ
  r = least_in s a

  abbrev no : ℕ → Step
  no k = record { number = suc k; place = 0; next = l }

  unless : (P : Step → Type 0) (k : ℕ) (t : Step) → ((k : ℕ) → P (no k)) → P t → P (step_unless k l t)
  unfolding step_unless
  unless P zero t h p = p
  unless P (suc k) t h p = h k

  pub enter-has : (P : Step → Type 0) → ((k : ℕ) → P (no k)) →
      (holds r (grids_of l) ≡ true → P (record { number = 101; place = place_in (grids_of l) r; next = entering l c r })) →
      (holds r (grids_of l) ≡ false → P (record { number = 0; place = place_in (grids_of l) r; next = entering l c r })) →
      P (step s l (enter c a))
  unfolding step
  enter-has P h held new = unless P (first_no (client_questions s c a)) _ h (enter-cases P s l c r (λ e m. held e) (h 15) (λ e f. new e) (h 8))

  pub terminal-has : (P : Step → Type 0) → ((k : ℕ) → P (no k)) →
      (holds r (grids_of l) ≡ true → P (record { number = 101; place = place_in (grids_of l) r; next = entering l c r })) →
      (holds r (grids_of l) ≡ false → P (record { number = 0; place = place_in (grids_of l) r; next = entering l c r })) →
      P (step s l (terminal_enter c a))
  unfolding step
  terminal-has P h held new = terminal-step-has s l c a (enter_class s l c r) P (enter-has P h held new) (h 13)

  pub strike-has : (P : Step → Type 0) → ((k : ℕ) → P (no k)) →
      (0 < held_by c r l → P (record { number = 0; place = place_in (grids_of l) r; next = striking l c r })) →
      P (step s l (strike c a))
  unfolding step
  strike-has P h held = unless P (first_no (client_questions s c a)) _ h (strike-cases P s l c r held (h 9))

  -- an accepted step passes the questions of the grid and the client
  unless-asked : (t : Step) → accepted (step_unless (first_no (client_questions s c a)) l t).number ≡ true → first_no (client_questions s c a) ≡ 0
  unfolding step_unless
  unless-asked t = go (first_no (client_questions s c a)) refl
    where
      go : (n : ℕ) → first_no (client_questions s c a) ≡ n → accepted (step_unless n l t).number ≡ true → n ≡ 0
      go zero e h = refl
      go (suc n) e h = absurd (true≢false (sym h ∙ client-refused s c a n e))

  pub enter-asked : accepted (step s l (enter c a)).number ≡ true → first_no (client_questions s c a) ≡ 0
  unfolding step
  enter-asked = unless-asked (enter_class s l c r)

  pub strike-asked : accepted (step s l (strike c a)).number ≡ true → first_no (client_questions s c a) ≡ 0
  unfolding step
  strike-asked = unless-asked (strike_class s l c r)

  pub terminal-asked : accepted (step s l (terminal_enter c a)).number ≡ true → first_no (client_questions s c a) ≡ 0
  unfolding step accepted
  terminal-asked = terminal-step-has s l c a (enter_class s l c r) (λ t. accepted t.number ≡ true → first_no (client_questions s c a) ≡ 0) (unless-asked (enter_class s l c r)) (λ e. absurd (true≢false (sym e)))

  module _ (g : Good s l) where
    -- a client's own call of a grid is of its class
    own-class : length a ≡ grid_size s → (eqb c c && one_class s.rows s.columns a a) ≡ true
    own-class z = yes_and (eqb c c) _ (eq-eqb c c refl) (class-equal s.rows s.columns a a z z ∙ eq-equal r r refl)

    pub enter-raises : accepted (step s l (enter c a)).number ≡ true → held_by c r (step s l (enter c a)).next ≡ held_by c r l + 1
    unfolding enters_class strikes_class
    enter-raises e =
        let q = (client-pass s c a).0 (enter-asked e) in
        let t = held-step s l g a q.0.sized c q.1 (enter c a) in
        omega (arith, rw (own-class q.0.sized, e) at t)

    pub terminal-raises : accepted (step s l (terminal_enter c a)).number ≡ true → held_by c r (step s l (terminal_enter c a)).next ≡ held_by c r l + 1
    unfolding enters_class strikes_class
    terminal-raises e =
        let q = (client-pass s c a).0 (terminal-asked e) in
        let t = held-step s l g a q.0.sized c q.1 (terminal_enter c a) in
        omega (arith, rw (own-class q.0.sized, e) at t)

    pub strike-lowers : accepted (step s l (strike c a)).number ≡ true → held_by c r (step s l (strike c a)).next + 1 ≡ held_by c r l
    unfolding enters_class strikes_class
    strike-lowers e =
        let q = (client-pass s c a).0 (strike-asked e) in
        let t = held-step s l g a q.0.sized c q.1 (strike c a) in
        omega (arith, rw (own-class q.0.sized, e) at t)
