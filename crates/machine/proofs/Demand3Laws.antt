-- Demand 3, proved of every implementation that meets the calls' contracts.
--
--   call_same            ==  each call on the machine's bytes answers and leaves what the machine does
--   run-same             ==  the same of whole lists
--   machine_numbers       ==  the numbers that the machine answers
--   never                ==  no other is ever answered: neither 5 nor 102 is
--   open-answers         ==  an open whose questions all get a yes answers 0
--   Plain i              ==  what carries the demand: opens, and whole lists answered as the machine answers them
--   after-start, plain-demand3  ==  the rest of demand 3 follows from it
--   meets-plain          ==  it is so of every implementation that meets the calls' contracts
--   opened-shown         ==  the bytes after an open that answered 0
--   shown-count          ==  the machine's bytes state the size of its set
--   shown-held           ==  and the set's holdings
--   run-among            ==  the outcomes of calls, of a call behind them, and of those that follow
--   count-there          ==  what a count of bounds answers behind calls
--   entry-moved          ==  a set in which every client holds as much of every class as in another has its entries
--   demand3              ==  the demand
use mathlib.Core.Path.{◌≡◌, refl, sym, ap, ap₂, subst, ◌∙◌}
use mathlib.Core.List.Memᴰ
use mathlib.Core.List.{List, [], ◌∷◌, ◌++◌, Memᴰ}
use mathlib.Core.Bool.{true, false, not}
use mathlib.Core.Logic.{◌↔◌}
use Prim.Native.Nat.{ℕ, zero, suc, ◌+◌, ◌-◌, ◌≤◌}
use native.Mathlib.Omega.{arith}
use lib.ListN.{length, get_or, length-map}
use lib.Dec.{eqb}
use borrow.Author.Tests.{not-true}
use Rattle.permutations.specs.Lists.{every, All}
use Rattle.grids.specs.Lent.{Bytes}
use Rattle.bounds.specs.Bounds.{IsBounds}
use Rattle.bounds.proofs.PruneLaws.{pruned-is-bounds, bounds-bytes}
use Rattle.permutations.proofs.ListLaws.{every-all}
use Rattle.calls.proofs.AskedLaws.{open-pass}
use Rattle.machine.proofs.CallListLaws.{limits-lent-shape, shown-bytes, meets-run}
use Rattle.layout.specs.Layout.{Shape, Entry, Register, clients, grids_of, grid_size, layout, layout_length, holding, count, decode, InLimits}
use Rattle.calls.specs.Entries.{least_in, holds, holdings_in, held_by}
use Rattle.calls.specs.Calls.{Outcome, placed, answered, opened, counted, accepted}
use Rattle.machine.specs.CallLists.{Call, enter, strike, count_in, terminal_enter, Implementation, register_calls, LentCall, Meets, called, run, left}
use Rattle.machine.specs.Machine.{sorted, shown, step, outcome, outcomes}
use Rattle.machine.specs.Demand3.{enters_of, strikes_of, holding_of, live, ListsLive, pruned_for, AfterOpen, Demand3}
use Rattle.layout.proofs.LayoutLaws.{count-layout}
use Rattle.layout.proofs.RegisterLaws.{register-printable}
use Rattle.calls.proofs.EntryLaws.{Entries, holds-in, of-grids, asc-ext}
use Rattle.machine.proofs.SetLaws.{in-sorted, of-sorted, sorted-asc, length-sorted, sorted-holdings}
use Rattle.layout.proofs.HoldingLaws.{holdings-ext}
use Rattle.calls.proofs.HoldingLaws.{held-member, held-here}
use Rattle.machine.proofs.MachineLaws.{Good, empty-good, register_of, good-register, reads, enter-same, strike-same, count_same, terminal-enter-same, set-fit, step-good, afterwards, afterwards-good}
use Rattle.machine.proofs.StepLaws.{Answerable, step-answers}
use Rattle.machine.proofs.LiveLaws.{held-machine, live-machine, lists-held}
use Rattle.machine.proofs.CountLaws.{inside, counted-bounds, counted-sent, counted-pruned}
use Rattle.machine.proofs.LiveLists.{lists-inside}
use Rattle.machine.proofs.FollowLaws.{Follows, follows-call, follows-list, left-follows}

-- ---- whole lists

pub call_same : (s : Shape) (l : Entries) → Good s l → (c : Call) → called register_calls (shown s l) c ≡ outcome s (step s l c)
unfolding called register_calls step
call_same s l g (enter c a) = enter-same s l g c a
call_same s l g (strike c a) = strike-same s l g c a
call_same s l g (count_in low high) = count_same s l g low high
call_same s l g (terminal_enter c a) = terminal-enter-same s l g c a

pub run-same : (s : Shape) (calls : List Call) (l : Entries) → Good s l → run register_calls (shown s l) calls ≡ outcomes s l calls
unfolding run outcomes outcome
run-same s [] l g = refl
run-same s (c ∷ calls) l g =
    ap (λ (o : Outcome). o ∷ run register_calls o.bytes calls) (call_same s l g c) ∙ ap (λ (x : List Outcome). outcome s (step s l c) ∷ x) (run-same s calls (step s l c).next (step-good s l g c))

-- ---- numbers that no call answers

abbrev pub machine_numbers : List ℕ
machine_numbers = 0 ∷ 6 ∷ 7 ∷ 8 ∷ 9 ∷ 10 ∷ 14 ∷ 15 ∷ 16 ∷ 101 ∷ []

other : (n : ℕ) → All (λ k. eqb k n ≡ false) machine_numbers → (l : Entries) → Answerable (λ k p. eqb k n ≡ false) l
other n (zero_is, (length-is, (cells_are, (order_is, (Full-is, (none_is, (rows_are, (client-is, (most-is, (held-is, u)))))))))) l = record {
  length-no = length-is;
  cells-no = cells_are;
  order-no = order_is;
  full = Full-is;
  not-held = none_is;
  rows-no = rows_are;
  client-no = client-is;
  most = most-is;
  done = λ r. zero_is;
  held = λ r. held-is;
  counted = λ t. zero_is;
}

pub never : (n : ℕ) → every (λ k. not (eqb k n)) machine_numbers ≡ true → (s : Shape) (calls : List Call) (l : Entries) → every (λ o. not (eqb o.number n)) (outcomes s l calls) ≡ true
unfolding outcomes outcome every
never n h s calls l = go (every-all (λ k. eqb k n ≡ false) (λ k. not (eqb k n)) (λ k t. not-true (eqb k n) t) machine_numbers h) calls l
  where
    go : All (λ k. eqb k n ≡ false) machine_numbers → (calls : List Call) (l : Entries) → every (λ o. not (eqb o.number n)) (outcomes s l calls) ≡ true
    go a [] l = refl
    go a (c ∷ calls) l = rw (step-answers (λ k p. eqb k n ≡ false) s l (other n a l) c) (go a calls (step s l c).next)

-- ---- after an open that answered 0

answered-zero : (k : ℕ) (b : List ℕ) (o : Outcome) → (answered k b o).number ≡ 0 → (k ≡ 0) × ((answered k b o).bytes ≡ o.bytes)
unfolding answered
answered-zero zero b o e = (refl, refl)
answered-zero (suc k) b o e = absurd (omega arith)

pub opened-shown : (s : Shape) (b : List ℕ) → (opened s b).number ≡ 0 → (opened s b).bytes ≡ shown s []
unfolding opened shown sorted
opened-shown s b e = (answered-zero _ b _ e).1

pub open-answers : (s : Shape) (b : List ℕ) → InLimits s → length b ≡ layout_length s → opened s b ≡ record { number = 0; place = 0; bytes = shown s [] }
unfolding opened answered shown sorted
open-answers s b l z = ap (λ (k : ℕ). answered k b (record { number = 0; place = 0; bytes = shown s [] })) ((open-pass s b).1 (l, z))

-- ---- the consequences, of a good set

pub shown-count : (s : Shape) (l : Entries) → Good s l → count (shown s l) ≡ length l
unfolding shown register_of
shown-count s l g = count-layout (register_of s l) (register-printable (register_of s l) (good-register s l g)) ∙ length-sorted l

-- ---- the demand

module _ (i : Implementation) (s : Shape) (f : Follows i s []) (g : Good s []) (b : List ℕ) (o : b ≡ shown s []) (calls : List Call) (lent : All LentCall calls) where
  abbrev end : Entries
  end = afterwards s [] calls

  end-good : Good s end
  end-good = afterwards-good s calls [] g

  end-run : run i b calls ≡ outcomes s [] calls
  end-run = ap (λ (x : List ℕ). run i x calls) o ∙ f calls lent

  pub end-bytes : left i b calls ≡ shown s end
  end-bytes = ap (λ (x : List ℕ). left i x calls) o ∙ left-follows i s calls [] f lent

  end_live : (a : List ℕ) → length a ≡ grid_size s → live i s b calls a ≡ holds (least_in s a) (grids_of end)
  end_live a z = live-machine i s b calls end-run g a z

  end-lists : ListsLive s.rows s.columns (live i s b calls) (grids_of end)
  end-lists = lists-held s end end-good (live i s b calls) end_live

  -- the set's holdings, by the calls and their answers
  end-held : (a : List ℕ) → length a ≡ grid_size s → (k : ℕ) → 1 ≤ k → held_by k (least_in s a) end + strikes_of i s b calls k a ≡ enters_of i s b calls k a
  end-held a z k first = held-machine i s b calls end-run g a z k first

  end-holding : (a : List ℕ) → length a ≡ grid_size s → (k : ℕ) → 1 ≤ k → held_by k (least_in s a) end ≡ holding_of i s b calls k a
  end-holding a z k first = omega (arith, end-held a z k first)

  -- a count after them
  end-count : (low high : List ℕ) → Bytes low → Bytes high → i.counts (left i b calls) low high ≡ counted (shown s end) low high
  unfolding called step LentCall
  end-count low high x y =
      ap (λ (l : List ℕ). i.counts l low high) end-bytes
      ∙ follows-call i s end (follows-list i s calls [] lent f) (count_in low high) (x, y)
      ∙ sym (count_same s end end-good low high)

-- what the machine's bytes state of a grid's holdings
pub shown-held : (s : Shape) (l : Entries) → Good s l → (k : ℕ) (r : List ℕ) → held_by k r (decode (shown s l)).entries ≡ held_by k r l
unfolding register_of held_by
shown-held s l g k r = ap (λ (x : Register). holding k (holdings_in r x.entries)) (reads s l g) ∙ ap (holding k) (sorted-holdings l g.once r)

-- ---- counts among other calls

pub run-among : (i : Implementation) (b : List ℕ) (before : List Call) (c : Call) (after : List Call) →
    run i b (before ++ (c ∷ after)) ≡ run i b before ++ (called i (left i b before) c ∷ run i (called i (left i b before) c).bytes after)
unfolding run left
run-among i b [] c after = refl
run-among i b (x ∷ before) c after = ap (λ (os : List Outcome). called i b x ∷ os) (run-among i (called i b x).bytes before c after)

lent-before : (before after : List Call) → All LentCall (before ++ after) → All LentCall before
lent-before [] after h = tt
lent-before (c ∷ before) after h = (h.0, lent-before before after h.1)

module _ (i : Implementation) (s : Shape) (f : Follows i s []) (g : Good s []) (b : List ℕ) (o : b ≡ shown s []) (before : List Call) (lent : All LentCall before) where
  -- a count of bounds after the calls before it
  count-there : (low high : List ℕ) → IsBounds (grid_size s) s.top low high → (there : List (List ℕ)) → ListsLive s.rows s.columns (live i s b before) there →
      called i (left i b before) (count_in low high) ≡ placed 0 (inside s there low high) (left i b before)
  unfolding called
  count-there low high x there y =
      let l : Entries = afterwards s [] before in
      let u = bounds-bytes s.rows s.columns s.top low high g.limits.grid-limits x in
      end-count i s f g b o before lent low high u.0 u.1
      ∙ counted-bounds s l (end-good i s f g b o before lent) low high x
      ∙ ap₂ (placed 0) (lists-inside s (live i s b before) (grids_of l) there (end-lists i s f g b o before lent) y low high) (sym (end-bytes i s f g b o before lent))

-- ---- equal bytes, equal holdings

-- a set in which every client holds as much of every class as in another has its entries
entry-moved : (s : Shape) (k l : Entries) → Good s k → Good s l → ((a : List ℕ) → length a ≡ grid_size s → (j : ℕ) → 1 ≤ j → j ≤ clients → held_by j (least_in s a) k ≡ held_by j (least_in s a) l) →
    (e : Entry) → Memᴰ e k → Memᴰ e l
unfolding held_by holding
entry-moved s k l g h f e m = Memᴰ.cast same p.1
  where
    r : List ℕ
    r = e.grid

    agree : (j : ℕ) → 1 ≤ j → j ≤ clients → holding j (holdings_in r k) ≡ holding j (holdings_in r l)
    agree j low high =
        ap (λ (x : List ℕ). holding j (holdings_in x k)) (sym (g.leasts e m))
        ∙ f r (g.grids e m).sized j low high
        ∙ ap (λ (x : List ℕ). holding j (holdings_in x l)) (g.leasts e m)

    mine : holdings_in r k ≡ e.holdings
    mine = held-member k g.once e m

    here : Memᴰ r (grids_of l)
    here =
        let w = (g.held e m).held in
        let d : w.0 + 1 - 1 ≡ w.0 = omega arith in
        holds-in r (grids_of l) (held-here l r (w.0 + 1) (omega (arith, w.2, agree (w.0 + 1) (omega arith) (omega (arith, w.1)), ap₂ (λ (x : List ℕ) (j : ℕ). get_or x j 0) mine d)))

    p : (x : Entry) × Memᴰ x l × (x.grid ≡ r)
    p = of-grids l r here

    theirs : holdings_in r l ≡ p.0.holdings
    theirs = ap (λ (x : List ℕ). holdings_in x l) (sym p.2) ∙ held-member l h.once p.0 p.1

    same : e ≡ p.0
    same = λ i. record {
      grid = sym p.2 i;
      holdings = (sym mine ∙ holdings-ext (holdings_in r k) (holdings_in r l) (set-fit s k g r).sized (set-fit s l h r).sized agree ∙ theirs) i;
    }

module _ (i : Implementation) (s : Shape) (f : Follows i s []) (g : Good s []) (b b' : List ℕ) (o : b ≡ shown s []) (o' : b' ≡ shown s []) (calls calls' : List Call) (lent : All LentCall calls) (lent' : All LentCall calls') where
  abbrev k : Entries
  k = afterwards s [] calls

  abbrev l : Entries
  l = afterwards s [] calls'

  abbrev Same : Type 0
  Same = (a : List ℕ) → length a ≡ grid_size s → (j : ℕ) → 1 ≤ j → j ≤ clients → holding_of i s b calls j a ≡ holding_of i s b' calls' j a

  bytes-holdings : (left i b calls ≡ left i b' calls') ↔ Same
  unfolding shown
  bytes-holdings = (to, back)
    where
      good : Good s k
      good = end-good i s f g b o calls lent

      good' : Good s l
      good' = end-good i s f g b' o' calls' lent'

      to : left i b calls ≡ left i b' calls' → Same
      to p a z j low high =
          sym (end-holding i s f g b o calls lent a z j low)
          ∙ sym (shown-held s k good j (least_in s a))
          ∙ ap (λ (x : List ℕ). held_by j (least_in s a) (decode x).entries) (sym (end-bytes i s f g b o calls lent) ∙ p ∙ end-bytes i s f g b' o' calls' lent')
          ∙ shown-held s l good' j (least_in s a)
          ∙ end-holding i s f g b' o' calls' lent' a z j low

      held : Same → (a : List ℕ) → length a ≡ grid_size s → (j : ℕ) → 1 ≤ j → j ≤ clients → held_by j (least_in s a) k ≡ held_by j (least_in s a) l
      held e a z j low high = end-holding i s f g b o calls lent a z j low ∙ e a z j low high ∙ sym (end-holding i s f g b' o' calls' lent' a z j low)

      back : Same → left i b calls ≡ left i b' calls'
      back e =
          end-bytes i s f g b o calls lent
          ∙ ap (λ (x : Entries). layout (record { shape = s; entries = x }))
          (asc-ext (sorted k) (sorted l) (sorted-asc k good.once) (sorted-asc l good'.once)
          (λ x m. in-sorted l x (entry-moved s k l good good' (held e) x (of-sorted k x m)))
          (λ x m. in-sorted k x (entry-moved s l k good' good (λ a z j low high. sym (held e a z j low high)) x (of-sorted l x m))))
          ∙ sym (end-bytes i s f g b' o' calls' lent')

-- an implementation that opens and answers as the machine does
pub record Plain (i : Implementation) : Type 0 where
  pub opens : (s : Shape) (slice : List ℕ) → InLimits s → Bytes slice → length slice ≡ layout_length s → i.opens s slice ≡ record { number = 0; place = 0; bytes = shown s [] }
  pub starts : (s : Shape) (slice : List ℕ) → InLimits s → Bytes slice → (i.opens s slice).number ≡ 0 → (i.opens s slice).bytes ≡ shown s []
  pub answers : (s : Shape) → InLimits s → Follows i s []

after-start : (i : Implementation) → Plain i → (s : Shape) → InLimits s → (b : List ℕ) → b ≡ shown s [] → (calls : List Call) → All LentCall calls → AfterOpen i s b calls
unfolding every
after-start i p s w b o calls lent =
    let f = p.answers s w in
    let g = empty-good s w in
    let l : Entries = afterwards s [] calls in
    let good = end-good i s f g b o calls lent in
    let same = end-bytes i s f g b o calls lent in record {
      starts = o;
      answers = end-run i s f g b o calls lent;
      laid = rw (end-run i s f g b o calls lent) (never 5 refl s calls []);
      never-none = rw (end-run i s f g b o calls lent) (never 102 refl s calls []);
      classes = grids_of l;
      lists = end-lists i s f g b o calls lent;
      counts = ap count same ∙ shown-count s l good ∙ sym (length-map l (λ (x : Entry). x.grid));
      counts-sent = λ low high x y t.
          let c = end-count i s f g b o calls lent low high x y in
          ap (λ (q : Outcome). q.place) c ∙ counted-sent s l good low high (sym (ap (λ (q : Outcome). accepted q.number) c) ∙ t);
      counts-pruned = λ low high z.
          let q = pruned_for s low high in
          let u = bounds-bytes s.rows s.columns s.top q.low q.high w.grid-limits (pruned-is-bounds s.rows s.columns s.top low high z) in
          end-count i s f g b o calls lent q.low q.high u.0 u.1 ∙ counted-pruned s low high l good z ∙ ap (λ (x : List ℕ). placed 0 (inside s (grids_of l) low high) x) (sym same);
      counts-there = λ before after low high e x there y.
          let q = lent-before before (count_in low high ∷ after) (subst (All LentCall) e lent) in
          ap (run i b) e
          ∙ run-among i b before (count_in low high) after
          ∙ ap (λ (u : Outcome). run i b before ++ (u ∷ run i u.bytes after)) (count-there i s f g b o before q low high x there y);
      covered = λ a z k low high. omega (arith, end-held i s f g b o calls lent a z k low);
      holdings = λ a z k low high. rw same (shown-held s l good k (least_in s a) ∙ end-holding i s f g b o calls lent a z k low);
      bytes-holdings = λ slice' x' e' calls' lent'. bytes-holdings i s f g b (i.opens s slice').bytes o (p.starts s slice' w x' e') calls calls' lent lent';
    }

pub plain-demand3 : (i : Implementation) → Plain i → Demand3 i
plain-demand3 i p = record {
  opens = p.opens;
  follows = λ s slice w x e calls lent. after-start i p s w (i.opens s slice).bytes (p.starts s slice w x e) calls lent;
}

pub meets-plain : (i : Implementation) → Meets i → Plain i
meets-plain i h = record {
  opens = λ s slice w x z. h.opens s slice (limits-lent-shape s w) x ∙ open-answers s slice w z;
  starts = λ s slice w x e.
      let o = h.opens s slice (limits-lent-shape s w) x in
      ap (λ (y : Outcome). y.bytes) o ∙ opened-shown s slice (ap (λ (y : Outcome). y.number) (sym o) ∙ e);
  answers = λ s w calls lent. let g = empty-good s w in meets-run i h (shown s []) calls (shown-bytes s [] g) lent ∙ run-same s calls [] g;
}

pub demand3 : (i : Implementation) → Meets i → Demand3 i
demand3 i h = plain-demand3 i (meets-plain i h)
