-- Programs with a fault of holdings do not meet demand 3: each is refuted on every register reached by calls, by what the machine does there.
--
--   struck-held, struck-client  ==  an accepted strike makes this client's holding one fewer, and names a client
--   none-empty          ==  no line of the machine's bytes is without holdings
--   The other names are those of the faults.
--   holdings-turned     ==  all of them
use mathlib.Core.Path.{◌≡◌, refl, sym, ap, ◌∙◌}
use mathlib.Core.List.{List, [], ◌∷◌, Memᴰ}
use mathlib.Core.Bool.{true, false, true≢false}
use mathlib.Core.Logic.{◌⊎◌, inl, inr}
use Prim.Native.Nat.{ℕ, ◌+◌, ◌≤◌}
use native.Mathlib.Omega.{arith}
use lib.ListN.{length}
use lib.Dec.{eqb}
use Rattle.permutations.specs.Lists.{All}
use Rattle.permutations.proofs.BoolLaws.{and_yes, yes_or_no}
use Rattle.layout.specs.Layout.{Shape, Entry, clients, most_held, some_held, is_holdings, decode}
use Rattle.grids.specs.Grids.{capped}
use Rattle.layout.proofs.RegisterLaws.{holdings-decides}
use Rattle.calls.specs.Entries.{least_in, held_by}
use Rattle.calls.specs.Calls.{Outcome, placed, struck, accepted}
use Rattle.calls.proofs.EntryLaws.{Entries}
use Rattle.calls.proofs.AskedLaws.{client-pass}
use Rattle.calls.proofs.HoldingLaws.{none-by}
use Rattle.machine.specs.CallLists.{strike, Implementation, register_calls, called}
use Rattle.machine.specs.Machine.{shown, Step, step}
use Rattle.machine.specs.Demand3.{Demand3}
use Rattle.machine.specs.Holdings.{held_in}
use Rattle.machine.proofs.MachineLaws.{Good, register_of, reads}
use Rattle.machine.proofs.SetLaws.{of-sorted}
use Rattle.machine.proofs.HeldLaws.{own-apart}
use Rattle.machine.proofs.ReachedLaws.{strike-asked, strike-lowers}
use Rattle.turned_down.specs.RegisterFaults.{ClientReached, answer_at, class_on, class_held}
use Rattle.turned_down.specs.HoldingFaults.{HeldUnwritten, Elsewhere, WrapsAt999, first_holder, StrikesFirstHolder, StrikesAll, StrikesLine, KeepsEmptyLine, HeldByAnyone, holding_faults}
use Rattle.turned_down.specs.Faults.{fault, Turned}
use Rattle.turned_down.proofs.RegisterCases.{cell, zero, zero-entry, shared-entry, twice-entry, most-entry, empty-entry, with, computed, limits, striking-by, any-client}
use Rattle.turned_down.proofs.ClientCalls.{Kind, EnterKind, entering, striking, at-terminal, enters, enters-at-terminal, Seen, seen, unmoved, unstored}

-- ---- enters

held-unwritten : (k : Kind) → Turned (fault Demand3 (HeldUnwritten k.call))
unfolding accepted
held-unwritten k = record {
  example = k.make (λ b c g. placed 101 1 b);
  done = record {
    on = any-client (k.make (λ b c g. placed 101 1 b)) cell limits (with (zero-entry ∷ [])) computed.zero-slice (k.takes _ _ _) 2 zero refl;
    held = ap (λ (o : Outcome). o.number) (k.makes (λ b c g. placed 101 1 b) (with (zero-entry ∷ [])) 2 zero);
    kept = ap (λ (o : Outcome). o.bytes) (k.makes (λ b c g. placed 101 1 b) (with (zero-entry ∷ [])) 2 zero);
  };
  refused = λ i f d. unstored k i d f.on (ap accepted f.held) f.kept;
}

elsewhere : (k : Kind) → Turned (fault Demand3 (Elsewhere k.call))
unfolding accepted
elsewhere k = record {
  example = k.make (λ b c g. placed 0 1 b);
  done = record {
    on = any-client (k.make (λ b c g. placed 0 1 b)) cell limits (with (zero-entry ∷ [])) computed.zero-slice (k.takes _ _ _) 1 zero refl;
    taken = ap (λ (o : Outcome). accepted o.number) (k.makes (λ b c g. placed 0 1 b) (with (zero-entry ∷ [])) 1 zero);
    kept = ap (λ (o : Outcome). held_in o.bytes 1 (class_on (with (zero-entry ∷ [])) zero)) (k.makes (λ b c g. placed 0 1 b) (with (zero-entry ∷ [])) 1 zero);
  };
  refused = λ i f d. unmoved k i d f.on f.taken f.kept;
}

wraps-at-999 : (k : Kind) → EnterKind k → Turned (fault Demand3 (WrapsAt999 k.call))
wraps-at-999 k e = record {
  example = k.make (λ b c g. placed 101 1 (with []));
  done = record {
    on = any-client (k.make (λ b c g. placed 101 1 (with []))) cell limits (with (most-entry ∷ [])) computed.most-slice (k.takes _ _ _) 1 zero refl;
    asked = computed.most-passes;
    room = computed.most-room;
    most = computed.most-held;
    wrapped = ap (λ (o : Outcome). held_in o.bytes 1 (class_on (with (most-entry ∷ [])) zero)) (k.makes (λ b c g. placed 101 1 (with [])) (with (most-entry ∷ [])) 1 zero) ∙ computed.most-gone;
  };
  refused = λ i f d.
      let w = seen k i d f.on in
      let s = f.on.from.shape in
      let c = f.on.client in
      let g = f.on.grid in
      let before = sym (w.held-before c) ∙ f.most in
      let after = ap (λ (t : Step). held_by c (least_in s g) t.next) (sym w.after_is) ∙ sym (w.held_after c) ∙ f.wrapped in
      falls i f d w before after (yes_or_no (accepted (step s w.set (k.call c g)).number));
}
  where
    falls : (i : Implementation) (f : WrapsAt999 k.call i) → Demand3 i → (w : Seen k i f.on) →
        held_by f.on.client (least_in f.on.from.shape f.on.grid) w.set ≡ most_held →
        held_by f.on.client (least_in f.on.from.shape f.on.grid) (step f.on.from.shape w.set (k.call f.on.client f.on.grid)).next ≡ 0 →
        (accepted (step f.on.from.shape w.set (k.call f.on.client f.on.grid)).number ≡ true) ⊎ (accepted (step f.on.from.shape w.set (k.call f.on.client f.on.grid)).number ≡ false) → ⊥
    falls i f d w before after (inl t) = omega (arith, before, after, e.raises f.on.from.shape w.set w.good f.on.client f.on.grid t)
    falls i f d w before after (inr t) =
        omega (arith, before, after, ap (held_by f.on.client (least_in f.on.from.shape f.on.grid)) (e.keeps f.on.from.shape w.set f.on.client f.on.grid t))

-- ---- strikes

module _ (i : Implementation) (d : Demand3 i) (on : ClientReached i) (e : accepted (answer_at i strike on).number ≡ true) where
  pub struck-held : held_in (answer_at i strike on).bytes on.client (class_on on.from.register on.grid) + 1 ≡ held_in on.from.register on.client (class_on on.from.register on.grid)
  struck-held =
      let w = seen striking i d on in
      let t = strike-lowers on.from.shape w.set on.client on.grid w.good (rw (sym w.after_is) (sym (ap accepted w.number_is) ∙ e)) in
      omega (arith, w.held-before on.client, w.held_after on.client, rw (sym w.after_is) at t)

  struck-client : 1 ≤ on.client
  struck-client =
      let w = seen striking i d on in
      ((client-pass on.from.shape on.client on.grid).0 (strike-asked on.from.shape w.set on.client on.grid (rw (sym w.after_is) (sym (ap accepted w.number_is) ∙ e)))).1

strikes-first-holder : Turned (fault Demand3 StrikesFirstHolder)
unfolding called accepted register_calls
strikes-first-holder = record {
  example = striking-by (λ b c g. placed 0 1 (struck b (first_holder (class_held b g)) g).bytes);
  done = record {
    on = any-client (striking-by (λ b c g. placed 0 1 (struck b (first_holder (class_held b g)) g).bytes)) cell limits (with (shared-entry ∷ [])) computed.shared-slice refl 2 zero refl;
    taken = refl;
    other = computed.shared-first;
    first = refl;
  };
  refused = λ i f d.
      let b = f.on.from.register in
      let c = f.on.client in
      let g = f.on.grid in
      let yes-taken = ap accepted f.taken in
      let fewer = struck-held i d f.on yes-taken in
      let same = own-apart b (strike (first_holder (class_held b g)) g) c (struck-client i d f.on yes-taken) (striking.whom c (first_holder (class_held b g)) g ∙ f.other) (class_on b g) in
      omega (arith, fewer, same, ap (λ (x : List ℕ). held_in x c (class_on b g)) f.first);
}

strikes-all : Turned (fault Demand3 StrikesAll)
unfolding called accepted
strikes-all = record {
  example = striking-by (λ b c g. placed 0 1 (with []));
  done = record {
    on = any-client (striking-by (λ b c g. placed 0 1 (with []))) cell limits (with (twice-entry ∷ [])) computed.twice-slice refl 1 zero refl;
    taken = refl;
    several = omega (arith, computed.twice-held);
    none = computed.twice-gone;
  };
  refused = λ i f d. omega (arith, struck-held i d f.on (ap accepted f.taken), f.several, f.none);
}

strikes-line : Turned (fault Demand3 StrikesLine)
unfolding called held_in
strikes-line = record {
  example = striking-by (λ b c g. placed 0 1 (with []));
  done = record {
    on = any-client (striking-by (λ b c g. placed 0 1 (with []))) cell limits (with (shared-entry ∷ [])) computed.shared-slice refl 2 zero refl;
    taken = refl;
    other = 1;
    other-client = (omega arith, refl);
    holder = omega (arith, computed.shared-held);
    gone = computed.shared-gone;
  };
  refused = λ i f d.
      let b = f.on.from.register in
      let w = seen striking i d f.on in
      let r = class_on b f.on.grid in
      let same = own-apart b (strike f.on.client f.on.grid) f.other f.other-client.0 (striking.whom f.other f.on.client f.on.grid ∙ f.other-client.1) r in
      omega (arith, f.holder, ap (λ (o : Outcome). held_in o.bytes f.other r) w.own ∙ same, none-by (decode (answer_at i strike f.on).bytes).entries r f.other f.gone);
}

-- no line of the machine's bytes is without holdings
none-empty : (s : Shape) (l : Entries) → Good s l → (e : Entry) → Memᴰ e (decode (shown s l)).entries → some_held e.holdings ≡ false → ⊥
unfolding is_holdings register_of
none-empty s l g e m z =
    let h = (holdings-decides e.holdings).1 (g.held e (of-sorted l e (rw (reads s l g) at m))) in
    true≢false (sym (and_yes (capped most_held e.holdings) (some_held e.holdings) (and_yes (eqb (length e.holdings) clients) _ h).1).1 ∙ z)

keeps-empty-line : Turned (fault Demand3 KeepsEmptyLine)
unfolding called
keeps-empty-line = record {
  example = striking-by (λ b c g. placed 0 1 (with (empty-entry ∷ [])));
  done = record {
    on = any-client (striking-by (λ b c g. placed 0 1 (with (empty-entry ∷ [])))) cell limits (with (zero-entry ∷ [])) computed.zero-slice refl 1 zero refl;
    taken = refl;
    entry = empty-entry;
    stands = rw computed.empty-stated (Memᴰ.head refl);
    empty = computed.empty-held;
  };
  refused = λ i f d. let w = seen striking i d f.on in none-empty f.on.from.shape w.after.next w.after-good f.entry (rw w.bytes-are at f.stands) f.empty;
}

held-by-anyone : Turned (fault Demand3 HeldByAnyone)
unfolding called accepted
held-by-anyone = record {
  example = striking-by (λ b c g. placed 0 1 b);
  done = record {
    on = any-client (striking-by (λ b c g. placed 0 1 b)) cell limits (with (zero-entry ∷ [])) computed.zero-slice refl 2 zero refl;
    asked = computed.other-passes;
    none = computed.other_none;
    anyone = computed.other-stands;
    taken = refl;
  };
  refused = λ i f d. omega (arith, struck-held i d f.on f.taken, f.none);
}

pub holdings-turned : All Turned holding_faults
unfolding holding_faults
holdings-turned = (held-unwritten entering, (held-unwritten at-terminal, (elsewhere entering, (elsewhere striking, (elsewhere at-terminal, (wraps-at-999 entering enters, (wraps-at-999 at-terminal enters-at-terminal, (strikes-first-holder, (strikes-all, (strikes-line, (keeps-empty-line, (held-by-anyone, tt))))))))))))
