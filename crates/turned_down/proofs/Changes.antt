-- Programs that change another client's holding, or a client's by two, do what no call does: of each client, and on all bytes.
--
--   each, once          ==  the bytes of the register of one cell whose entry zero every client holds twice, and once
--   two_of k, Stated k, stated  ==  what they, the empty register and no bytes state of client k, as a test and as facts
--   Computed, computed  ==  what the definitions give
--   next-other          ==  the next client is another
--   apart-two           ==  numbers two or more apart are not within one
--   leaves, apart_next  ==  what a program leaves of holdings where its bytes are known; no call changes the next client's
--   gives-next, takes-next, adds-two, takes_two, changes-other, changes-by-two  ==  the faults
--   each-client         ==  a fault of each client, turned down of every client of a list
--   leaving, leaves-two ==  an implementation whose calls leave the bytes by which every client holds two
--   changes-of, next-changes, count-changes  ==  the last two of every client, of one kind of call: of a client's calls, and of count
--   changes-turned      ==  all of them
use mathlib.Core.Path.{◌≡◌, refl, sym, ap, ◌∙◌}
use mathlib.Core.List.{List, [], ◌∷◌, map, flatten}
use mathlib.Core.Bool.{Bool, true, false, ◌&&◌}
use mathlib.Core.Logic.{inl, inr}
use Prim.Native.Nat.{ℕ, suc, ◌+◌, ◌≤◌, ◌<◌}
use native.Mathlib.Omega.{arith}
use lib.ListN.{replicate}
use lib.Dec.{ltb, eqb}
use borrow.Author.Tests.{ltb-true, eqb-true, eq-eqb}
use Rattle.permutations.specs.Lists.{All, tabulate, every}
use Rattle.permutations.proofs.BoolLaws.{and_yes, refuted}
use Rattle.permutations.proofs.ListLaws.{all_append}
use Rattle.grids.specs.Order.{rank, leq, equal}
use Rattle.grids.proofs.LentLaws.{small_word, is_slice, tested-bytes}
use Rattle.layout.specs.Decimal.{lead, field, digit, value_from, value}
use Rattle.layout.specs.Layout.{clients, fields, entry_width, line_length, entry_line, blank_line, head_line, layout, number_at, cells_of, holdings_of, holding, count, entry_at, decode_shape, decode, laid_out}
use Rattle.calls.specs.Entries.{holdings_in, held_by, insert}
use Rattle.calls.specs.Calls.{Outcome, placed}
use Rattle.machine.specs.CallLists.{Call, count_in, Implementation, LentCall, called}
use Rattle.machine.proofs.CallListLaws.{tested-call}
use Rattle.machine.specs.Machine.{sorted, shown}
use Rattle.machine.specs.Holdings.{names, held_in, Apart, ByOne}
use Rattle.turned_down.specs.HoldingFaults.{ClientLent, answer_of, AddsTwo, TakesTwo, GivesNext, TakesNext, CallLent, ChangesOther, ByTwo, ChangesByTwo, each_client, changes_of, change_faults}
use Rattle.turned_down.specs.RegisterFaults.{Made, calling, is_enter, is_strike, is_count, is_terminal_enter}
use Rattle.turned_down.specs.Faults.{Fault, fault, Turned}
use Rattle.turned_down.proofs.RegisterCases.{zero, with, always}
use Rattle.turned_down.proofs.RegisterCases as cases
use Rattle.turned_down.proofs.Demand1.{made-always}
use Rattle.turned_down.proofs.ClientCalls.{Kind, entering, striking, at-terminal, lent-client, literal-client}

abbrev each : List ℕ
each = with (record { grid = zero; holdings = replicate clients 2 } ∷ [])

abbrev once : List ℕ
once = with (record { grid = zero; holdings = replicate clients 1 } ∷ [])

abbrev two_of : ℕ → Bool
two_of k = (ltb 0 k && ltb k 9) && (eqb (held_in each k zero) 2 && (eqb (held_in once k zero) 1 && (eqb (held_in (with []) k zero) 0 && eqb (held_in [] k zero) 0)))

record Computed : Type 0 where
  each-slice : is_slice each ≡ true
  once-slice : is_slice once ≡ true
  all-clients : every two_of each_client ≡ true
  first : two_of 1 ≡ true
  second : two_of 2 ≡ true

computed : Computed
unfolding tabulate every flatten rank leq equal lead field digit value_from value fields entry_width line_length entry_line blank_line head_line layout number_at cells_of holdings_of holding count entry_at decode_shape decode holdings_in held_by insert sorted shown held_in
computed = record { each-slice = refl; once-slice = refl; all-clients = refl; first = refl; second = refl }

-- what the bytes above state of a client
record Stated (k : ℕ) : Type 0 where
  first : 1 ≤ k
  last : k < 9
  two : held_in each k zero ≡ 2
  one_of : held_in once k zero ≡ 1
  none : held_in (with []) k zero ≡ 0
  unlaid : held_in [] k zero ≡ 0

stated : (k : ℕ) → two_of k ≡ true → Stated k
stated k e =
    let p = and_yes (ltb 0 k && ltb k 9) _ e in
    let q = and_yes (eqb (held_in each k zero) 2) _ p.1 in
    let r = and_yes (eqb (held_in once k zero) 1) _ q.1 in
    let t = and_yes (eqb (held_in (with []) k zero) 0) (eqb (held_in [] k zero) 0) r.1 in
    let u = and_yes (ltb 0 k) (ltb k 9) p.0 in record {
      first = ltb-true 0 k u.0;
      last = ltb-true k 9 u.1;
      two = eqb-true (held_in each k zero) 2 q.0;
      one_of = eqb-true (held_in once k zero) 1 r.0;
      none = eqb-true (held_in (with []) k zero) 0 t.0;
      unlaid = eqb-true (held_in [] k zero) 0 t.1;
    }

pub next-other : (c : ℕ) → (eqb (suc c) c ≡ false) × (eqb c (suc c) ≡ false)
next-other c = (refuted (eqb (suc c) c) (eqb-true (suc c) c, eq-eqb (suc c) c) (λ (e : suc c ≡ c). omega arith), refuted (eqb c (suc c)) (eqb-true c (suc c), eq-eqb c (suc c)) (λ (e : c ≡ suc c). omega arith))

each-client : (F : ℕ → Fault) → ((k : ℕ) → Stated k → Turned (F k)) → (l : List ℕ) → every two_of l ≡ true → All Turned (map F l)
unfolding every
each-client F t [] e = tt
each-client F t (k ∷ l) e = let p = and_yes (two_of k) _ e in (t k (stated k p.0), each-client F t l p.1)

apart-two : {x y : ℕ} → ByTwo x y → (y ≤ x + 1) × (x ≤ y + 1) → ⊥
apart-two (inl e) h = omega (arith, h.0)
apart-two (inr e) h = omega (arith, h.1)

module _ (k : Kind) where
  -- what an implementation whose calls leave the bytes w states of a holding
  leaves : (w b : List ℕ) (c : ℕ) (g : List ℕ) (j : ℕ) (r : List ℕ) → held_in (called (k.make (λ b c g. placed 0 1 w)) b (k.call c g)).bytes j r ≡ held_in w j r
  leaves w b c g j r = ap (λ (o : Outcome). held_in o.bytes j r) (k.makes (λ b c g. placed 0 1 w) b c g)

  -- no other client's holding changes
  apart_next : (i : Implementation) → Apart i → (on : ClientLent) (r : List ℕ) → held_in (answer_of i k.call on).bytes (suc on.client) r ≡ held_in on.register (suc on.client) r
  unfolding Apart
  apart_next i d on r =
      d on.register (k.call on.client on.grid) on.register-bytes (lent-client k on) (suc on.client) (omega arith) (k.whom (suc on.client) on.client on.grid ∙ (next-other on.client).1) r

  gives-next : Stated 2 → Turned (fault Apart (GivesNext k.call))
  gives-next t = record {
    example = k.make (λ b c g. placed 0 1 once);
    done = record { on = literal-client (with []) (cases.computed).none-slice 1 zero refl; held-grid = zero; given = leaves once (with []) 1 zero 2 zero ∙ t.one_of ∙ ap (λ (x : ℕ). x + 1) (sym t.none) };
    refused = λ i f d. omega (arith, f.given, apart_next i d f.on f.held-grid);
  }

  takes-next : Stated 2 → Turned (fault Apart (TakesNext k.call))
  takes-next t = record {
    example = k.make (λ b c g. placed 0 1 (with []));
    done = record { on = literal-client once computed.once-slice 1 zero refl; held-grid = zero; taken = ap (λ (x : ℕ). x + 1) (leaves (with []) once 1 zero 2 zero ∙ t.none) ∙ sym t.one_of };
    refused = λ i f d. omega (arith, f.taken, apart_next i d f.on f.held-grid);
  }

  adds-two : Stated 1 → Turned (fault ByOne (AddsTwo k.call))
  unfolding ByOne
  adds-two t = record {
    example = k.make (λ b c g. placed 0 1 each);
    done = record { on = literal-client (with []) (cases.computed).none-slice 1 zero refl; named = omega arith; held-grid = zero; added = leaves each (with []) 1 zero 1 zero ∙ t.two ∙ ap (λ (x : ℕ). x + 2) (sym t.none) };
    refused = λ i f d. omega (arith, f.added, (d f.on.register (k.call f.on.client f.on.grid) f.on.register-bytes (lent-client k f.on) f.on.client f.named f.held-grid).0);
  }

  takes_two : Stated 1 → Turned (fault ByOne (TakesTwo k.call))
  unfolding ByOne
  takes_two t = record {
    example = k.make (λ b c g. placed 0 1 (with []));
    done = record { on = literal-client each computed.each-slice 1 zero refl; named = omega arith; held-grid = zero; taken = ap (λ (x : ℕ). x + 2) (leaves (with []) each 1 zero 1 zero ∙ t.none) ∙ sym t.two };
    refused = λ i f d. omega (arith, f.taken, (d f.on.register (k.call f.on.client f.on.grid) f.on.register-bytes (lent-client k f.on) f.on.client f.named f.held-grid).1);
  }

-- ---- of each client

-- an implementation whose calls leave the bytes that every client holds two by
abbrev leaving : Implementation
leaving = always 0 1 (λ b. each)

leaves-two : (b : List ℕ) (c : Call) (j : ℕ) → Stated j → held_in (called leaving b c).bytes j zero ≡ 2
leaves-two b c j t = ap (λ (o : Outcome). held_in o.bytes j zero) (made-always 0 1 (λ b. each) (calling b c)) ∙ t.two

-- calls of one kind, for each client one that does not name it
module _ (p : Made → Bool) (call : ℕ → Call) (kind : (b : List ℕ) (j : ℕ) → p (calling b (call j)) ≡ true) (lent : (j : ℕ) → j < 9 → LentCall (call j)) (other : (j : ℕ) → names j (call j) ≡ false) where
  -- bytes of which a client holds none, laid out or not
  module _ (laid : Bool) (b : List ℕ) (small : is_slice b ≡ true) (state : laid_out b ≡ laid) (j : ℕ) (t : Stated j) (none : held_in b j zero ≡ 0) where
    abbrev on : CallLent p
    on = record { register = b; call = call j; kind = kind b j; register-bytes = tested-bytes b small; call-lent = lent j t.last }

    changes-other : Turned (fault Apart (ChangesOther laid j p))
    unfolding Apart
    changes-other = record {
      example = leaving;
      done = record { on = on; state = state; unnamed = other j; held-grid = zero; changed = λ e. omega (arith, e, leaves-two b (call j) j t, none) };
      refused = λ i f d. f.changed (d f.on.register f.on.call f.on.register-bytes f.on.call-lent j t.first f.unnamed f.held-grid);
    }

    changes-by-two : Turned (fault ByOne (ChangesByTwo laid j p))
    unfolding ByOne
    changes-by-two = record {
      example = leaving;
      done = record { on = on; state = state; held-grid = zero; changed = inl (omega (arith, leaves-two b (call j) j t, none)) };
      refused = λ i f d. apart-two f.changed (d f.on.register f.on.call f.on.register-bytes f.on.call-lent j t.first f.held-grid);
    }

  changes-of : All Turned (changes_of p)
  unfolding changes_of
  changes-of =
      all_append Turned (map (λ (j : ℕ). fault Apart (ChangesOther true j p)) each_client) _
      (each-client _ (λ j t. changes-other true (with []) (cases.computed).none-slice (cases.computed).none-laid j t t.none) each_client computed.all-clients)
      (all_append Turned (map (λ (j : ℕ). fault Apart (ChangesOther false j p)) each_client) _
      (each-client _ (λ j t. changes-other false [] refl (cases.computed).nothing-unlaid j t t.unlaid) each_client computed.all-clients)
      (all_append Turned (map (λ (j : ℕ). fault ByOne (ChangesByTwo true j p)) each_client) _
      (each-client _ (λ j t. changes-by-two true (with []) (cases.computed).none-slice (cases.computed).none-laid j t t.none) each_client computed.all-clients)
      (each-client _ (λ j t. changes-by-two false [] refl (cases.computed).nothing-unlaid j t t.unlaid) each_client computed.all-clients)))

-- a client's calls, each by the next client
next-changes : (k : Kind) (p : Made → Bool) → ((b : List ℕ) (j : ℕ) → p (calling b (k.call (suc j) zero)) ≡ true) → All Turned (changes_of p)
next-changes k p kind =
    changes-of p (λ j. k.call (suc j) zero) kind (λ j h. k.lent (suc j) zero (small_word (suc j) (omega arith)) (tested-bytes zero refl)) (λ j. k.whom j (suc j) zero ∙ (next-other j).0)

count-changes : All Turned (changes_of is_count)
unfolding names
count-changes = changes-of is_count (λ j. count_in zero zero) (λ b j. refl) (λ j h. tested-call (count_in zero zero) refl) (λ j. refl)

pub changes-turned : All Turned change_faults
unfolding change_faults
changes-turned = (
  gives-next entering (stated 2 computed.second),
  (
    gives-next at-terminal (stated 2 computed.second),
    (
      takes-next striking (stated 2 computed.second),
      (
        adds-two entering (stated 1 computed.first),
        (
          adds-two at-terminal (stated 1 computed.first),
          (
            takes_two striking (stated 1 computed.first),
            all_append Turned (changes_of is_enter) _ (next-changes entering is_enter (λ b j. refl))
                (all_append Turned (changes_of is_strike) _ (next-changes striking is_strike (λ b j. refl))
                (all_append Turned (changes_of is_count) _ count-changes (next-changes at-terminal is_terminal_enter (λ b j. refl)))),
          ),
        ),
      ),
    ),
  ),
)
