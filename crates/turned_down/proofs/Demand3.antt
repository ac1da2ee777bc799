-- Faulty programs for the register do not meet demand 3: a fault is refuted on every register reached by calls, by what the machine does there.
--
--   count-as-defined    ==  there a count answers what its definition does
--   some-selected       ==  a list with an element that passes a test has some that do
--   appends, misplaces  ==  AppendsEntries and Misplaces, of enter and of a terminal's enter
--   The other names are those of the faults.
use mathlib.Core.Path.{◌≡◌, refl, sym, ap, ◌∙◌}
use mathlib.Core.List.Memᴰ
use mathlib.Core.List.{List, [], ◌∷◌, Memᴰ}
use mathlib.Core.Bool.{Bool, true, true≢false, not}
use Prim.Native.Nat.{ℕ, suc, ◌-◌}
use native.Mathlib.Omega.{arith}
use lib.ListN.{length, length-map}
use Rattle.permutations.specs.Lists.{select, every, All}
use Rattle.permutations.proofs.SelectLaws.{in-select, select-split}
use Rattle.grids.specs.Order.{less}
use Rattle.grids.proofs.LentLaws.{small_word, tested-bytes}
use Rattle.layout.specs.Layout.{Shape, Entry, grids_of, grid_size, count, entry_at, decode_shape, decode}
use Rattle.layout.specs.Lines.{line_at}
use Rattle.calls.specs.Entries.{least_in, place_in}
use Rattle.calls.specs.Calls.{Outcome, placed, entries_in, counted, accepted}
use Rattle.calls.proofs.EntryLaws.{holds-in}
use Rattle.calls.proofs.RefusalLaws.{count-numbers}
use Rattle.machine.specs.CallLists.{enter, count_in, Implementation, register_calls, LentCall, called}
use Rattle.machine.specs.Machine.{shown, outcome}
use Rattle.machine.specs.Demand3.{Demand3}
use Rattle.machine.proofs.MachineLaws.{empty-good}
use Rattle.machine.proofs.CallListLaws.{tested-call, limits-lent-shape}
use Rattle.machine.proofs.Demand3Laws.{shown-count}
use Rattle.machine.proofs.NewEntryLaws.{new-set, new-stands}
use Rattle.machine.proofs.ReachedLaws.{shown-length, shown-blank, counted-entries, counted-most, never-answers, stands-call, own-call}
use Rattle.turned_down.specs.RegisterFaults.{Reached, StoresFirst, FullUnlooked, NotHeldUnlooked, InventsCount, InventsCounts, LeavesOutHighs, AnswersNone, CountsArrangements, LeavesLastLine, AppendsEntries, PlacesFromZero, Misplaces, OpensNothing, EntersNothing, OpensAnySlice, RefusesOwnBytes, book_faults}
use Rattle.turned_down.specs.Faults.{fault, Turned}
use Rattle.turned_down.proofs.Differences.{unequal}
use Rattle.turned_down.proofs.RegisterCases.{cell, zero, one, zero-entry, one_entry, with, column, column-entry, column-low, computed, limits, column-limits, plain, entering, striking-by, counting, any-reached, any-client, any-bounds, slice, slice-bytes, opening, first-enter, late, left-line, standing}
use Rattle.turned_down.proofs.ClientCalls.{Kind, EnterKind, seen, seen-new, seen-raised}
use Rattle.turned_down.proofs.ClientCalls as kinds

-- ---- plans that are not stored, and refusals unlooked

stores-first : Turned (fault Demand3 StoresFirst)
unfolding called accepted
stores-first = record {
  example = entering (λ b c g. placed 0 1 b);
  done = record {
    on = any-client (entering (λ b c g. placed 0 1 b)) cell limits (with (zero-entry ∷ [])) computed.zero-slice refl 1 one refl;
    some = omega (arith, computed.zero-counted);
    new = refl;
    kept = refl;
  };
  refused = λ i f d. kinds.unstored kinds.entering i d f.on (ap accepted f.new) f.kept;
}

full-unlooked : Turned (fault Demand3 FullUnlooked)
unfolding called accepted
full-unlooked = record {
  example = entering (λ b c g. placed 9 0 b);
  done = record {
    on = any-client (entering (λ b c g. placed 9 0 b)) cell limits (with (one_entry ∷ zero-entry ∷ [])) computed.both-slice refl 2 zero refl;
    full = computed.both-counted ∙ sym computed.both-full;
    asked = computed.full-asked;
    refused = refl;
  };
  refused = λ i f d. kinds.turned-away kinds.entering i d f.on f.asked 9 f.refused refl;
}

not-held-unlooked : Turned (fault Demand3 NotHeldUnlooked)
unfolding called accepted
not-held-unlooked = record {
  example = striking-by (λ b c g. placed 10 0 b);
  done = record {
    on = any-client (striking-by (λ b c g. placed 10 0 b)) cell limits (with (zero-entry ∷ [])) computed.zero-slice refl 1 zero refl;
    asked = computed.held-asked;
    refused = refl;
  };
  refused = λ i f d. kinds.turned-away kinds.striking i d f.on f.asked 10 f.refused refl;
}

-- ---- counts

invents-count : Turned (fault Demand3 InventsCount)
unfolding called
invents-count = record {
  example = entering (λ b c g. placed 0 1 b);
  done = record {
    on = any-client (entering (λ b c g. placed 0 1 b)) cell limits (with []) computed.none-slice refl 1 zero refl;
    new = refl;
    other = λ e. omega (arith, e, computed.none-counted);
  };
  refused = λ i f d.
      let w = seen kinds.entering i d f.on in
      let s = f.on.from.shape in
      let set = new-set s w.set f.on.client f.on.grid w.after (seen-new kinds.entering i d f.on kinds.enters f.new) (seen-raised kinds.entering i d f.on kinds.enters f.new) in
      f.other (ap count w.bytes-are ∙ shown-count s w.after.next w.after-good ∙ ap length set ∙ ap suc (sym w.counts));
}

-- what a count answers on a register reached by calls
count-as-defined : (i : Implementation) → Demand3 i → (r : Reached i) (low high : List ℕ) → LentCall (count_in low high) → i.counts r.register low high ≡ counted r.register low high
unfolding called register_calls
count-as-defined i d r low high lent = own-call i r.shape r.register (standing i d r) (count_in low high) lent

invents-counts : Turned (fault Demand3 InventsCounts)
unfolding LentCall
invents-counts = record {
  example = counting (λ b low high. placed 0 3 b);
  done = record {
    on = any-bounds (counting (λ b low high. placed 0 3 b)) cell limits (with []) computed.none-slice refl zero one refl;
    counted = refl;
    other = λ e. omega (arith, e, computed.none-sent);
  };
  refused = λ i f d.
      let o = count-as-defined i d f.on.from f.on.low f.on.high (f.on.low-bytes, f.on.high-bytes) in
      f.other (ap (λ (x : Outcome). x.place) o ∙ counted-entries f.on.from.register f.on.low f.on.high (sym (ap (λ (x : Outcome). x.number) o) ∙ f.counted));
}

some-selected : {A : Type 0} (t : A → Bool) (x : A) (l : List A) → Memᴰ x l → t x ≡ true → length (select t l) ≡ 0 → ⊥
some-selected {A} t x l m e = empty (select t l) (in-select t x l m e)
  where
    empty : (k : List A) → Memᴰ x k → length k ≡ 0 → ⊥
    empty [] n z = Memᴰ.not-nil n
    empty (y ∷ k) n z = omega arith

leaves-out-highs : Turned (fault Demand3 LeavesOutHighs)
unfolding entries_in decode LentCall
leaves-out-highs = record {
  example = counting (λ b low high. placed 0 0 b);
  done = record {
    from = any-reached (counting (λ b low high. placed 0 0 b)) cell limits (with (zero-entry ∷ [])) computed.zero-slice refl;
    bounds = zero;
    bounds-bytes = tested-bytes zero refl;
    entry = zero;
    stands = computed.zero-stands;
    lies = computed.zero-lies;
    counted = refl;
    none = refl;
  };
  refused = λ i f d.
      let b = f.from.register in
      let o = count-as-defined i d f.from f.bounds f.bounds (f.bounds-bytes, f.bounds-bytes) in
      let all = counted-entries b f.bounds f.bounds (sym (ap (λ (x : Outcome). x.number) o) ∙ f.counted) in
      some-selected _ f.entry _ (holds-in f.entry _ f.stands) f.lies (sym all ∙ sym (ap (λ (x : Outcome). x.place) o) ∙ f.none);
}

answers-none : Turned (fault Demand3 AnswersNone)
unfolding LentCall
answers-none = record {
  example = counting (λ b low high. placed 102 0 b);
  done = record {
    on = any-bounds (counting (λ b low high. placed 102 0 b)) column column-limits (shown column []) computed.column-none-slice refl column-low column-low refl;
    none = computed.column-prunes;
    answers = refl;
  };
  refused = λ i f d.
      let b = f.on.from.register in
      let o = count-as-defined i d f.on.from f.on.low f.on.high (f.on.low-bytes, f.on.high-bytes) in
      omega (arith, ap (λ (x : Outcome). x.number) o, f.answers, count-numbers b f.on.low f.on.high);
}

counts-arrangements : Turned (fault Demand3 CountsArrangements)
unfolding LentCall
counts-arrangements = record {
  example = counting (λ b low high. placed 0 1 b);
  done = record {
    on = any-bounds (counting (λ b low high. placed 0 1 b)) column column-limits (shown column (column-entry ∷ [])) computed.column-slice refl column-low column-low refl;
    none = computed.column-no-entry;
    entry = 0 ∷ 1 ∷ [];
    stands = computed.column-stands;
    arrangement = column-low;
    one-class = computed.column-class;
    lies = computed.column-lies;
    counted = omega arith;
  };
  refused = λ i f d.
      let b = f.on.from.register in
      let o = count-as-defined i d f.on.from f.on.low f.on.high (f.on.low-bytes, f.on.high-bytes) in
      omega (arith, ap (λ (x : Outcome). x.place) o, f.counted, f.none, counted-most b f.on.low f.on.high);
}

-- ---- lines and places

leaves-last-line : Turned (fault Demand3 LeavesLastLine)
unfolding called line_at
leaves-last-line = record {
  example = striking-by (λ b c g. placed 0 1 left-line);
  done = record {
    on = any-client (striking-by (λ b c g. placed 0 1 left-line)) cell limits (with (zero-entry ∷ [])) computed.zero-slice refl 1 zero refl;
    taken = refl;
    line = 0;
    behind = omega (arith, computed.left-counted);
    within = omega (arith, computed.left-room);
    unblank = unequal _ _ computed.left-unblank;
  };
  refused = λ i f d.
      let w = seen kinds.striking i d f.on in
      let s = f.on.from.shape in
      let count-is = ap count w.bytes-are ∙ shown-count s w.after.next w.after-good in
      let blank = shown-blank s w.after.next w.after-good f.line (omega (arith, f.behind, count-is)) (omega (arith, f.within, ap (λ (x : Shape). x.capacity) w.shape_is)) in
      f.unblank (rw (w.shape_is, w.bytes-are) blank);
}

pub appends : (k : Kind) → EnterKind k → Turned (fault Demand3 (AppendsEntries k.call))
unfolding place_in
appends k e = record {
  example = k.make (λ b c g. placed 0 2 b);
  done = record {
    on = any-client (k.make (λ b c g. placed 0 2 b)) cell limits (with (one_entry ∷ [])) computed.one-slice (k.takes _ _ _) 1 zero refl;
    new = ap (λ (o : Outcome). o.number) (k.makes (λ b c g. placed 0 2 b) (with (one_entry ∷ [])) 1 zero);
    entry = one;
    stands = computed.one-stands;
    behind = computed.one-behind;
    last = ap (λ (o : Outcome). o.place) (k.makes (λ b c g. placed 0 2 b) (with (one_entry ∷ [])) 1 zero) ∙ ap suc (sym computed.one-counted);
  };
  refused = λ i f d.
      let w = seen k i d f.on in
      let s = f.on.from.shape in
      let r = least_in s f.on.grid in
      let n = seen-new k i d f.on e f.new in
      let split = select-split (λ (x : List ℕ). less x r) (grids_of w.set) in
      let place = sym n.place_is ∙ sym w.place_is ∙ f.last in
      let member = holds-in f.entry (grids_of w.set) (sym (w.holds-before f.entry) ∙ f.stands) in
      some-selected (λ (x : List ℕ). not (less x r)) f.entry (grids_of w.set) member (ap not (ap (less f.entry) (sym w.class-is) ∙ f.behind))
      (omega (arith, split, place, w.counts, length-map w.set (λ (x : Entry). x.grid)));
}

pub misplaces : (k : Kind) → EnterKind k → Turned (fault Demand3 (Misplaces k.call))
misplaces k e = record {
  example = k.make (λ b c g. placed 0 1 late);
  done = record {
    on = any-client (k.make (λ b c g. placed 0 1 late)) cell limits (with (one_entry ∷ [])) computed.one-slice (k.takes _ _ _) 1 zero refl;
    new = ap (λ (o : Outcome). o.number) (k.makes (λ b c g. placed 0 1 late) (with (one_entry ∷ [])) 1 zero);
    elsewhere = λ z.
        unequal _ _ computed.late-line (sym (ap (λ (o : Outcome). (entry_at (grid_size (decode_shape (with (one_entry ∷ [])))) o.bytes (o.place - 1)).grid) (k.makes (λ b c g. placed 0 1 late) (with (one_entry ∷ [])) 1 zero)) ∙ z);
  };
  refused = λ i f d.
      let w = seen k i d f.on in
      let s = f.on.from.shape in
      let n = seen-new k i d f.on e f.new in
      let stands = new-stands s w.set f.on.client f.on.grid w.after n (seen-raised k i d f.on e f.new) w.good w.after-good in
      f.elsewhere (rw (w.shape_is, w.bytes-are, w.place_is) stands);
}

places-from-zero : Turned (fault Demand3 PlacesFromZero)
unfolding called place_in
places-from-zero = record {
  example = entering (λ b c g. placed 0 0 b);
  done = record {
    on = any-client (entering (λ b c g. placed 0 0 b)) cell limits (with []) computed.none-slice refl 1 zero refl;
    none = computed.none-counted;
    new = refl;
    first = refl;
  };
  refused = λ i f d.
      let w = seen kinds.entering i d f.on in
      omega (arith, (seen-new kinds.entering i d f.on kinds.enters f.new).place_is, w.place_is, f.first);
}

-- ---- refusing all, or too little, or one's own register

opens-nothing : Turned (fault Demand3 OpensNothing)
unfolding OpensNothing
opens-nothing = record {
  example = plain 1 0;
  done = λ s b w l z. omega arith;
  refused = λ i f d. f cell slice (limits-lent-shape cell limits) slice-bytes (ap (λ (x : Outcome). x.number) (opening i d));
}

enters-nothing : Turned (fault Demand3 EntersNothing)
unfolding EntersNothing accepted
enters-nothing = record {
  example = plain 9 0;
  done = λ b c g x y z. refl;
  refused = λ i f d.
      true≢false (sym (ap (λ (x : Outcome). accepted x.number) (first-enter i d)) ∙ f (with []) 1 zero (tested-bytes (with []) computed.none-slice) (small_word 1 (omega arith)) (tested-bytes zero refl));
}

opens-any-slice : Turned (fault Demand3 OpensAnySlice)
opens-any-slice = record {
  example = plain 0 0;
  done = record { shape = cell; slice = []; shape-limits = limits; slice-bytes = tested-bytes [] refl; other = λ e. omega (arith, e, computed.cell-length); opens = refl; kept = refl };
  refused = λ i f d.
      let z = ap length (d.follows f.shape f.slice f.shape-limits f.slice-bytes f.opens [] tt).starts in
      f.other (sym f.kept ∙ z ∙ shown-length f.shape [] (empty-good f.shape f.shape-limits));
}

refuses-own-bytes : Turned (fault Demand3 RefusesOwnBytes)
unfolding called every outcome
refuses-own-bytes = record {
  example = entering (λ b c g. placed 5 0 b);
  done = record {
    from = any-reached (entering (λ b c g. placed 5 0 b)) cell limits (with (zero-entry ∷ [])) computed.zero-slice refl;
    call = enter 1 zero;
    call-lent = tested-call _ refl;
    refused = refl;
  };
  refused = λ i f d.
      let r = f.from in
      let t = standing i d r in
      never-answers 5 refl r.shape t.set f.call (sym (ap (λ (x : Outcome). x.number) (stands-call i r.shape r.register t f.call f.call-lent)) ∙ f.refused);
}

pub books-turned : All Turned book_faults
unfolding book_faults
books-turned = (stores-first, (full-unlooked, (not-held-unlooked, (invents-count, (invents-counts, (leaves-out-highs, (answers-none, (counts-arrangements, (leaves-last-line, (appends kinds.entering kinds.enters, (places-from-zero, (misplaces kinds.entering kinds.enters, (opens-nothing, (enters-nothing, (opens-any-slice, (refuses-own-bytes, tt))))))))))))))))
