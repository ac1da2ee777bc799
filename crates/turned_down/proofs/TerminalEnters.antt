-- Faulty programs for a terminal's enter do not meet demands 1 and 3, nor what joins both enters.
--
--   pair, pair-limits   ==  a shape of a row of two cells, top 1 and capacity 1; it is within the limits
--   swapped             ==  its grid 1 0, which is not the least of its class
--   few m, is_few m      ==  the bytes of an empty register of m rows and one column; m is at most 5, and they are bytes that state it
--   Computed, computed  ==  what the definitions give
--   alike               ==  DiffersWith, of every number of rows of a list
--   The other names are those of the faults.
--   terminal-enters-turned  ==  all of them
use mathlib.Core.Path.{◌≡◌, refl, sym, ap, ◌∙◌}
use mathlib.Core.List.{List, [], ◌∷◌, map, flatten, flat_map}
use mathlib.Core.Bool.{Bool, true, false, true≢false, ◌&&◌}
use Prim.Native.Nat.{ℕ}
use native.Mathlib.Omega.{arith}
use lib.ListN.{replicate}
use lib.Dec.{ltb, eqb}
use borrow.Author.Tests.{ltb-true, eqb-true}
use Rattle.permutations.specs.Lists.{tabulate, numbers, select, every, some, occurrences, All}
use Rattle.permutations.specs.Permutations.{is_permutation, words, permutations}
use Rattle.permutations.proofs.BoolLaws.{and_yes}
use Rattle.permutations.proofs.ListLaws.{all_append}
use Rattle.grids.specs.Order.{rank, leq, less, equal}
use Rattle.grids.specs.Grids.{capped, is_grid, grid_of, arrangement}
use Rattle.grids.specs.Least.{arrangements, lesser, least_of, least}
use Rattle.grids.specs.Questions.{first_no, in_range, question6, question7, question14, after_first}
use Rattle.grids.proofs.LentLaws.{is_slice}
use Rattle.layout.specs.Decimal.{lead, field, digit, value_from, value}
use Rattle.layout.specs.Layout.{Shape, grids_of, fields, entry_width, line_length, entry_line, blank_line, head_line, layout, number_at, cells_of, holdings_of, holding, changed, count, entry_at, decode_shape, decode, InLimits, in_limits, some_held, is_holdings, is_entry, ascending, is_register, laid_out}
use Rattle.layout.specs.Lines.{first_entry}
use Rattle.calls.specs.Entries.{question15, question16, grid_questions, client_questions, holds, holdings_in, held_by, question9, insert}
use Rattle.calls.specs.Calls.{Outcome, placed, shape, question5, enter_questions, terminal_enter_questions, accepted}
use Rattle.calls.proofs.EntryLaws.{holds-in}
use Rattle.machine.specs.CallLists.{terminal_enter, called, questions_of, EnterAlike}
use Rattle.machine.specs.Machine.{sorted, shown}
use Rattle.machine.specs.Demand1.{Demand1}
use Rattle.machine.specs.Demand3.{Demand3}
use Rattle.machine.proofs.MachineLaws.{grids-good}
use Rattle.machine.proofs.ReachedLaws.{shown-holds, terminal-has}
use Rattle.turned_down.specs.RegisterFaults.{is_terminal_enter, calling, refusal_faults, asked_before}
use Rattle.turned_down.specs.TerminalEnterFaults.{EnterRefuses5Rows, StoresAsSent, OnlyAcknowledges, EntersTwice, DiffersWith, terminal_enter_faults}
use Rattle.turned_down.specs.Faults.{fault, Turned}
use Rattle.turned_down.proofs.Differences.{unequal}
use Rattle.turned_down.proofs.RegisterCases.{cell, zero, zero-entry, with, limits, entering-at-terminal, any-client}
use Rattle.turned_down.proofs.RegisterCases as cases
use Rattle.turned_down.proofs.ClientCalls.{at-terminal, enters-at-terminal, lent-client, literal-client, seen, unstored}
use Rattle.turned_down.proofs.Demand3.{appends, misplaces}
use Rattle.turned_down.proofs.Demand1.{terminal_cases, terminal_pairs, refusals-turned, before-turned, turns-away, grows-slice}
use Rattle.turned_down.proofs.Demand1 as asking

abbrev pair : Shape
pair = shape 1 2 1 1

abbrev swapped : List ℕ
swapped = 1 ∷ 0 ∷ []

abbrev few : ℕ → List ℕ
few m = layout (record { shape = shape m 1 0 1; entries = [] })

abbrev is_few : ℕ → Bool
is_few m = ltb m 6 && (is_slice (few m) && eqb (decode_shape (few m)).rows m)

record Computed : Type 0 where
  few-rows : every is_few (tabulate 1 5 (λ m. m)) ≡ true
  five : is_few 5 ≡ true
  five-asked : first_no (questions_of (few 5) (terminal_enter 1 (replicate 5 0))) ≡ 0
  pair-slice : is_slice (shown pair []) ≡ true
  unordered : equal (least (decode_shape (shown pair [])).rows (decode_shape (shown pair [])).columns swapped) swapped ≡ false
  stored : holds swapped (grids_of (decode (shown pair (first_entry 1 swapped ∷ []))).entries) ≡ true

computed : Computed
unfolding tabulate numbers select every some occurrences flatten flat_map is_permutation words permutations rank leq less equal capped is_grid grid_of arrangement arrangements lesser least_of least first_no in_range question6 question7 question14 after_first lead field digit value_from value fields entry_width line_length entry_line blank_line head_line layout number_at count cells_of holdings_of holding changed entry_at decode_shape decode in_limits some_held is_holdings is_entry ascending is_register laid_out question5 question15 question16 grid_questions client_questions holds holdings_in held_by question9 insert enter_questions terminal_enter_questions questions_of sorted shown
computed = record { few-rows = refl; five = refl; five-asked = refl; pair-slice = refl; unordered = refl; stored = refl }

pair-limits : InLimits pair
pair-limits = record {
  grid-limits = record { rows-limits = (omega arith, omega arith); column-limits = (omega arith, omega arith); top-limit = omega arith };
  capacity-limits = (omega arith, omega arith);
}

-- ---- by demand 1

enter-refuses-5-rows : Turned (fault Demand1 EnterRefuses5Rows)
unfolding called accepted
enter-refuses-5-rows = record {
  example = entering-at-terminal (λ b c g. placed 14 0 b);
  done = let p = and_yes (is_slice (few 5)) _ (and_yes (ltb 5 6) _ computed.five).1 in record {
    on = literal-client (few 5) p.0 1 (replicate 5 0) refl;
    rows = eqb-true _ 5 p.1;
    asked = computed.five-asked;
    refused = refl;
  };
  refused = λ i f d.
      true≢false (sym (d.accepts f.on.register (terminal_enter f.on.client f.on.grid) f.on.register-bytes (lent-client at-terminal f.on) ∙ ap (λ (x : ℕ). eqb x 0) f.asked) ∙ ap accepted f.refused);
}

-- ---- by demand 3

stores-as-sent : Turned (fault Demand3 StoresAsSent)
unfolding called
stores-as-sent = record {
  example = entering-at-terminal (λ b c g. placed 0 1 (shown pair (first_entry 1 g ∷ [])));
  done = record {
    on = any-client (entering-at-terminal (λ b c g. placed 0 1 (shown pair (first_entry 1 g ∷ [])))) pair pair-limits (shown pair []) computed.pair-slice refl 1 swapped refl;
    new = refl;
    unordered = computed.unordered;
    stored = computed.stored;
  };
  refused = λ i f d.
      let w = seen at-terminal i d f.on in
      let s = f.on.from.shape in
      let stored = sym (shown-holds s w.after.next w.after-good f.on.grid) ∙ (rw w.bytes-are at f.stored) in
      unequal _ _ f.unordered (w.class-is ∙ (grids-good s w.after.next w.after-good f.on.grid (holds-in f.on.grid _ stored)).1);
}

only-acknowledges : Turned (fault Demand3 OnlyAcknowledges)
unfolding called accepted
only-acknowledges = record {
  example = entering-at-terminal (λ b c g. placed 0 1 b);
  done = record { on = any-client (entering-at-terminal (λ b c g. placed 0 1 b)) cell limits (with []) (cases.computed).none-slice refl 1 zero refl; new = refl; kept = refl };
  refused = λ i f d. unstored at-terminal i d f.on (ap accepted f.new) f.kept;
}

enters-twice : Turned (fault Demand3 EntersTwice)
unfolding called
enters-twice = record {
  example = entering-at-terminal (λ b c g. placed 0 1 b);
  done = record {
    on = any-client (entering-at-terminal (λ b c g. placed 0 1 b)) cell limits (with (zero-entry ∷ [])) (cases.computed).zero-slice refl 2 zero refl;
    held = (cases.computed).other-stands;
    new = refl;
  };
  refused = λ i f d.
      let w = seen at-terminal i d f.on in
      let s = f.on.from.shape in
      let in-set = ap (λ (x : List ℕ). holds x (grids_of w.set)) (sym w.class-is) ∙ sym (w.holds-before _) ∙ f.held in
      let never : w.after.number ≡ 0 → ⊥ = rw w.after_is (terminal-has s w.set f.on.client f.on.grid (λ t. t.number ≡ 0 → ⊥) (λ k z. omega arith) (λ h z. omega arith) (λ h z. true≢false (sym in-set ∙ h))) in
      never (sym w.number_is ∙ f.new);
}

-- ---- by what joins both enters

alike : (l : List ℕ) → every is_few l ≡ true → All Turned (map (λ (m : ℕ). fault EnterAlike (DiffersWith m)) l)
unfolding every EnterAlike called
alike [] e = tt
alike (m ∷ l) e =
    let p = and_yes (is_few m) _ e in
    let q = and_yes (ltb m 6) _ p.0 in
    let r = and_yes (is_slice (few m)) _ q.1 in (
      record {
        example = entering-at-terminal (λ b c g. placed 14 0 b);
        done = record {
          on = literal-client (few m) r.0 1 zero refl;
          rows = eqb-true _ m r.1;
          unlike = λ z. let n = ap (λ (o : Outcome). o.number) z in omega arith;
        };
        refused = λ i f d. f.unlike (d f.on.register f.on.client f.on.grid f.on.register-bytes f.on.client-word f.on.grid-bytes (omega (arith, f.rows, ltb-true m 6 q.0)));
      },
      alike l p.1,
    )

pub terminal-enters-turned : All Turned terminal_enter_faults
unfolding terminal_enter_faults
terminal-enters-turned =
    all_append Turned (flat_map (refusal_faults is_terminal_enter) (5 ∷ 14 ∷ 6 ∷ 7 ∷ 15 ∷ 9 ∷ 16 ∷ [])) _ (refusals-turned is_terminal_enter terminal_cases (asking.computed).terminals)
    (all_append Turned (asked_before is_terminal_enter ((14, 5) ∷ (6, 14) ∷ (7, 6) ∷ (15, 7) ∷ (9, 15) ∷ (16, 15) ∷ [])) _ (before-turned is_terminal_enter terminal_pairs (asking.computed).terminals-both) (
      turns-away is_terminal_enter (calling (with []) (terminal_enter 1 zero)) refl (asking.computed).terminal-lent (asking.computed).terminal-passes,
      (
        enter-refuses-5-rows,
        (
          grows-slice is_terminal_enter (calling (with []) (terminal_enter 1 zero)) refl (asking.computed).terminal-lent,
          (stores-as-sent, (appends at-terminal enters-at-terminal, (misplaces at-terminal enters-at-terminal, (only-acknowledges, (enters-twice, alike (tabulate 1 5 (λ m. m)) computed.few-rows))))),
        ),
      ),
    ))
