-- Programs that take clients modulo a number, or refuse by 16 for what another client holds, do not meet demand 1.
--
--   FirstNos call       ==  the first no of calls on a full register that name client 1, 9, 257 or 65537
--   Most call           ==  that of client 2's enter where client 1 holds 999
--   Computed, computed  ==  what the definitions give of them
--   modulo, modulo-8, modulo-256, modulo-65536, most-of-anyone  ==  the faults
--   clients-turned      ==  all of them
use mathlib.Core.Path.{◌≡◌, refl, sym, ap, ◌∙◌}
use mathlib.Core.List.{List, [], ◌∷◌, flatten, flat_map}
use mathlib.Core.Bool.{true, true≢false}
use Prim.Native.Nat.{ℕ, ◌+◌, ◌%◌, ◌<◌}
use native.Mathlib.Omega.{arith}
use lib.Dec.{eqb}
use Rattle.permutations.specs.Lists.{All, tabulate, numbers, select, every, some, occurrences}
use Rattle.permutations.specs.Permutations.{is_permutation, words, permutations}
use Rattle.grids.specs.Order.{rank, leq, less, equal}
use Rattle.grids.specs.Grids.{capped, is_grid, grid_of, arrangement}
use Rattle.grids.specs.Least.{arrangements, lesser, least_of, least}
use Rattle.grids.specs.Questions.{first_no, in_range, question6, question7, question14, after_first}
use Rattle.grids.proofs.LentLaws.{small_word, is_slice}
use Rattle.layout.specs.Decimal.{lead, field, digit, value_from, value}
use Rattle.layout.specs.Layout.{fields, entry_width, line_length, entry_line, blank_line, head_line, layout, number_at, cells_of, holdings_of, holding, changed, count, entry_at, decode_shape, decode, in_limits, some_held, is_holdings, is_entry, ascending, is_register, laid_out}
use Rattle.calls.specs.Entries.{holds, holdings_in, held_by, insert, question9, question10, question15, question16, grid_questions, client_questions}
use Rattle.calls.specs.Calls.{Outcome, placed, question5, enter_questions, strike_questions, terminal_enter_questions, accepted}
use Rattle.machine.specs.CallLists.{Call, register_calls, called, questions_of}
use Rattle.machine.specs.Machine.{sorted, shown}
use Rattle.machine.specs.Demand1.{Demand1}
use Rattle.turned_down.specs.HoldingFaults.{ClientsModulo, MostOfAnyone, client_faults}
use Rattle.turned_down.specs.Faults.{fault, Turned}
use Rattle.turned_down.proofs.RegisterCases.{zero, most-entry, with}
use Rattle.turned_down.proofs.RegisterCases as cases
use Rattle.turned_down.proofs.Demand1.{full}
use Rattle.turned_down.proofs.ClientCalls.{Kind, entering, striking, at-terminal, lent-client, literal-client}

record FirstNos (call : ℕ → List ℕ → Call) : Type 0 where
  first : first_no (questions_of full (call 1 zero)) ≡ 0
  by_8 : first_no (questions_of full (call (8 + 1) zero)) ≡ 15
  by-256 : first_no (questions_of full (call (256 + 1) zero)) ≡ 15
  by-65536 : first_no (questions_of full (call (65536 + 1) zero)) ≡ 15

abbrev Most : (ℕ → List ℕ → Call) → Type 0
Most call = first_no (questions_of (with (most-entry ∷ [])) (call 2 zero)) ≡ 0

record Computed : Type 0 where
  full-slice : is_slice full ≡ true
  entering-asked : FirstNos entering.call
  striking-asked : FirstNos striking.call
  terminal-asked : FirstNos at-terminal.call
  entering-most : Most entering.call
  terminal-most : Most at-terminal.call

computed : Computed
unfolding tabulate numbers select every some occurrences flatten flat_map is_permutation words permutations rank leq less equal capped is_grid grid_of arrangement arrangements lesser least_of least first_no in_range question6 question7 question14 after_first lead field digit value_from value fields entry_width line_length entry_line blank_line head_line layout number_at cells_of holdings_of holding changed count entry_at decode_shape decode in_limits some_held is_holdings is_entry ascending is_register laid_out holds holdings_in held_by insert question5 question9 question10 question15 question16 grid_questions client_questions enter_questions strike_questions terminal_enter_questions questions_of sorted shown
computed = record {
  full-slice = refl;
  entering-asked = record { first = refl; by_8 = refl; by-256 = refl; by-65536 = refl };
  striking-asked = record { first = refl; by_8 = refl; by-256 = refl; by-65536 = refl };
  terminal-asked = record { first = refl; by_8 = refl; by-256 = refl; by-65536 = refl };
  entering-most = refl;
  terminal-most = refl;
}

modulo : (k : Kind) (n : ℕ) → n + 1 < 10000000 → FirstNos k.call → first_no (questions_of full (k.call (n + 1) zero)) ≡ 15 → ((c : ℕ) (h : ℕ → Outcome) → h ((n + c) % n) ≡ h (c % n)) → Turned (fault Demand1 (ClientsModulo n k.call))
unfolding ClientsModulo accepted
modulo k n few asked e wraps = record {
  example = k.make (λ b c g. called register_calls b (k.call (c % n) g));
  done = λ on w first taken.
      k.makes _ on.register (n + on.client) on.grid ∙ wraps on.client (λ x. called register_calls on.register (k.call x on.grid)) ∙ sym (k.makes _ on.register on.client on.grid);
  refused = λ i f d.
      let on = literal-client full computed.full-slice 1 zero refl in
      let word = small_word (n + 1) few in
      let yes-first = d.accepts full (k.call 1 zero) on.register-bytes (lent-client k on) ∙ ap (λ (x : ℕ). eqb x 0) asked.first in
      let no-wrapped = d.refuses full (k.call (n + 1) zero) on.register-bytes (k.lent (n + 1) zero word on.grid-bytes) 14 e in
      true≢false (sym yes-first ∙ ap (λ (o : Outcome). accepted o.number) (sym (f on word (omega arith) yes-first) ∙ no-wrapped));
}

modulo-8 : (k : Kind) → FirstNos k.call → Turned (fault Demand1 (ClientsModulo 8 k.call))
modulo-8 k asked = modulo k 8 (omega arith) asked asked.by_8 (λ c h. let e : (8 + c) % 8 ≡ c % 8 = omega arith in ap h e)

modulo-256 : (k : Kind) → FirstNos k.call → Turned (fault Demand1 (ClientsModulo 256 k.call))
modulo-256 k asked = modulo k 256 (omega arith) asked asked.by-256 (λ c h. let e : (256 + c) % 256 ≡ c % 256 = omega arith in ap h e)

modulo-65536 : (k : Kind) → FirstNos k.call → Turned (fault Demand1 (ClientsModulo 65536 k.call))
modulo-65536 k asked = modulo k 65536 (omega arith) asked asked.by-65536 (λ c h. let e : (65536 + c) % 65536 ≡ c % 65536 = omega arith in ap h e)

most-of-anyone : (k : Kind) → Most k.call → Turned (fault Demand1 (MostOfAnyone k.call))
unfolding accepted
most-of-anyone k asked = record {
  example = k.make (λ b c g. placed 16 0 b);
  done = record {
    on = literal-client (with (most-entry ∷ [])) (cases.computed).most-slice 2 zero refl;
    asked = asked;
    other = 1;
    most = (cases.computed).most-held;
    refused = ap (λ (o : Outcome). o.number) (k.makes (λ b c g. placed 16 0 b) (with (most-entry ∷ [])) 2 zero);
  };
  refused = λ i f d.
      true≢false (sym (d.accepts f.on.register (k.call f.on.client f.on.grid) f.on.register-bytes (lent-client k f.on) ∙ ap (λ (x : ℕ). eqb x 0) f.asked) ∙ ap accepted f.refused);
}

pub clients-turned : All Turned client_faults
unfolding client_faults
clients-turned = (modulo-8 entering computed.entering-asked, (modulo-8 striking computed.striking-asked, (modulo-8 at-terminal computed.terminal-asked, (modulo-256 entering computed.entering-asked, (modulo-256 striking computed.striking-asked, (modulo-256 at-terminal computed.terminal-asked, (modulo-65536 entering computed.entering-asked, (modulo-65536 striking computed.striking-asked, (modulo-65536 at-terminal computed.terminal-asked, (most-of-anyone entering computed.entering-most, (most-of-anyone at-terminal computed.terminal-most, tt)))))))))))
