-- Faulty programs for planbook do not print what it prints.
--
--   large, nine           ==  shapes whose register is too large; the second has 9 rows too
--   bare                  ==  an input without command lines, for a shape of one cell
--   blank                 ==  the same input with an empty line
--   above_line, above      ==  a line that enters a cell above top, and that input with it
--   unended_line, unended  ==  a line that lacks only its line feed, and that input with it
--   empty_line, empty      ==  a line whose bounds, 1 over 0, hold no grid with allperm, and an input of it for a shape of two cells
--   count_line, enter_line, early  ==  a line that counts, one that enters, and that input with them
--   second_line, second    ==  a line by which client 2 enters, and that input with it
--   ninth_line, ninth      ==  a line that names client 9, and that input with it
--   strange_line, strange  ==  one that also has a cell above top
--   nameless_line, nameless  ==  a line without a client, and that input with it
--   held                  ==  a shape whose register is too large by its holdings alone
--   long                  ==  an input of 65,537 bytes
--   Computed, computed    ==  what the definitions give
--   lent_register, lent_out ==  slices that are large enough
--   length-lent-register, length-out, roomy  ==  their lengths, and that they are
--   long-bytes, long-no   ==  it is bytes, and gets 11
--   refused-input, commanded, blank-line, above-first  ==  an input that the first checks refuse; one that they pass, with its first command line
--   refusal-printed, all-printed, first-printed, malformed-printed, first-command, first-states, not-malformed, only-printed  ==  what a program prints that prints what it should: of a refused input, of all lines, of the first, of one that is not laid or is, of an only one
--   lead-two, clientless-unlaid  ==  a line of an enter or a strike has a client; without it, it is not laid
--   bounds-first          ==  what the machine does with a first command 3
--   no_room, roomy-slices ==  slices that are too small, and such that are not
--   counts-refused-calls, reads-no-client-calls  ==  these faults by demand 3 of planbook
--   The other names are those of the faults.
use mathlib.Core.Path.{◌≡◌, refl, sym, ap, ◌∙◌}
use mathlib.Core.List.{List, [], ◌∷◌, ◌++◌, flatten, flat_map, append-nil}
use mathlib.Core.Bool.{true, false, true≢false}
use Prim.Native.Nat.{ℕ, suc, zero, ◌+◌, ◌*◌, ◌≤◌}
use native.Mathlib.Omega.{arith}
use lib.ListN.{length, take, drop, replicate, length-replicate, length-drop, length-append}
use lib.Seq.{drop_at, take_at}
use Rattle.permutations.specs.Lists.{tabulate, numbers, select, every, some, occurrences, All}
use Rattle.permutations.specs.Permutations.{is_permutation, words, permutations}
use Rattle.grids.specs.Order.{rank, leq, less, equal}
use Rattle.grids.specs.Lent.{Bytes}
use Rattle.grids.proofs.LentLaws.{is_slice, tested-bytes, bytes-replicate}
use Rattle.grids.specs.Grids.{capped, grid_of, row, permuted_row, arrangement}
use Rattle.grids.specs.Least.{arrangements, lesser, least_of, least}
use Rattle.grids.specs.Questions.{first_no, in_range, question1, question2, question3, question6, question7, question4}
use Rattle.bounds.specs.Bounds.{ranks_within, between, in_bounds, fillings, grids_within}
use Rattle.bounds.specs.Kept.{obeyed}
use Rattle.bounds.specs.Allperm.{allperm}
use Rattle.bounds.specs.Prune.{question8, bounds_questions, pruned_yes, pruned}
use Rattle.layout.specs.Decimal.{lead, field, digit, value_from, value}
use Rattle.layout.specs.Layout.{Shape, grids_of, grid_size, fields, entry_width, line_length, entry_line, blank_line, head_line, layout, layout_length, number_at, cells_of, holding, changed, decode_shape, some_held, laid_out}
use Rattle.calls.specs.Entries.{question15, grid_questions, client_questions, more, holds, holdings_in, held_by, place_in, insert, without, question16, question9}
use Rattle.calls.specs.Calls.{accepted}
use Rattle.machine.proofs.MachineLaws.{empty-good}
use Rattle.machine.specs.Machine.{sorted, shown, step_unless, put, enter_class, count_classes, step, Step}
use Rattle.protocol.specs.Input.{onto, lines, first_line, further_lines, shape_line, leads, lead_length, command_line, cell_count, command_in, client_in, cells_in, is_laid}
use Rattle.protocol.specs.Commands.{lows, highs, count_of, bounds_step, command_step, report, answer_step, malformed, answer, LineAnswer}
use Rattle.protocol.specs.Transcript.{shape_in, question11, question12, question13, start_questions, start_no, reports, set_after, register_from, printed_from, transcript, printed_register}
use Rattle.protocol.specs.Programs.{PlanbookProgram, Prints, Transcribed, has_room, transcribed, MeetsTranscribe}
use Rattle.protocol.specs.Demand3.{printed_line, line_counts, PrintsDemand3}
use Rattle.protocol.proofs.StartLaws.{over-limit, start-limits}
use Rattle.protocol.proofs.ReportLaws.{length-report, length-reports, ReportStates, report-states, malformed-answer, step-answer, answer-states}
use Rattle.protocol.proofs.RunLaws.{start-refused, transcript-some, line-printed, length-register, register-shown, transcript-ends, malformed-leaves}
use Rattle.protocol.proofs.SliceLaws.{has-room, transcribed-rest, transcribed-none}
use Rattle.protocol.proofs.Demand3Laws.{demand3-prints}
use Rattle.turned_down.specs.PlanbookFaults.{laid_in, cells_on, first_step, pruned_on, GoesOnAfter13, PrintsRegisterAfter11, EndsAtMalformed, PrintsUnderZero, MalformedReaches, RefusesCellsAsMalformed, AsksLengthFirst, SilentWithoutCommands, TakesUnended, CountsRefusedBounds, CountsAtEnd, ReadsNoClient, RefusesClientAsMalformed, AsksClientFirst, TakesClientless, MeasuresWithoutHoldings, CountsWithoutRoom, ClearsRest, planbook_faults, Commanded, Refused, Slices, printed_by, laid_first}
use Rattle.turned_down.specs.Faults.{fault, Turned}
use Rattle.turned_down.proofs.Differences.{unequal}
use Rattle.turned_down.proofs.RegisterCases.{cell, column}
use Rattle.turned_down.proofs.RegisterCases as cases
use Rattle.grids.proofs.QuestionLaws.{range-yes}
use Rattle.layout.proofs.DecimalLaws.{length-field, value-field}
use Rattle.layout.proofs.LayoutLaws.{length-ended}
use Rattle.permutations.proofs.BoolLaws.{yes_or_no}
use mathlib.Core.Logic.{◌⊎◌, inl, inr}
use Rattle.permutations.proofs.SelectLaws.{select_no}
use Rattle.protocol.proofs.CommandLaws.{laid-exactly, laid-command, laid-length}
use Rattle.protocol.proofs.ReadingLaws.{bounds-none, bounds-some}

abbrev large : Shape
large = record { rows = 8; columns = 16; top = 15; capacity = 500 }

abbrev nine : Shape
nine = record { rows = 9; columns = 16; top = 15; capacity = 500 }

abbrev bare : List ℕ
bare = shape_line cell

abbrev blank : List ℕ
blank = bare ++ (10 ∷ [])

abbrev above_line : List ℕ
above_line = command_line 1 1 (2 ∷ [])

abbrev above : List ℕ
above = bare ++ above_line

abbrev unended_line : List ℕ
unended_line = field 6 1 ++ (field 6 1 ++ field 3 0)

abbrev unended : List ℕ
unended = bare ++ unended_line

abbrev empty_line : List ℕ
empty_line = command_line 3 0 (1 ∷ 1 ∷ 0 ∷ 0 ∷ [])

abbrev empty : List ℕ
empty = shape_line column ++ empty_line

abbrev count_line : List ℕ
count_line = command_line 3 0 (0 ∷ 1 ∷ [])

abbrev enter_line : List ℕ
enter_line = command_line 1 1 (0 ∷ [])

abbrev early : List ℕ
early = bare ++ (count_line ++ enter_line)

abbrev second_line : List ℕ
second_line = command_line 1 2 (0 ∷ [])

abbrev second : List ℕ
second = bare ++ second_line

abbrev ninth_line : List ℕ
ninth_line = command_line 1 9 (0 ∷ [])

abbrev ninth : List ℕ
ninth = bare ++ ninth_line

abbrev strange_line : List ℕ
strange_line = command_line 2 9 (2 ∷ [])

abbrev strange : List ℕ
strange = bare ++ strange_line

abbrev nameless_line : List ℕ
nameless_line = field 6 1 ++ (fields 3 (0 ∷ []) ++ (10 ∷ []))

abbrev nameless : List ℕ
nameless = bare ++ nameless_line

abbrev held : Shape
held = record { rows = 4; columns = 11; top = 0; capacity = 492 }

long : List ℕ
long = replicate 65537 32

record Computed : Type 0 where
  -- the inputs are bytes
  none-printed : length (transcript []) ≡ 19
  bare-bytes : is_slice bare ≡ true
  blank-bytes : is_slice blank ≡ true
  above_bytes : is_slice above ≡ true
  unended-bytes : is_slice unended ≡ true
  empty-bytes : is_slice empty ≡ true
  second-bytes : is_slice second ≡ true
  ninth-bytes : is_slice ninth ≡ true
  strange-bytes : is_slice strange ≡ true
  nameless-bytes : is_slice nameless ≡ true
  large-bytes : is_slice (shape_line large) ≡ true
  nine-bytes : is_slice (shape_line nine) ≡ true
  held_bytes : is_slice (shape_line held) ≡ true
  large-no : start_no (shape_line large) ≡ 13
  nine-no : start_no (shape_line nine) ≡ 1
  bare-no : start_no bare ≡ 0
  bare-lines : further_lines bare ≡ []
  blank-no : start_no blank ≡ 0
  blank-lines : further_lines blank ≡ (10 ∷ []) ∷ []
  blank-unlaid : laid_in blank (10 ∷ []) ≡ false
  above-no : start_no above ≡ 0
  above-lines : further_lines above ≡ above_line ∷ []
  above-laid : laid_in above above_line ≡ true
  above-refused : accepted (first_step above above_line).number ≡ false
  above-top : capped (shape_in above).top (cells_on above above_line) ≡ false
  unended-no : start_no unended ≡ 0
  unended-lines : further_lines unended ≡ unended_line ∷ []
  unended-unlaid : laid_in unended unended_line ≡ false
  unended-laid : laid_in unended (unended_line ++ (10 ∷ [])) ≡ true
  early-bytes : is_slice early ≡ true
  early-no : start_no early ≡ 0
  early-lines : further_lines early ≡ count_line ∷ enter_line ∷ []
  early-laid : laid_in early count_line ≡ true
  early-command : command_in count_line ≡ 3
  early-pruned : (pruned_on early count_line).number ≡ 0
  early-later : line_counts (shape_in early) count_line (grids_of (set_after (shape_in early) [] (count_line ∷ enter_line ∷ []))) ≡ 1
  second-no : start_no second ≡ 0
  second-lines : further_lines second ≡ second_line ∷ []
  second-laid : laid_in second second_line ≡ true
  second-other : equal (printed_by (client_in second_line) second second_line) (printed_by 1 second second_line) ≡ false
  ninth-no : start_no ninth ≡ 0
  ninth-lines : further_lines ninth ≡ ninth_line ∷ []
  ninth-laid : laid_in ninth ninth_line ≡ true
  ninth-refused : (first_step ninth ninth_line).number ≡ 15
  strange-no : start_no strange ≡ 0
  strange-lines : further_lines strange ≡ strange_line ∷ []
  strange-laid : laid_in strange strange_line ≡ true
  strange-refused : (first_step strange strange_line).number ≡ 7
  strange-client : (question15 (client_in strange_line)).answer ≡ false
  nameless-no : start_no nameless ≡ 0
  nameless-lines : further_lines nameless ≡ nameless_line ∷ []
  nameless-size : grid_size (shape_in nameless) ≡ 1
  held-shape : shape_in (shape_line held) ≡ held
  held-no : start_no (shape_line held) ≡ 13
  empty-no : start_no empty ≡ 0
  empty-lines : further_lines empty ≡ empty_line ∷ []
  empty-laid : laid_in empty empty_line ≡ true
  empty-command : command_in empty_line ≡ 3
  empty-pruned : (pruned_on empty empty_line).number ≡ 102

computed : Computed
unfolding tabulate numbers select every some occurrences flatten flat_map is_permutation words permutations rank leq less equal capped grid_of row permuted_row arrangement arrangements lesser least_of least first_no in_range question1 question2 question3 question6 question7 ranks_within between in_bounds fillings grids_within obeyed allperm question8 bounds_questions pruned_yes pruned lead field digit value_from value fields entry_width line_length entry_line blank_line head_line layout layout_length number_at cells_of holding changed decode_shape some_held question4 question15 grid_questions client_questions more holds holdings_in held_by place_in insert without accepted sorted shown step_unless put enter_class step onto lines first_line further_lines shape_line leads lead_length command_line cell_count command_in client_in cells_in is_laid lows highs count_of bounds_step command_step report answer_step malformed answer shape_in question11 question12 question13 start_questions start_no reports set_after count_classes register_from printed_from transcript question9 question16
computed = record {
  none-printed = refl;
  bare-bytes = refl;
  blank-bytes = refl;
  above_bytes = refl;
  unended-bytes = refl;
  empty-bytes = refl;
  second-bytes = refl;
  ninth-bytes = refl;
  strange-bytes = refl;
  nameless-bytes = refl;
  large-bytes = refl;
  nine-bytes = refl;
  held_bytes = refl;
  large-no = refl;
  nine-no = refl;
  bare-no = refl;
  bare-lines = refl;
  blank-no = refl;
  blank-lines = refl;
  blank-unlaid = refl;
  above-no = refl;
  above-lines = refl;
  above-laid = refl;
  above-refused = refl;
  above-top = refl;
  unended-no = refl;
  unended-lines = refl;
  unended-unlaid = refl;
  unended-laid = refl;
  early-bytes = refl;
  early-no = refl;
  early-lines = refl;
  early-laid = refl;
  early-command = refl;
  early-pruned = refl;
  early-later = refl;
  second-no = refl;
  second-lines = refl;
  second-laid = refl;
  second-other = refl;
  ninth-no = refl;
  ninth-lines = refl;
  ninth-laid = refl;
  ninth-refused = refl;
  strange-no = refl;
  strange-lines = refl;
  strange-laid = refl;
  strange-refused = refl;
  strange-client = refl;
  nameless-no = refl;
  nameless-lines = refl;
  nameless-size = refl;
  held-shape = refl;
  held-no = refl;
  empty-no = refl;
  empty-lines = refl;
  empty-laid = refl;
  empty-command = refl;
  empty-pruned = refl;
}

-- ---- the inputs

refused-input : (input : List ℕ) → is_slice input ≡ true → (k : ℕ) → start_no input ≡ suc k → Refused
refused-input input b k e = record { input = input; bytes = tested-bytes input b; refusal = k; first = e }

commanded : (input line : List ℕ) (rest : List (List ℕ)) → is_slice input ≡ true → start_no input ≡ 0 → further_lines input ≡ line ∷ rest → Commanded
commanded input line rest b e f = record { input = input; bytes = tested-bytes input b; starts = e; line = line; rest = rest; lines = f }

-- ---- what a program prints that prints what it should

module _ (p : PlanbookProgram) (d : Prints p) where
  refusal-printed : (x : Refused) → p x.input ≡ report 0 (suc x.refusal) 0
  unfolding Prints
  refusal-printed x = d x.input x.bytes ∙ (start-refused x.input x.refusal x.first).0

  module _ (x : Commanded) where
    abbrev s : Shape
    s = shape_in x.input

    all-printed : p x.input ≡ reports s [] (x.line ∷ x.rest) ++ printed_register x.input
    unfolding Prints
    all-printed = d x.input x.bytes ∙ transcript-ends x.input x.starts ∙ ap (λ (ls : List (List ℕ)). reports s [] ls ++ printed_register x.input) x.lines

    first-printed : take 19 (p x.input) ≡ (answer s [] x.line).printed
    unfolding Prints printed_line set_after
    first-printed = ap (take 19) (d x.input x.bytes) ∙ line-printed x.input x.starts [] x.line x.rest x.lines

    malformed-printed : laid_first x ≡ false → take 19 (p x.input) ≡ report 0 12 0
    unfolding malformed
    malformed-printed e = first-printed ∙ ap (λ (a : LineAnswer). a.printed) (malformed-answer s [] x.line e)

    module _ (e : laid_first x ≡ true) where
      first-command : 1 ≤ command_in x.line
      first-command = let q = (laid-exactly (grid_size s) x.line).0 e in omega (arith, q.3.command, (laid-command q.3).0)

      first-states : ReportStates (command_in x.line) (first_step x.input x.line).number (first_step x.input x.line).place (take 19 (p x.input))
      first-states =
          let q = (laid-exactly (grid_size s) x.line).0 e in
          let c = laid-command q.3 in
          rw (first-printed, c.0, c.1, c.2) (answer-states s [] (empty-good s (start-limits x.input x.starts).0) q.0 q.1 q.2 x.line q.3)

      -- it is not printed as a line that is not laid
      not-malformed : take 19 (p x.input) ≡ report 0 12 0 → ⊥
      not-malformed f = omega (arith, first-command, first-states.command, ap (number_at 6 0) f, (report-states 0 12 0 (omega arith) (omega arith) (omega arith)).command)

      only-printed : x.rest ≡ [] → p x.input ≡ printed_by (client_in x.line) x.input x.line
      unfolding reports set_after answer_step
      only-printed f =
          all-printed
          ∙ rw (f, register-shown x.input x.starts, x.lines, f)
          (rw (step-answer s [] x.line e, append-nil (report (command_in x.line) (first_step x.input x.line).number (first_step x.input x.line).place)) refl)

-- ---- 13 and 11, the order of the checks, no command

goes-on-after-13 : Turned (fault Prints GoesOnAfter13)
unfolding refused-input
goes-on-after-13 = record {
  example = λ input. replicate 20 32;
  done = record { on = refused-input (shape_line large) computed.large-bytes 12 computed.large-no; no = computed.large-no; longer = omega (arith, length-replicate {A = ℕ} 20 32) };
  refused = λ p f d. omega (arith, f.longer, ap length (refusal-printed p d f.on), length-report 0 (suc f.on.refusal) 0);
}

long-bytes : Bytes long
unfolding long
long-bytes = bytes-replicate 65537 32 (omega arith) (omega arith)

long-no : start_no long ≡ 11
unfolding long
long-no = over-limit long (omega (arith, length-replicate {A = ℕ} 65537 32))

prints-register-after-11 : Turned (fault Prints PrintsRegisterAfter11)
unfolding report fields field lead flatten
prints-register-after-11 = record {
  example = λ input. report 0 11 0 ++ shown cell [];
  done = record {
    on = record { input = long; bytes = long-bytes; refusal = 10; first = long-no };
    no = long-no;
    register = shown cell [];
    laid = (cases.computed).none-laid;
    prints = refl;
  };
  refused = λ p f d.
      let z : suc f.on.refusal ≡ 11 = sym f.on.first ∙ f.no in
      let none = ap (drop 19) (ap (λ (k : ℕ). report 0 k 0) (sym z) ∙ sym (refusal-printed p d f.on) ∙ f.prints) in
      true≢false (sym f.laid ∙ ap laid_out (sym none) ∙ (cases.computed).nothing-unlaid);
}

asks-length-first : Turned (fault Prints AsksLengthFirst)
unfolding refused-input
asks-length-first = record {
  example = λ input. report 0 13 0;
  done = record { on = refused-input (shape_line nine) computed.nine-bytes 0 computed.nine-no; no = omega (arith, computed.nine-no); prints = refl };
  refused = λ p f d.
      let k = suc f.on.refusal in
      let small : k ≤ 4 = omega (arith, f.no, f.on.first) in
      omega (arith, small, ap (number_at 6 6) (sym (refusal-printed p d f.on) ∙ f.prints), (report-states 0 k 0 (omega arith) (omega arith) (omega arith)).number, (report-states 0 13 0 (omega arith) (omega arith) (omega arith)).number);
}

measures-without-holdings : Turned (fault Prints MeasuresWithoutHoldings)
unfolding refused-input report fields field lead flatten equal
measures-without-holdings = record {
  example = λ input. [];
  done = record {
    on = refused-input (shape_line held) computed.held_bytes 12 computed.held-no;
    no = computed.held-no;
    small = rw computed.held-shape (omega arith);
    prints = unequal [] (report 0 13 0) refl;
  };
  refused = λ p f d.
      let z : suc f.on.refusal ≡ 13 = sym f.on.first ∙ f.no in
      f.prints (refusal-printed p d f.on ∙ ap (λ (k : ℕ). report 0 k 0) z);
}

silent-without-commands : Turned (fault Prints SilentWithoutCommands)
unfolding Prints
silent-without-commands = record {
  example = λ input. [];
  done = record { input = bare; bytes = tested-bytes bare computed.bare-bytes; starts = computed.bare-no; lines = computed.bare-lines; prints = refl };
  refused = λ p f d. omega (arith, transcript-some f.input, ap length (sym (d f.input f.bytes) ∙ f.prints));
}

-- ---- lines that are not laid

abbrev blank-line : Commanded
blank-line = commanded blank (10 ∷ []) [] computed.blank-bytes computed.blank-no computed.blank-lines

ends-at-malformed : Turned (fault Prints EndsAtMalformed)
unfolding commanded layout_length
ends-at-malformed = record {
  example = λ input. report 0 12 0;
  done = record { on = blank-line; unlaid = computed.blank-unlaid; prints = refl };
  refused = λ p f d.
      let x = f.on in
      let whole = ap length (sym (all-printed p d x) ∙ f.prints) in
      omega (arith, length-report 0 12 0, simp length-append at whole, length-reports (shape_in x.input) [] (x.line ∷ x.rest), length-register x.input x.starts);
}

malformed-reaches : Turned (fault Prints MalformedReaches)
unfolding commanded set_after select
malformed-reaches = record {
  example = λ input. replicate 20 32 ++ shown (shape_in input) [];
  done = record { on = blank-line; unlaid = computed.blank-unlaid; only = refl; reaches = λ same. let n = ap length same in omega arith };
  refused = λ p f d.
      let x = f.on in
      let s = shape_in x.input in
      let one : x.line ∷ x.rest ≡ x.line ∷ [] = ap (λ (ls : List (List ℕ)). x.line ∷ ls) f.only in
      f.reaches
      (ap (drop 19) (all-printed p d x)
      ∙ drop_at (reports s [] (x.line ∷ x.rest)) (printed_register x.input) 19 (length-reports s [] (x.line ∷ x.rest) ∙ ap (λ (ls : List (List ℕ)). 19 * length ls) one)
      ∙ register-shown x.input x.starts
      ∙ ap (λ (ls : List (List ℕ)). shown s (set_after s [] ls)) (x.lines ∙ one)
      ∙ ap (shown s) (malformed-leaves s [] (x.line ∷ []) ∙ ap (set_after s []) (select_no (is_laid (grid_size s)) x.line [] f.unlaid)));
}

takes-unended : Turned (fault Prints TakesUnended)
unfolding commanded report fields field lead flatten equal
takes-unended = record {
  example = λ input. [];
  done = record {
    on = commanded unended unended_line [] computed.unended-bytes computed.unended-no computed.unended-lines;
    unlaid = computed.unended-unlaid;
    laid = computed.unended-laid;
    prints = unequal [] (report 0 12 0) refl;
  };
  refused = λ p f d. f.prints (malformed-printed p d f.on f.unlaid);
}

-- the line of an enter or a strike has a client
lead-two : (size k : ℕ) → in_range 1 2 k ≡ true → (lead_length k ≡ 12) × (cell_count size k ≡ size)
unfolding lead_length cell_count in_range
lead-two size zero h = absurd (omega (arith, range-yes 1 2 0 h))
lead-two size (suc zero) h = (refl, refl)
lead-two size (suc (suc zero)) h = (refl, refl)
lead-two size (suc (suc (suc k))) h = absurd (omega (arith, range-yes 1 2 (suc (suc (suc k))) h))

clientless-unlaid : (size k : ℕ) (c l : List ℕ) → in_range 1 2 k ≡ true → length c ≡ size → l ≡ field 6 k ++ (fields 3 c ++ (10 ∷ [])) → is_laid size l ≡ false
unfolding command_in number_at
clientless-unlaid size k c l h z e = go (yes_or_no (is_laid size l))
  where
    command : command_in l ≡ k
    command =
        ap (λ (x : List ℕ). value (take 6 x)) e
        ∙ ap value (take_at (field 6 k) (fields 3 c ++ (10 ∷ [])) 6 (length-field 6 k))
        ∙ value-field 5 k (omega (arith, range-yes 1 2 k h))

    short : length l ≡ 6 + (3 * size + 1)
    short = ap length e ∙ length-append (field 6 k) (fields 3 c ++ (10 ∷ [])) ∙ omega (arith, length-field 6 k, length-ended 3 c, z)

    go : (is_laid size l ≡ true) ⊎ (is_laid size l ≡ false) → is_laid size l ≡ false
    go (inl t) = let q = lead-two size k h in absurd (omega (arith, rw (command, q.0, q.1) at (laid-length size l t), short))
    go (inr t) = t

takes-clientless : Turned (fault Prints TakesClientless)
unfolding commanded report fields field lead flatten equal in_range
takes-clientless = record {
  example = λ input. [];
  done = record {
    on = commanded nameless nameless_line [] computed.nameless-bytes computed.nameless-no computed.nameless-lines;
    command = 1;
    names = refl;
    cells = 0 ∷ [];
    sized = sym computed.nameless-size;
    line = refl;
    prints = unequal [] (report 0 12 0) refl;
  };
  refused = λ p f d. f.prints (malformed-printed p d f.on (clientless-unlaid _ f.command f.cells _ f.names f.sized f.line));
}

-- ---- lines that are laid

abbrev above-first : Commanded
above-first = commanded above above_line [] computed.above_bytes computed.above-no computed.above-lines

prints-under-zero : Turned (fault Prints PrintsUnderZero)
unfolding commanded number_at value value_from
prints-under-zero = record {
  example = λ input. [];
  done = record { on = above-first; laid = computed.above-laid; refused = computed.above-refused; prints = refl };
  refused = λ p f d. omega (arith, f.prints, first-command p d f.on f.laid, (first-states p d f.on f.laid).command);
}

refuses-cells-as-malformed : Turned (fault Prints RefusesCellsAsMalformed)
unfolding commanded report fields field lead flatten
refuses-cells-as-malformed = record {
  example = λ input. report 0 12 0;
  done = record { on = above-first; laid = computed.above-laid; above = computed.above-top; prints = refl };
  refused = λ p f d. not-malformed p d f.on f.laid f.prints;
}

refuses-client-as-malformed : Turned (fault Prints RefusesClientAsMalformed)
unfolding commanded report fields field lead flatten
refuses-client-as-malformed = record {
  example = λ input. report 0 12 0;
  done = record {
    on = commanded ninth ninth_line [] computed.ninth-bytes computed.ninth-no computed.ninth-lines;
    laid = computed.ninth-laid;
    refused = computed.ninth-refused;
    prints = refl;
  };
  refused = λ p f d. not-malformed p d f.on f.laid f.prints;
}

asks-client-first : Turned (fault Prints AsksClientFirst)
unfolding commanded report fields field lead flatten number_at value value_from digit
asks-client-first = record {
  example = λ input. report 1 15 0;
  done = record {
    on = commanded strange strange_line [] computed.strange-bytes computed.strange-no computed.strange-lines;
    laid = computed.strange-laid;
    client = computed.strange-client;
    refused = computed.strange-refused;
    prints = refl;
  };
  refused = λ p f d. omega (arith, f.prints, f.refused, (first-states p d f.on f.laid).number);
}

-- ---- command 3

-- what the machine does with a first command 3, by what prune answers
bounds-first : (x : Commanded) → command_in x.line ≡ 3 → first_step x.input x.line ≡ bounds_step (shape_in x.input) [] (lows (grid_size (shape_in x.input)) (cells_on x.input x.line)) (highs (grid_size (shape_in x.input)) (cells_on x.input x.line))
unfolding command_step
bounds-first x e = ap (λ (k : ℕ). command_step (shape_in x.input) [] k (client_in x.line) (cells_on x.input x.line)) e

counts-refused-bounds : Turned (fault Prints CountsRefusedBounds)
unfolding commanded number_at value value_from
counts-refused-bounds = record {
  example = λ input. [];
  done = record {
    on = commanded empty empty_line [] computed.empty-bytes computed.empty-no computed.empty-lines;
    laid = computed.empty-laid;
    command = computed.empty-command;
    empty = computed.empty-pruned;
    prints = refl;
  };
  refused = λ p f d.
      let x = f.on in
      let g = empty-good (shape_in x.input) (start-limits x.input x.starts).0 in
      let n = ap (λ (t : Step). t.number) (bounds-first x f.command ∙ bounds-none (shape_in x.input) [] g 3 _ _ f.empty) in
      omega (arith, f.prints, n, (first-states p d x f.laid).number);
}

counts-refused-calls : Turned (fault PrintsDemand3 CountsRefusedBounds)
counts-refused-calls = record {
  example = counts-refused-bounds.example;
  done = counts-refused-bounds.done;
  refused = λ p f d. counts-refused-bounds.refused p f (demand3-prints p d);
}

-- nothing is live before the first line
counts-at-end : Turned (fault PrintsDemand3 CountsAtEnd)
unfolding commanded count_classes select report fields field lead flatten number_at value value_from digit
counts-at-end = record {
  example = λ input. report 3 0 1;
  done = record {
    on = commanded early count_line (enter_line ∷ []) computed.early-bytes computed.early-no computed.early-lines;
    laid = computed.early-laid;
    command = computed.early-command;
    some = computed.early-pruned;
    later = λ z. omega (arith, z, computed.early-later);
    prints = sym computed.early-later;
  };
  refused = λ p f d.
      let x = f.on in
      let g = empty-good (shape_in x.input) (start-limits x.input x.starts).0 in
      let n = ap (λ (t : Step). t.place) (bounds-first x f.command ∙ bounds-some (shape_in x.input) [] g 3 _ _ f.some) in
      f.later (sym f.prints ∙ (first-states p (demand3-prints p d) x f.laid).place ∙ n);
}

-- ---- the client

reads-no-client : Turned (fault Prints ReadsNoClient)
unfolding commanded
reads-no-client = record {
  example = λ input. printed_by 1 second second_line;
  done = record {
    on = commanded second second_line [] computed.second-bytes computed.second-no computed.second-lines;
    laid = computed.second-laid;
    only = refl;
    other = unequal _ _ computed.second-other;
    prints = refl;
  };
  refused = λ p f d. f.other (sym (only-printed p d f.on f.laid f.only) ∙ f.prints);
}

reads-no-client-calls : Turned (fault PrintsDemand3 ReadsNoClient)
reads-no-client-calls = record {
  example = reads-no-client.example;
  done = reads-no-client.done;
  refused = λ p f d. reads-no-client.refused p f (demand3-prints p d);
}

-- ---- the function on slices

no_room : Slices
no_room = record { input = []; register = []; out = []; input-bytes = tested-bytes [] refl; register-bytes = tested-bytes [] refl; out-bytes = tested-bytes [] refl }

counts-without-room : Turned (fault MeetsTranscribe CountsWithoutRoom)
unfolding MeetsTranscribe transcribed has_room no_room
counts-without-room = record {
  example = λ input register out. record { count = 1; register = register; out = out };
  done = record { on = no_room; small = refl; counts = omega arith };
  refused = λ f d c.
      let x = d.on in
      omega (arith, d.counts, ap (λ (t : Transcribed). t.count) (c x.input x.register x.out x.input-bytes x.register-bytes x.out-bytes), transcribed-none x.input x.register x.out d.small);
}

-- slices with room enough
lent_register : List ℕ
lent_register = replicate 65536 0

lent_out : List ℕ
lent_out = replicate 1310720 0

length-lent-register : length lent_register ≡ 65536
unfolding lent_register
length-lent-register = length-replicate {A = ℕ} 65536 0

length-out : length lent_out ≡ 1310720
unfolding lent_out
length-out = length-replicate {A = ℕ} 1310720 0

register-bytes : Bytes lent_register
unfolding lent_register
register-bytes = bytes-replicate 65536 0 (omega arith) (omega arith)

out-bytes : Bytes lent_out
unfolding lent_out
out-bytes = bytes-replicate 1310720 0 (omega arith) (omega arith)

roomy : has_room lent_register lent_out ≡ true
roomy = has-room lent_register lent_out (omega (arith, length-lent-register)) (omega (arith, length-out))

roomy-slices : Slices
roomy-slices = record { input = []; register = lent_register; out = lent_out; input-bytes = tested-bytes [] refl; register-bytes = register-bytes; out-bytes = out-bytes }

clears-rest : Turned (fault MeetsTranscribe ClearsRest)
unfolding MeetsTranscribe roomy-slices
clears-rest = record {
  example = λ input register out. record { count = length (transcript input); register = register; out = transcript input };
  done = record {
    on = roomy-slices;
    room = roomy;
    cleared = λ e. omega (arith, ap length e, length-drop (length (transcript [])) (transcript []), length-drop (length (transcript [])) lent_out, computed.none-printed, length-out);
  };
  refused = λ f d c.
      let x = d.on in
      d.cleared (ap (λ (t : Transcribed). drop (length (transcript x.input)) t.out) (c x.input x.register x.out x.input-bytes x.register-bytes x.out-bytes) ∙ transcribed-rest x.input x.register x.out d.room);
}

pub planbooks-turned : All Turned planbook_faults
unfolding planbook_faults
planbooks-turned = (goes-on-after-13, (prints-register-after-11, (ends-at-malformed, (prints-under-zero, (malformed-reaches, (refuses-cells-as-malformed, (asks-length-first, (silent-without-commands, (takes-unended, (counts-refused-bounds, (counts-refused-calls, (counts-at-end, (reads-no-client, (reads-no-client-calls, (refuses-client-as-malformed, (asks-client-first, (takes-clientless, (measures-without-holdings, (counts-without-room, (clears-rest, tt))))))))))))))))))))
