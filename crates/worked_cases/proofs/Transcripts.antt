-- Planbook prints what the table says.
--
--   transcripts-hold  ==  the statement
--   input-limit       ==  the edges of the limit of the input
use mathlib.Core.Path.{◌≡◌, refl}
use mathlib.Core.List.{flatten, flat_map}
use mathlib.Core.Bool.{false}
use Prim.Native.Nat.{ℕ, suc, ◌≤◌, ◌<◌}
use native.Mathlib.Omega.{arith}
use lib.ListN.{length, length-replicate}
use Rattle.permutations.specs.Lists.{tabulate, numbers, select, every, some, occurrences}
use Rattle.permutations.specs.Permutations.{is_permutation, words, permutations}
use Rattle.permutations.proofs.ListLaws.{every-all}
use Rattle.grids.specs.Order.{rank, leq, less, equal}
use Rattle.grids.specs.Grids.{capped, grid_of, row, permuted_row, arrangement}
use Rattle.grids.specs.Least.{arrangements, lesser, least_of, least}
use Rattle.grids.specs.Questions.{first_no, in_range, question1, question2, question3, question4, question6, question7}
use Rattle.grids.proofs.OrderLaws.{equal-eq}
use Rattle.bounds.specs.Bounds.{ranks_within, between, in_bounds, fillings, grids_within}
use Rattle.bounds.specs.Kept.{obeyed}
use Rattle.bounds.specs.Allperm.{allperm}
use Rattle.bounds.specs.Prune.{question8, bounds_questions}
use Rattle.layout.specs.Decimal.{lead, field, digit, value_from, value}
use Rattle.layout.specs.Layout.{fields, entry_width, line_length, entry_line, blank_line, head_line, layout, layout_length, number_at, cells_of, holding, changed, decode_shape, some_held}
use Rattle.calls.specs.Entries.{question15, grid_questions, client_questions, more, fewer, holds, holdings_in, held_by, place_in, insert, without, question10, question16, question9}
use Rattle.machine.specs.Machine.{sorted, shown, step_unless, put, enter_class, strike_class, count_classes, step}
use Rattle.protocol.specs.Input.{onto, lines, first_line, further_lines, shape_line, leads, lead_length, command_line, cell_count, command_in, client_in, cells_in, is_laid}
use Rattle.protocol.specs.Commands.{lows, highs, count_of, bounds_step, command_step, report, answer_step, malformed, answer}
use Rattle.protocol.specs.Transcript.{shape_in, question11, question12, question13, start_questions, start_no, reports, set_after, register_from, printed_from, transcript}
use Rattle.protocol.proofs.StartLaws.{over-limit, start-line}
use Rattle.protocol.proofs.RunLaws.{start-refused}
use Rattle.worked_cases.specs.Text.{bytes, text}
use Rattle.worked_cases.specs.Transcripts.{Run, runs, TranscriptsHold, line_feeds, InputLimit}

pub transcripts-hold : TranscriptsHold
unfolding TranscriptsHold runs bytes text flatten flat_map tabulate numbers select every some occurrences is_permutation words permutations rank leq less equal capped grid_of row permuted_row arrangement arrangements lesser least_of least first_no in_range question1 question2 question3 question6 question7 ranks_within between in_bounds fillings grids_within obeyed allperm question8 bounds_questions lead field digit value_from value fields entry_width line_length entry_line blank_line head_line layout layout_length number_at cells_of holding changed decode_shape some_held question4 question15 grid_questions client_questions more fewer holds holdings_in held_by place_in insert without sorted shown step_unless put enter_class strike_class count_classes step onto lines first_line further_lines shape_line leads lead_length command_line cell_count command_in client_in cells_in is_laid lows highs count_of bounds_step command_step report answer_step malformed answer shape_in question11 question12 question13 start_questions start_no reports set_after register_from printed_from transcript question9 question16 question10
transcripts-hold = every-all (λ (r : Run). transcript (text r.input) ≡ text r.output) (λ (r : Run). equal (transcript (text r.input)) (text r.output)) (λ r t. equal-eq _ _ t) runs refl

-- ---- the limit of the input

length-feeds : (n : ℕ) → length (line_feeds n) ≡ n
unfolding line_feeds
length-feeds n = length-replicate n 10

feeds-no : (n : ℕ) → (question12 (line_feeds (suc n))).answer ≡ false
unfolding line_feeds question12 shape_in first_line lines onto shape_line decode_shape number_at value value_from digit fields flatten field lead equal
feeds-no n = refl

feeds-read : (n : ℕ) → suc n ≤ 65536 → transcript (line_feeds (suc n)) ≡ report 0 12 0
feeds-read n h = (start-refused (line_feeds (suc n)) 11 (start-line (line_feeds (suc n)) (omega (arith, length-feeds (suc n))) (feeds-no n))).0

feeds-over : (n : ℕ) → 65536 < n → transcript (line_feeds n) ≡ report 0 11 0
feeds-over n h = (start-refused (line_feeds n) 10 (over-limit (line_feeds n) (omega (arith, length-feeds n)))).0

pub input-limit : InputLimit
unfolding text bytes flat_map report fields flatten field lead
input-limit = record { longest = feeds-read 65535 (omega arith); too_long = feeds-over 65537 (omega arith) }
