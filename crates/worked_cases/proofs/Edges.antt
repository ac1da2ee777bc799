-- Every edge gives its number.
--
--   edges-hold      ==  the statement
--   accepted-hold   ==  a call on a register is accepted with just 0 and 101
--   asked-in-order  ==  the order of the questions
--   neither         ==  where neither of two tests says yes, the first says no
--   never_both      ==  9 and 16 do not get a no of the same arguments
use mathlib.Core.Path.{◌≡◌, refl}
use mathlib.Core.List.{flatten, flat_map}
use mathlib.Core.Bool.{Bool, true, false, ◌||◌}
use native.Mathlib.Omega.{arith}
use lib.ListN.{length}
use lib.Dec.{ltb, eqb}
use borrow.Author.Tests.{eqb-true, lt-ltb}
use Rattle.permutations.specs.Lists.{tabulate, numbers, select, every, some, occurrences}
use Rattle.permutations.specs.Permutations.{is_permutation, words, permutations}
use Rattle.permutations.proofs.ListLaws.{every-all}
use Rattle.grids.specs.Order.{rank, less, leq, equal}
use Rattle.grids.specs.Grids.{capped, is_grid, grid_of, arrangement}
use Rattle.grids.specs.Least.{arrangements, lesser, least_of, least}
use Rattle.grids.specs.Questions.{first_no, in_range, question1, question2, question3, question4, question6, question7, question14, after_first}
use Rattle.canonical.specs.Represent.{represent_questions, terminal_represent_questions}
use Rattle.canonical.specs.Same.{same_questions, terminal_same_questions}
use Rattle.bounds.specs.Prune.{question8, bounds_questions}
use Rattle.layout.specs.Decimal.{lead, field, digit, value_from, value}
use Rattle.layout.specs.Layout.{most_held, grids_of, fields, entry_width, line_length, entry_line, blank_line, head_line, layout, layout_length, number_at, count, cells_of, holdings_of, holding, entry_at, decode_shape, decode, in_limits, some_held, is_holdings, is_entry, ascending, is_register, laid_out}
use Rattle.calls.specs.Entries.{grid_questions, client_questions, holds, holdings_in, held_by, question9, question10, question15, question16}
use Rattle.calls.specs.Calls.{question5, open_questions, enter_questions, strike_questions, count_questions, terminal_enter_questions, accepted}
use Rattle.machine.specs.CallLists.{questions_of}
use Rattle.calls.proofs.HoldingLaws.{none-by}
use Rattle.worked_cases.specs.Text.{bytes, text}
use Rattle.worked_cases.specs.Edges.{Edge, fresh, short, full, most, roomy, tall, tall_short, five, eight, edges, EdgesHold, Accepted, AskedInOrder, NeverBoth}

pub edges-hold : EdgesHold
unfolding EdgesHold edges fresh short full most roomy tall tall_short five eight bytes text flatten flat_map tabulate numbers select every some occurrences is_permutation words permutations rank less leq equal capped is_grid grid_of arrangement arrangements lesser least_of least first_no in_range question1 question2 question3 question6 question7 question14 after_first represent_questions terminal_represent_questions same_questions terminal_same_questions question8 bounds_questions lead field digit value_from value fields entry_width line_length entry_line blank_line head_line layout layout_length number_at count cells_of holdings_of holding entry_at decode_shape decode in_limits some_held is_holdings is_entry ascending is_register laid_out question4 question5 grid_questions client_questions holds holdings_in held_by question9 question10 question15 question16 open_questions enter_questions strike_questions count_questions terminal_enter_questions questions_of
edges-hold = every-all (λ (e : Edge). first_no e.asked ≡ e.number) (λ (e : Edge). eqb (first_no e.asked) e.number) (λ e t. eqb-true _ _ t) edges refl

pub accepted-hold : Accepted
unfolding Accepted accepted select numbers tabulate
accepted-hold = refl

pub asked-in-order : AskedInOrder
unfolding question1 question2 question3 question6 question7 question14 after_first question8 bounds_questions question4 question5 grid_questions client_questions question9 question10 question15 question16 open_questions enter_questions strike_questions count_questions terminal_enter_questions questions_of
asked-in-order = record { opens = refl; enters = refl; strikes = refl; counts = refl; terminal_enters = refl }

neither : (s t : Bool) → (s || t) ≡ false → s ≡ false
neither true t e = e
neither false t e = refl

pub never_both : NeverBoth
unfolding NeverBoth question9 question16
never_both x c r n =
    lt-ltb (held_by c r x.entries) most_held
    (omega (arith, none-by x.entries r c (neither (holds r (grids_of x.entries)) (ltb (length x.entries) x.shape.capacity) n)))
