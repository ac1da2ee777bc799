-- Every open and every book is kept as the tables say.
--
--   opens_so, kept_so  ==  the tests of an open and of a book
--   opens-so, kept-so  ==  what they show
--   books-kept         ==  the statement
use mathlib.Core.Path.{◌≡◌, refl}
use mathlib.Core.List.{map, flatten, flat_map}
use mathlib.Core.Bool.{Bool, true, ◌&&◌}
use Rattle.permutations.specs.Lists.{tabulate, numbers, select, every, some, occurrences}
use Rattle.permutations.specs.Permutations.{is_permutation, words, permutations}
use Rattle.permutations.proofs.BoolLaws.{and_yes}
use Rattle.permutations.proofs.ListLaws.{every-all}
use Rattle.grids.specs.Order.{rank, leq, less, equal}
use Rattle.grids.specs.Grids.{capped, is_grid, grid_of, arrangement}
use Rattle.grids.specs.Least.{arrangements, lesser, least_of, least}
use Rattle.grids.specs.Questions.{first_no, in_range, question1, question2, question3, question4, question6, question7, question14, after_first}
use Rattle.grids.proofs.OrderLaws.{equal-eq}
use Rattle.bounds.specs.Bounds.{ranks_within, in_bounds}
use Rattle.bounds.specs.Prune.{question8, bounds_questions}
use Rattle.layout.specs.Decimal.{lead, field, digit, value_from, value}
use Rattle.layout.specs.Layout.{fields, entry_width, line_length, entry_line, blank_line, head_line, layout, layout_length, number_at, count, cells_of, holdings_of, holding, changed, entry_at, decode_shape, decode, in_limits, some_held, is_holdings, is_entry, ascending, is_register, laid_out}
use Rattle.calls.specs.Entries.{grid_questions, client_questions, more, fewer, holds, holdings_in, held_by, question9, question10, question15, question16, place_in, insert, without}
use Rattle.calls.specs.Calls.{Outcome, answered, question5, kept, open_questions, opened, enter_into, strike_from, enter_questions, strike_questions, count_questions, enter_register, strike_register, entered, struck, entries_in, count_register, counted, terminal_enter_questions, terminal_enter_register, terminal_entered}
use Rattle.machine.specs.CallLists.{register_calls, called, run, left}
use Rattle.worked_cases.specs.Text.{bytes, text}
use Rattle.worked_cases.specs.Books.{OpenCase, Opens, openings, Book, KeptBook, books, BooksKept}
use Rattle.worked_cases.proofs.Outcomes.{outcome_so, outcome-so}

-- ---- the tests

opens_so : OpenCase → Bool
opens_so o = outcome_so (opened o.shape (text o.slice)) o.number 0 (text o.leaves)

opens-so : (o : OpenCase) → opens_so o ≡ true → Opens o
unfolding opens_so
opens-so o t = outcome-so (opened o.shape (text o.slice)) o.number 0 (text o.leaves) t

kept_so : Book → Bool
kept_so k =
    let os = run register_calls (text k.before) k.calls in
    equal (map (λ (o : Outcome). o.number) os) k.numbers
    && (equal (map (λ (o : Outcome). o.place) os) k.places && equal (left register_calls (text k.before) k.calls) (text k.leaves))

kept-so : (k : Book) → kept_so k ≡ true → KeptBook k
unfolding kept_so
kept-so k t =
    let os = run register_calls (text k.before) k.calls in
    let p = and_yes (equal (map (λ (o : Outcome). o.number) os) k.numbers) _ t in
    let q = and_yes (equal (map (λ (o : Outcome). o.place) os) k.places) _ p.1 in
    record { numbers = equal-eq _ _ p.0; places = equal-eq _ _ q.0; leaves = equal-eq _ _ q.1 }

-- ---- the statement

pub books-kept : BooksKept
unfolding outcome_so opens_so kept_so bytes text flatten flat_map tabulate numbers select every some occurrences is_permutation words permutations rank leq less equal capped is_grid grid_of arrangement arrangements lesser least_of least first_no in_range question1 question2 question3 question6 question7 question14 after_first ranks_within in_bounds question8 bounds_questions lead field digit value_from value fields entry_width line_length entry_line blank_line head_line layout layout_length number_at count cells_of holdings_of holding changed entry_at decode_shape decode in_limits some_held is_holdings is_entry ascending is_register laid_out answered question4 question5 grid_questions client_questions more fewer holds holdings_in held_by question9 question10 question15 question16 place_in insert without kept open_questions opened enter_into strike_from enter_questions strike_questions count_questions enter_register strike_register entered struck entries_in count_register counted terminal_enter_questions terminal_enter_register terminal_entered register_calls called run left openings books BooksKept
books-kept = (every-all Opens opens_so opens-so openings refl, every-all KeptBook kept_so kept-so books refl)
