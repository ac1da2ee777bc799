-- Every case of the table of counts is so.
--
--   counts_so, counts-so  ==  the test of a case, and what it shows
--   counts-hold           ==  the statement
use mathlib.Core.Path.{◌≡◌, refl}
use mathlib.Core.List.{flatten, flat_map}
use mathlib.Core.Bool.{Bool, true, ◌&&◌}
use lib.Dec.{eqb}
use borrow.Author.Tests.{eqb-true}
use Rattle.permutations.specs.Lists.{tabulate, numbers, select, every, some, occurrences}
use Rattle.permutations.specs.Permutations.{is_permutation, words, permutations}
use Rattle.permutations.proofs.BoolLaws.{and_yes}
use Rattle.permutations.proofs.ListLaws.{every-all}
use Rattle.grids.specs.Order.{rank, leq, less, equal}
use Rattle.grids.specs.Grids.{capped, is_grid, row, permuted_row}
use Rattle.grids.specs.Questions.{first_no, in_range, question1, question2, question3, question6, question7}
use Rattle.grids.proofs.OrderLaws.{equal-eq}
use Rattle.bounds.specs.Bounds.{ranks_within, between, in_bounds, fillings, grids_within}
use Rattle.bounds.specs.Kept.{obeyed, keeps, kept_values, lowest_from, lowest, highest_from, highest, kept_low, kept_high}
use Rattle.bounds.specs.Allperm.{allperm}
use Rattle.bounds.specs.Prune.{question8, bounds_questions, pruned_yes, pruned}
use Rattle.layout.specs.Decimal.{lead, field, digit, value_from, value}
use Rattle.layout.specs.Layout.{fields, entry_width, line_length, entry_line, blank_line, head_line, layout, number_at, count, cells_of, holdings_of, entry_at, decode_shape, decode, in_limits, some_held, is_holdings, is_entry, ascending, is_register, laid_out}
use Rattle.calls.specs.Calls.{answered, question5, count_questions, entries_in, count_register, counted}
use Rattle.machine.specs.Demand3.{pruned_for}
use Rattle.worked_cases.specs.Text.{bytes, text}
use Rattle.worked_cases.specs.Counts.{CountCase, CountsSo, count_cases, CountsHold}
use Rattle.worked_cases.proofs.Outcomes.{outcome_so, outcome-so}

-- ---- the test

counts_so : CountCase → Bool
counts_so c =
    let b = text c.lines in
    let p = pruned_for (decode_shape b) c.low c.high in
    eqb p.number c.number
    && (equal p.low c.pruned_low
    && (equal p.high c.pruned_high && (outcome_so (counted b c.low c.high) 0 c.sent b && outcome_so (counted b c.pruned_low c.pruned_high) 0 c.left b)))

counts-so : (c : CountCase) → counts_so c ≡ true → CountsSo c
unfolding counts_so
counts-so c t =
    let b = text c.lines in
    let p = pruned_for (decode_shape b) c.low c.high in
    let n = and_yes (eqb p.number c.number) _ t in
    let l = and_yes (equal p.low c.pruned_low) _ n.1 in
    let h = and_yes (equal p.high c.pruned_high) _ l.1 in
    let s = and_yes (outcome_so (counted b c.low c.high) 0 c.sent b) _ h.1 in
    record {
      number = eqb-true _ _ n.0;
      pruned_low = equal-eq _ _ l.0;
      pruned_high = equal-eq _ _ h.0;
      sent = outcome-so _ _ _ _ s.0;
      left = outcome-so _ _ _ _ s.1;
    }

-- ---- the statement

pub counts-hold : CountsHold
unfolding outcome_so counts_so bytes text flatten flat_map tabulate numbers select every some occurrences is_permutation words permutations rank leq less equal capped is_grid row permuted_row first_no in_range question1 question2 question3 question6 question7 ranks_within between in_bounds fillings grids_within obeyed keeps kept_values lowest_from lowest highest_from highest kept_low kept_high allperm question8 bounds_questions pruned_yes pruned lead field digit value_from value fields entry_width line_length entry_line blank_line head_line layout number_at count cells_of holdings_of entry_at decode_shape decode in_limits some_held is_holdings is_entry ascending is_register laid_out answered question5 count_questions entries_in count_register counted count_cases CountsHold
counts-hold = every-all CountsSo counts_so counts-so count_cases refl
