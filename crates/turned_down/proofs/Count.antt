-- Faulty programs for count do not meet its contract, nor count bounds as sent and what prune leaves of them alike.
--
--   book                ==  the bytes of a register of two cells with the entry 1/0, held once, which no call can have written: it has no allperm
--   kept                ==  what prune leaves of column-low and column-high with its numbers
--   Computed, computed  ==  what the definitions give
--   lent, sent          ==  that register with bounds, as a count is lent them; a count that answers 0 is of the bounds as sent
--   on-reached          ==  what both counts say of a register reached by calls
--   The other names are those of the faults.
use mathlib.Core.Path.{◌≡◌, refl, sym, ap, subst, ◌∙◌}
use mathlib.Core.List.{List, [], ◌∷◌, flatten, flat_map}
use mathlib.Core.Bool.{true, false, ◌&&◌}
use mathlib.Core.Logic.{◌⊎◌, inl, inr}
use Prim.Native.Nat.{ℕ}
use native.Mathlib.Omega.{arith}
use Rattle.permutations.specs.Lists.{tabulate, numbers, select, every, some, occurrences, All}
use Rattle.permutations.proofs.BoolLaws.{and_yes}
use Rattle.permutations.specs.Permutations.{is_permutation, words, permutations}
use Rattle.grids.specs.Order.{rank, leq, less, equal}
use Rattle.grids.specs.Grids.{capped, is_grid, row, permuted_row}
use Rattle.grids.specs.Questions.{first_no, in_range, question1, question2, question3, question6, question7}
use Rattle.grids.specs.Lent.{Bytes}
use Rattle.grids.proofs.LentLaws.{is_slice, tested-bytes}
use Rattle.bounds.specs.Bounds.{ranks_within, between, in_bounds, fillings, grids_within}
use Rattle.bounds.specs.Kept.{obeyed, keeps, kept_values, lowest_from, lowest, highest_from, highest, kept_low, kept_high}
use Rattle.bounds.specs.Allperm.{allperm}
use Rattle.bounds.specs.Prune.{Pruned, question8, bounds_questions, pruned_yes, pruned}
use Rattle.layout.specs.Decimal.{lead, field, digit, value_from, value}
use Rattle.layout.specs.Layout.{fields, entry_width, line_length, entry_line, blank_line, head_line, layout, number_at, cells_of, holdings_of, changed, count, entry_at, decode_shape, decode, in_limits, some_held, is_holdings, is_entry, ascending, is_register, laid_out}
use Rattle.layout.specs.Lines.{first_entry}
use Rattle.calls.specs.Calls.{Outcome, placed, answered, question5, count_questions, entries_in, count_register, counted}
use Rattle.machine.specs.CallLists.{Implementation, Meets}
use Rattle.machine.specs.CountSlices.{CountProgram, MeetsCount}
use Rattle.machine.specs.Demand3.{pruned_for}
use Rattle.machine.specs.BothCounts.{CountsAlike, BothCounts}
use Rattle.machine.proofs.ReachedLaws.{counted-entries}
use Rattle.turned_down.specs.RegisterFaults.{BoundsReached, BoundsLent, kept_of, entries_sent, CountsPruned, CountsNone, PrunesLentBounds, CountsUnlike, CountsWith102, count_faults}
use Rattle.turned_down.specs.Faults.{fault, Turned}
use Rattle.turned_down.proofs.Differences.{unequal}
use Rattle.turned_down.proofs.RegisterCases.{column, column-low, column-high, column-limits, counting, any-bounds}

abbrev book : List ℕ
book = layout (record { shape = column; entries = first_entry 1 (1 ∷ 0 ∷ []) ∷ [] })

abbrev kept : Pruned
kept = pruned_for (decode_shape book) column-low column-high

record Computed : Type 0 where
  book-slice : is_slice book ≡ true
  sent-count : (counted book column-low column-high).place ≡ 1
  sent-one : entries_in (decode book) column-low column-high ≡ 1
  prunes : kept.number ≡ 0
  kept-none : entries_in (decode book) kept.low kept.high ≡ 0
  kept-count : (counted book kept.low kept.high).place ≡ 0
  raised : equal column-low kept.low ≡ false
  none : (pruned_for (decode_shape book) column-low column-low).number ≡ 102
  none-count : (counted book column-low column-low).place ≡ 1
  none-one : entries_in (decode book) column-low column-low ≡ 1

computed : Computed
unfolding tabulate numbers select every some occurrences flatten flat_map is_permutation words permutations rank leq less equal capped is_grid row permuted_row first_no in_range question1 question2 question3 question6 question7 ranks_within between in_bounds fillings grids_within obeyed keeps kept_values lowest_from lowest highest_from highest kept_low kept_high allperm question8 bounds_questions pruned_yes pruned lead field digit value_from value fields entry_width line_length entry_line blank_line head_line layout number_at count cells_of holdings_of changed entry_at decode_shape decode in_limits some_held is_holdings is_entry ascending is_register laid_out answered question5 count_questions entries_in count_register counted
computed = record {
  book-slice = refl;
  sent-count = refl;
  sent-one = refl;
  prunes = refl;
  kept-none = refl;
  kept-count = refl;
  raised = refl;
  none = refl;
  none-count = refl;
  none-one = refl;
}

book-bytes : Bytes book
book-bytes = tested-bytes book computed.book-slice

-- the register, and bounds, as a count is lent them
abbrev lent : (low high : List ℕ) → (is_slice low && is_slice high) ≡ true → BoundsLent
lent low high e = record {
  register = book;
  low = low;
  high = high;
  register-bytes = book-bytes;
  low-bytes = tested-bytes low (and_yes (is_slice low) (is_slice high) e).0;
  high-bytes = tested-bytes high (and_yes (is_slice low) (is_slice high) e).1;
}

-- a count that answers 0 counts the entries in the bounds as sent
sent : (i : Implementation) → Meets i → (on : BoundsLent) → (i.counts on.register on.low on.high).number ≡ 0 → (i.counts on.register on.low on.high).place ≡ entries_sent on
sent i d on z =
    let o = d.counts on.register on.low on.high on.register-bytes on.low-bytes on.high-bytes in
    ap (λ (x : Outcome). x.place) o ∙ counted-entries on.register on.low on.high (sym (ap (λ (x : Outcome). x.number) o) ∙ z)

counts-pruned : Turned (fault Meets CountsPruned)
counts-pruned = record {
  example = counting (λ b low high. placed 0 (entries_in (decode b) (pruned_for (decode_shape b) low high).low (pruned_for (decode_shape b) low high).high) b);
  done = record { on = lent column-low column-high refl; prunes = computed.prunes; other = λ e. omega (arith, e, computed.kept-none, computed.sent-one); counted = refl; counts = refl };
  refused = λ i f d. f.other (sym f.counts ∙ sent i d f.on f.counted);
}

counts-none : Turned (fault Meets CountsNone)
counts-none = record {
  example = counting (λ b low high. placed 0 0 b);
  done = record { on = lent column-low column-low refl; none = computed.none; other = λ e. omega (arith, e, computed.none-one); counted = refl; counts = refl };
  refused = λ i f d. f.other (sym (sent i d f.on f.counted) ∙ f.counts);
}

prunes-lent-bounds : Turned (fault MeetsCount PrunesLentBounds)
prunes-lent-bounds = record {
  example = λ b low high. record { outcome = counted b low high; low = (pruned_for (decode_shape b) low high).low; high = (pruned_for (decode_shape b) low high).high };
  done = record { on = lent column-low column-high refl; left-pruned = inl (refl, λ e. unequal _ _ computed.raised (sym e)) };
  refused = λ f d c. neither f c d.on d.left-pruned;
}
  where
    neither : (f : CountProgram) → MeetsCount f → (on : BoundsLent) →
        (((f on.register on.low on.high).low ≡ (kept_of on).low) × ((kept_of on).low ≡ on.low → ⊥)) ⊎ (((f on.register on.low on.high).high ≡ (kept_of on).high) × ((kept_of on).high ≡ on.high → ⊥)) → ⊥
    neither f c on (inl e) = e.1 (sym e.0 ∙ c.low-kept on.register on.low on.high on.register-bytes on.low-bytes on.high-bytes)
    neither f c on (inr e) = e.1 (sym e.0 ∙ c.high-kept on.register on.low on.high on.register-bytes on.low-bytes on.high-bytes)

-- what both counts say of a register reached by calls
on-reached : (i : Implementation) → BothCounts i → (r : BoundsReached i) → CountsAlike i r.from.register r.low r.high
unfolding BothCounts
on-reached i d r =
    let from = r.from in
    subst (λ (b : List ℕ). CountsAlike i b r.low r.high) (sym from.reached) (d from.shape from.slice from.shape-limits from.slice-bytes from.opens from.calls from.calls-lent r.low r.high r.low-bytes r.high-bytes)

-- the example counts as it should, and its open takes any bytes: the register above is reached by no call
counts-unlike : Turned (fault BothCounts CountsUnlike)
counts-unlike = record {
  example = counting counted;
  done = record {
    on = any-bounds (counting counted) column column-limits book computed.book-slice refl column-low column-high refl;
    prunes = computed.prunes;
    unlike = λ e. omega (arith, e, computed.kept-count, computed.sent-count);
  };
  refused = λ i f d. f.unlike (ap (λ (x : Outcome). x.place) ((on-reached i d f.on).alike f.prunes));
}

counts-with-102 : Turned (fault BothCounts CountsWith102)
counts-with-102 = record {
  example = counting counted;
  done = record { on = any-bounds (counting counted) column column-limits book computed.book-slice refl column-low column-low refl; none = computed.none; some = λ e. omega (arith, e, computed.none-count) };
  refused = λ i f d. f.some (ap (λ (x : Outcome). x.place) ((on-reached i d f.on).zero f.none));
}

pub counts-turned : All Turned count_faults
unfolding count_faults
counts-turned = (counts-pruned, (counts-none, (prunes-lent-bounds, (counts-unlike, (counts-with-102, tt)))))
