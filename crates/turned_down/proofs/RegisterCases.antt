-- Small registers that faults are shown on, the implementations that have them, and registers reached by calls: of an implementation whose open takes any
-- bytes, and of one that meets demand 3.
--
--   cell, limits        ==  a shape of 1 row, 1 column, top 1 and capacity 2; it is within the limits
--   zero, one           ==  its two grids
--   zero-entry, one_entry  ==  their entries, which client 1 holds once
--   shared-entry, twice-entry, most-entry, empty-entry  ==  the entries of zero that clients 1 and 2 hold once, client 1 twice, client 1 999 times, and nobody
--   with l              ==  the bytes of the register of one cell with the entries l
--   column, column-limits  ==  a shape of 2 rows, 1 column, top 2 and capacity 1; it is within the limits
--   column-entry        ==  the entry of its grid 0/1, which client 1 holds once
--   column-low, column-high  ==  bounds of it, 1 to 2 over 0 to 1, in which just 1/1 has allperm; column-low itself, the grid 1/0, has not
--   late                ==  the bytes of the register of one cell with zero behind one
--   left-line           ==  those of count 0 with the line of zero left behind
--   Computed, computed  ==  what the definitions give
--   always k p w        ==  every call answers the number k and the place or count p, and leaves w of the bytes
--   plain k p           ==  every call answers so, and changes nothing
--   entering f, striking-by f, counting f, entering-at-terminal f  ==  the like with f for enter, for strike, for count, and for a terminal's enter
--   none_left           ==  no calls leave the bytes as they are
--   any-reached         ==  where open takes any bytes, bytes are a register reached by calls
--   any-client, any-bounds  ==  such a register, with literal arguments of a call
--   slice, slice-bytes, opening  ==  a slice of the shape's length, and what its open answers
--   first-enter         ==  what an enter answers and leaves on it, where demand 3 is met
--   standing            ==  where demand 3 is met, a register reached by calls is the machine's
use mathlib.Core.Path.{◌≡◌, refl, sym, ap, subst, ◌∙◌}
use mathlib.Core.List.{List, [], ◌∷◌, ◌++◌, flatten, flat_map}
use mathlib.Core.Bool.{true, false, ◌&&◌}
use Prim.Native.Nat.{ℕ}
use native.Mathlib.Omega.{arith}
use lib.ListN.{replicate, length-replicate}
use lib.Dec.{ltb, eqb}
use borrow.Author.Tests.{ltb-true}
use Rattle.permutations.specs.Lists.{tabulate, numbers, select, every, some, occurrences}
use Rattle.permutations.specs.Permutations.{is_permutation, words, permutations}
use Rattle.permutations.proofs.BoolLaws.{and_yes}
use Rattle.grids.specs.Order.{rank, leq, less, equal}
use Rattle.grids.specs.Grids.{capped, is_grid, grid_of, row, permuted_row, arrangement, one_class}
use Rattle.grids.specs.Least.{arrangements, lesser, least_of, least}
use Rattle.grids.specs.Questions.{first_no, in_range, question1, question2, question3, question6, question7, question14, after_first}
use Rattle.grids.specs.Lent.{Bytes}
use Rattle.grids.proofs.LentLaws.{small_word, bytes-replicate, is_slice, tested-bytes}
use Rattle.bounds.specs.Bounds.{ranks_within, between, in_bounds, fillings, grids_within}
use Rattle.bounds.specs.Kept.{obeyed, keeps, kept_values, lowest_from, lowest, highest_from, highest, kept_low, kept_high}
use Rattle.bounds.specs.Allperm.{allperm}
use Rattle.bounds.specs.Prune.{question8, bounds_questions, pruned_yes, pruned}
use Rattle.layout.specs.Decimal.{lead, field, digit, value_from, value}
use Rattle.layout.specs.Layout.{Shape, Entry, most_held, no_holdings, grids_of, grid_size, fields, entry_width, line_length, entry_line, blank_line, head_line, layout, layout_length, number_at, cells_of, holdings_of, holding, changed, count, entry_at, decode_shape, decode, InLimits, in_limits, some_held, is_holdings, is_entry, ascending, is_register, laid_out}
use Rattle.layout.specs.Lines.{first_entry, line_at}
use Rattle.layout.proofs.LayoutBytes.{layout-short}
use Rattle.calls.specs.Entries.{more, fewer, question15, question16, grid_questions, client_questions, holds, holdings_in, held_by, question9, place_in, insert, without, question10}
use Rattle.calls.specs.Calls.{Outcome, placed, question5, enter_questions, strike_questions, terminal_enter_questions, entries_in}
use Rattle.machine.specs.CallLists.{enter, strike, Implementation, called, left, questions_of}
use Rattle.machine.specs.Machine.{sorted, shown, step_unless, put, enter_class, strike_class, count_classes, step, outcome}
use Rattle.machine.specs.Holdings.{held_in}
use Rattle.machine.specs.Demand3.{pruned_for, Demand3}
use Rattle.calls.proofs.EntryLaws.{Entries}
use Rattle.machine.proofs.FollowLaws.{follows-open, follows-call}
use Rattle.machine.proofs.CallListLaws.{tested-call}
use Rattle.machine.proofs.ReachedLaws.{Standing, stands}
use Rattle.turned_down.specs.RegisterFaults.{Reached, BoundsReached, ClientReached, class_on, class_held}
use Rattle.turned_down.specs.HoldingFaults.{first_holder}

abbrev pub cell : Shape
cell = record { rows = 1; columns = 1; top = 1; capacity = 2 }

abbrev pub zero : List ℕ
zero = 0 ∷ []

abbrev pub one : List ℕ
one = 1 ∷ []

abbrev pub zero-entry : Entry
zero-entry = first_entry 1 zero

abbrev pub one_entry : Entry
one_entry = first_entry 1 one

abbrev pub shared-entry : Entry
shared-entry = record { grid = zero; holdings = changed 2 1 (changed 1 1 no_holdings) }

abbrev pub twice-entry : Entry
twice-entry = record { grid = zero; holdings = changed 1 2 no_holdings }

abbrev pub most-entry : Entry
most-entry = record { grid = zero; holdings = changed 1 999 no_holdings }

abbrev pub empty-entry : Entry
empty-entry = record { grid = zero; holdings = no_holdings }

abbrev pub with : Entries → List ℕ
with l = shown cell l

abbrev pub column : Shape
column = record { rows = 2; columns = 1; top = 2; capacity = 1 }

abbrev pub column-entry : Entry
column-entry = first_entry 1 (0 ∷ 1 ∷ [])

abbrev pub column-low : List ℕ
column-low = 1 ∷ 0 ∷ []

abbrev pub column-high : List ℕ
column-high = 2 ∷ 1 ∷ []

abbrev pub late : List ℕ
late = layout (record { shape = cell; entries = one_entry ∷ zero-entry ∷ [] })

abbrev pub left-line : List ℕ
left-line = head_line cell 0 ++ (entry_line zero-entry ++ blank_line 1)

pub record Computed : Type 0 where
  -- bytes
  pub none-slice : is_slice (with []) ≡ true
  pub zero-slice : is_slice (with (zero-entry ∷ [])) ≡ true
  pub both-slice : is_slice (with (one_entry ∷ zero-entry ∷ [])) ≡ true
  pub shared-slice : is_slice (with (shared-entry ∷ [])) ≡ true
  pub twice-slice : is_slice (with (twice-entry ∷ [])) ≡ true
  pub most-slice : is_slice (with (most-entry ∷ [])) ≡ true
  pub column-slice : is_slice (shown column (column-entry ∷ [])) ≡ true
  pub column-none-slice : is_slice (shown column []) ≡ true
  pub none-laid : laid_out (with []) ≡ true
  pub nothing-unlaid : laid_out [] ≡ false
  -- what they state
  pub cell-length : layout_length cell ≡ 87
  pub none-counted : count (with []) ≡ 0
  pub zero-counted : count (with (zero-entry ∷ [])) ≡ 1
  pub one-counted : count (with (one_entry ∷ [])) ≡ 1
  pub both-counted : count (with (one_entry ∷ zero-entry ∷ [])) ≡ 2
  pub both-full : (decode_shape (with (one_entry ∷ zero-entry ∷ []))).capacity ≡ 2
  pub zero-stands : holds zero (grids_of (decode (with (zero-entry ∷ []))).entries) ≡ true
  pub zero-lies : in_bounds (grid_size (decode_shape (with (zero-entry ∷ [])))) (decode_shape (with (zero-entry ∷ []))).top zero zero zero ≡ true
  pub column-stands : holds (0 ∷ 1 ∷ []) (grids_of (decode (shown column (column-entry ∷ []))).entries) ≡ true
  pub column-class : one_class (decode_shape (shown column (column-entry ∷ []))).rows (decode_shape (shown column (column-entry ∷ []))).columns column-low (0 ∷ 1 ∷ []) ≡ true
  pub column-lies : in_bounds (grid_size (decode_shape (shown column (column-entry ∷ [])))) (decode_shape (shown column (column-entry ∷ []))).top column-low column-low column-low ≡ true
  pub column-no-entry : entries_in (decode (shown column (column-entry ∷ []))) column-low column-low ≡ 0
  pub column-prunes : (pruned_for (decode_shape (shown column [])) column-low column-low).number ≡ 102
  pub one-slice : is_slice (with (one_entry ∷ [])) ≡ true
  pub one-stands : holds one (grids_of (decode (with (one_entry ∷ []))).entries) ≡ true
  pub one-behind : less one (class_on (with (one_entry ∷ [])) zero) ≡ false
  pub late-line : equal (entry_at (grid_size (decode_shape (with (one_entry ∷ [])))) late 0).grid (class_on (with (one_entry ∷ [])) zero) ≡ false
  pub left-counted : count left-line ≡ 0
  pub left-room : (decode_shape (with (zero-entry ∷ []))).capacity ≡ 2
  pub left-unblank : equal (line_at (grid_size (decode_shape (with (zero-entry ∷ [])))) left-line 0) (blank_line (grid_size (decode_shape (with (zero-entry ∷ []))))) ≡ false
  pub none-sent : entries_in (decode (with [])) zero one ≡ 0
  pub empty-stated : (decode (with (empty-entry ∷ []))).entries ≡ empty-entry ∷ []
  pub empty-held : some_held no_holdings ≡ false
  -- questions
  pub full-asked : first_no (questions_of (with (one_entry ∷ zero-entry ∷ [])) (enter 2 zero)) ≡ 0
  pub held-asked : first_no (questions_of (with (zero-entry ∷ [])) (strike 1 zero)) ≡ 0
  pub most-passes : first_no (client_questions (decode_shape (with (most-entry ∷ []))) 1 zero) ≡ 0
  pub most-room : (question9 (decode (with (most-entry ∷ []))) (class_on (with (most-entry ∷ [])) zero)).answer ≡ true
  pub other-passes : first_no (client_questions (decode_shape (with (zero-entry ∷ []))) 2 zero) ≡ 0
  -- holdings
  pub most-held : held_in (with (most-entry ∷ [])) 1 (class_on (with (most-entry ∷ [])) zero) ≡ most_held
  pub most-gone : held_in (with []) 1 (class_on (with (most-entry ∷ [])) zero) ≡ 0
  pub twice-held : held_in (with (twice-entry ∷ [])) 1 (class_on (with (twice-entry ∷ [])) zero) ≡ 2
  pub twice-gone : held_in (with []) 1 (class_on (with (twice-entry ∷ [])) zero) ≡ 0
  pub shared-held : held_in (with (shared-entry ∷ [])) 1 (class_on (with (shared-entry ∷ [])) zero) ≡ 1
  pub shared-gone : holds (class_on (with (shared-entry ∷ [])) zero) (grids_of (decode (with [])).entries) ≡ false
  pub shared-first : eqb (first_holder (class_held (with (shared-entry ∷ [])) zero)) 2 ≡ false
  pub other_none : held_in (with (zero-entry ∷ [])) 2 (class_on (with (zero-entry ∷ [])) zero) ≡ 0
  pub other-stands : holds (class_on (with (zero-entry ∷ [])) zero) (grids_of (decode (with (zero-entry ∷ []))).entries) ≡ true
  -- the machine's step from the empty register
  pub zero-entered : step cell [] (enter 1 zero) ≡ record { number = 0; place = 1; next = zero-entry ∷ [] }

pub computed : Computed
unfolding tabulate numbers select every some occurrences flatten flat_map is_permutation words permutations rank leq less equal capped is_grid grid_of row permuted_row arrangement one_class arrangements lesser least_of least first_no in_range question1 question2 question3 question6 question7 question14 after_first ranks_within between in_bounds fillings grids_within obeyed keeps kept_values lowest_from lowest highest_from highest kept_low kept_high allperm question8 bounds_questions pruned_yes pruned lead field digit value_from value fields entry_width line_length entry_line blank_line head_line layout layout_length number_at count cells_of holdings_of holding changed entry_at decode_shape decode in_limits some_held is_holdings is_entry ascending is_register laid_out question5 question15 question16 grid_questions client_questions more fewer holds holdings_in held_by question9 place_in insert without enter_questions strike_questions terminal_enter_questions entries_in questions_of sorted shown step_unless put enter_class strike_class count_classes step question10 line_at held_in first_holder
computed = record {
  none-slice = refl;
  zero-slice = refl;
  both-slice = refl;
  shared-slice = refl;
  twice-slice = refl;
  most-slice = refl;
  column-slice = refl;
  column-none-slice = refl;
  none-laid = refl;
  nothing-unlaid = refl;
  cell-length = refl;
  none-counted = refl;
  zero-counted = refl;
  one-counted = refl;
  both-counted = refl;
  both-full = refl;
  zero-stands = refl;
  zero-lies = refl;
  column-stands = refl;
  column-class = refl;
  column-lies = refl;
  column-no-entry = refl;
  column-prunes = refl;
  one-slice = refl;
  one-stands = refl;
  one-behind = refl;
  late-line = refl;
  left-counted = refl;
  left-room = refl;
  left-unblank = refl;
  none-sent = refl;
  empty-stated = refl;
  empty-held = refl;
  full-asked = refl;
  held-asked = refl;
  most-passes = refl;
  most-room = refl;
  other-passes = refl;
  most-held = refl;
  most-gone = refl;
  twice-held = refl;
  twice-gone = refl;
  shared-held = refl;
  shared-gone = refl;
  shared-first = refl;
  other_none = refl;
  other-stands = refl;
  zero-entered = refl;
}

pub limits : InLimits cell
limits = record {
  grid-limits = record { rows-limits = (omega arith, omega arith); column-limits = (omega arith, omega arith); top-limit = omega arith };
  capacity-limits = (omega arith, omega arith);
}

pub column-limits : InLimits column
column-limits = record {
  grid-limits = record { rows-limits = (omega arith, omega arith); column-limits = (omega arith, omega arith); top-limit = omega arith };
  capacity-limits = (omega arith, omega arith);
}

-- ---- implementations that do one thing

abbrev pub always : ℕ → ℕ → (List ℕ → List ℕ) → Implementation
always k p w = record {
  opens = λ s b. placed k p (w b);
  enters = λ b c g. placed k p (w b);
  strikes = λ b c g. placed k p (w b);
  counts = λ b low high. placed k p (w b);
  terminal_enters = λ b c g. placed k p (w b);
}

abbrev pub plain : ℕ → ℕ → Implementation
plain k p = always k p (λ b. b)

abbrev pub entering : (List ℕ → ℕ → List ℕ → Outcome) → Implementation
entering f = record { opens = (plain 0 0).opens; enters = f; strikes = (plain 0 0).strikes; counts = (plain 0 0).counts; terminal_enters = (plain 0 0).terminal_enters }

abbrev pub striking-by : (List ℕ → ℕ → List ℕ → Outcome) → Implementation
striking-by f = record { opens = (plain 0 0).opens; enters = (plain 0 0).enters; strikes = f; counts = (plain 0 0).counts; terminal_enters = (plain 0 0).terminal_enters }

abbrev pub counting : (List ℕ → List ℕ → List ℕ → Outcome) → Implementation
counting f = record { opens = (plain 0 0).opens; enters = (plain 0 0).enters; strikes = (plain 0 0).strikes; counts = f; terminal_enters = (plain 0 0).terminal_enters }

abbrev pub entering-at-terminal : (List ℕ → ℕ → List ℕ → Outcome) → Implementation
entering-at-terminal f = record { opens = (plain 0 0).opens; enters = (plain 0 0).enters; strikes = (plain 0 0).strikes; counts = (plain 0 0).counts; terminal_enters = f }

-- ---- where open takes any bytes

pub none_left : (i : Implementation) (b : List ℕ) → left i b [] ≡ b
unfolding left
none_left i b = refl

module _ (i : Implementation) (s : Shape) (h : InLimits s) (b : List ℕ) (small : is_slice b ≡ true) (takes : i.opens s b ≡ placed 0 0 b) where
  abbrev pub any-reached : Reached i
  any-reached = record {
    shape = s;
    slice = b;
    shape-limits = h;
    slice-bytes = tested-bytes b small;
    opens = ap (λ (o : Outcome). o.number) takes;
    calls = [];
    calls-lent = tt;
    register = b;
    reached = sym (none_left i (i.opens s b).bytes ∙ ap (λ (o : Outcome). o.bytes) takes);
  }

  abbrev pub any-client : (c : ℕ) (g : List ℕ) → (ltb c 10000000 && is_slice g) ≡ true → ClientReached i
  any-client c g e = record {
    from = any-reached;
    client = c;
    grid = g;
    client-word = small_word c (ltb-true c 10000000 (and_yes (ltb c 10000000) (is_slice g) e).0);
    grid-bytes = tested-bytes g (and_yes (ltb c 10000000) (is_slice g) e).1;
  }

  abbrev pub any-bounds : (low high : List ℕ) → (is_slice low && is_slice high) ≡ true → BoundsReached i
  any-bounds low high e = record {
    from = any-reached;
    low = low;
    high = high;
    low-bytes = tested-bytes low (and_yes (is_slice low) (is_slice high) e).0;
    high-bytes = tested-bytes high (and_yes (is_slice low) (is_slice high) e).1;
  }

-- ---- where demand 3 is met

abbrev pub slice : List ℕ
slice = replicate (layout_length cell) 0

pub slice-bytes : Bytes slice
slice-bytes = bytes-replicate (layout_length cell) 0 (layout-short cell limits) (omega arith)

module _ (i : Implementation) (d : Demand3 i) where
  pub opening : i.opens cell slice ≡ placed 0 0 (with [])
  opening = d.opens cell slice limits slice-bytes (length-replicate (layout_length cell) 0)

  pub standing : (r : Reached i) → Standing i r.shape r.register
  standing r = subst (Standing i r.shape) (sym r.reached) (stands i d r.shape r.slice r.shape-limits r.slice-bytes r.opens r.calls r.calls-lent)

  pub first-enter : i.enters (with []) 1 zero ≡ placed 0 1 (with (zero-entry ∷ []))
  unfolding called outcome
  first-enter = follows-call i cell [] (follows-open i d cell limits) (enter 1 zero) (tested-call _ refl) ∙ ap (outcome cell) computed.zero-entered
