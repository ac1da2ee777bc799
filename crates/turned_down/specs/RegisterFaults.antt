-- Faults of programs for open, enter, strike and count. The first are against demand 3, then those against demand 1; the last, of count alone, are
-- against its contract, and against what joins the counts of bounds as sent and of what prune leaves. A fault is a call that can be lent, on which it happens;
-- refusing all is said of every such call.
--
--   Reached i            ==  a register reached by calls: an open within the limits that answered 0, and lent calls
--   BoundsReached i      ==  such a register, and bounds
--   kept_on r             ==  what prune answers and leaves of them, with its numbers
--   ClientReached i      ==  such a register, a client and a grid
--   answer_at i call on   ==  what i answers to the client's call of the grid there, call being enter, strike or terminal_enter
--   class_on b g          ==  the least grid of the class of g, by the numbers that the register b states
--   class_held b g        ==  the holdings of the class of g, as the bytes b state them
--   StoresFirst i        ==  a new plan is acknowledged and not stored, in a register that has one
--   FullUnlooked i       ==  an enter is refused by 9 in a full register, though its questions get a yes
--   NotHeldUnlooked i    ==  a strike is refused by 10, though its questions get a yes
--   InventsCount i       ==  after a new plan the count in line 1 is not one more
--   InventsCounts i      ==  a count of bounds is not that of the entries that lie in them
--   LeavesOutHighs i     ==  an entry lies in bounds whose lows are their highs, and is not counted
--   AnswersNone i        ==  a count answers 102 where prune does
--   CountsArrangements i ==  no entry lies in the bounds, an arrangement of one does, and some are counted
--   LeavesLastLine i     ==  after a strike a line behind the entries is not blank
--   AppendsEntries call i  ==  a new entry's place is behind the others, though one of them does not come before it
--   PlacesFromZero i     ==  the first entry's place is 0
--   Misplaces call i     ==  a new entry does not stand on the line that is its place
--   OpensNothing i       ==  every open is refused
--   EntersNothing i      ==  every enter is refused
--   OpensAnySlice i      ==  a slice that has not the exact length is accepted by open
--   RefusesOwnBytes i    ==  question 5 gets a no on a register reached by calls
--   Made                 ==  an open of a slice, or a call on a register
--   LentMade m, slice_of m, questions_in m, answer_to i m  ==  what it is lent, its slice, its questions, and what i answers
--   is_open, is_enter, is_strike, is_count, is_terminal_enter  ==  the kinds
--   MadeOf p             ==  a lent one of the kind p
--   first_no_of on         ==  the first no of its questions
--   Misses n p i         ==  where the first no is that of question n, another number is the answer
--   PlacesWith n p i     ==  there the place or count is not 0
--   WritesWith n p i     ==  there the slice's bytes are changed
--   is_no n q             ==  the question q has the number n and gets a no
--   AsksBefore m n p i   ==  question m is asked before question n: where both get a no, and those before n a yes, m is the answer
--   TurnsAway p i        ==  one whose questions all get a yes is refused
--   GrowsSlice p i       ==  the slice gets longer
--   CountWrites i        ==  a count changes the register's bytes
--   BoundsLent           ==  bytes and bounds that a count is lent
--   kept_of on            ==  what prune answers and leaves of the bounds, with the numbers that the bytes state
--   entries_sent on, entries_kept on  ==  how many entries lie in the bounds, and in what prune leaves of them
--   CountsPruned i       ==  a count prunes: it counts the entries in what prune leaves of the bounds, where that is another number
--   CountsNone i         ==  where prune says 102 a count is 0, though entries that no call can have written lie in the bounds
--   PrunesLentBounds f   ==  a count leaves the pruned bounds in low, or in high
--   CountsUnlike i       ==  on a register reached by calls bounds as sent and what prune leaves of them are counted as two numbers
--   CountsWith102 i      ==  on such a register prune says 102, and some entry is counted
--   refusal_faults p n    ==  a refusal by question n that is another, has a place, or changes bytes
--   asked_before p l      ==  for each pair of l, its first question asked before its second
--   book_faults, asking_faults, count_faults  ==  these, against demand 3, against demand 1, and those of count
use Rattle.std.specs.Prelude.{◌≡◌, Bool, true, false, not, ◌&&◌, ◌⊎◌, ℕ, suc, ◌-◌, ◌≤◌, ◌<◌, length, take, drop, eqb}
use mathlib.Core.List.{List, ◌∷◌, [], ◌++◌, flat_map, map}
use Rattle.permutations.specs.Lists.{All, some}
use Rattle.grids.specs.Order.{less}
use Rattle.grids.specs.Grids.{one_class}
use Rattle.grids.specs.Questions.{Question, first_no}
use Rattle.grids.specs.Lent.{Bytes, IsWord}
use Rattle.bounds.specs.Bounds.{in_bounds}
use Rattle.bounds.specs.Prune.{Pruned}
use Rattle.layout.specs.Layout.{Shape, grids_of, grid_size, blank_line, layout_length, count, entry_at, decode_shape, decode, InLimits, line_length, line_start}
use Rattle.calls.specs.Entries.{least_in, holds, holdings_in}
use Rattle.calls.specs.Calls.{Outcome, open_questions, entries_in, accepted}
use Rattle.machine.specs.CallLists.{Call, enter, strike, count_in, terminal_enter, Implementation, LentShape, LentCall, called, left, questions_of, Meets}
use Rattle.machine.specs.CountSlices.{CountProgram, MeetsCount}
use Rattle.machine.specs.Demand3.{pruned_for, Demand3}
use Rattle.machine.specs.Demand1.{Demand1}
use Rattle.machine.specs.BothCounts.{BothCounts}
use Rattle.turned_down.specs.Faults.{Fault, fault}

-- ---- registers reached by calls

pub record Reached (i : Implementation) : Type 0 where
  pub shape : Shape
  pub slice : List ℕ
  pub shape-limits : InLimits shape
  pub slice-bytes : Bytes slice
  pub opens : (i.opens shape slice).number ≡ 0
  pub calls : List Call
  pub calls-lent : All LentCall calls
  pub register : List ℕ
  pub reached : register ≡ left i (i.opens shape slice).bytes calls

pub record BoundsReached (i : Implementation) : Type 0 where
  pub from : Reached i
  pub low : List ℕ
  pub high : List ℕ
  pub low-bytes : Bytes low
  pub high-bytes : Bytes high

abbrev pub kept_on : {i : Implementation} → BoundsReached i → Pruned
kept_on r = pruned_for (decode_shape r.from.register) r.low r.high

pub record ClientReached (i : Implementation) : Type 0 where
  pub from : Reached i
  pub client : ℕ
  pub grid : List ℕ
  pub client-word : IsWord client
  pub grid-bytes : Bytes grid

abbrev pub answer_at : (i : Implementation) → (ℕ → List ℕ → Call) → ClientReached i → Outcome
answer_at i call on = called i on.from.register (call on.client on.grid)

abbrev pub class_on : List ℕ → List ℕ → List ℕ
class_on b g = least_in (decode_shape b) g

abbrev pub class_held : List ℕ → List ℕ → List ℕ
class_held b g = holdings_in (class_on b g) (decode b).entries

-- ---- by demand 3

pub record StoresFirst (i : Implementation) : Type 0 where
  pub on : ClientReached i
  pub some : 1 ≤ count on.from.register
  pub new : (answer_at i enter on).number ≡ 0
  pub kept : (answer_at i enter on).bytes ≡ on.from.register

pub record FullUnlooked (i : Implementation) : Type 0 where
  pub on : ClientReached i
  pub full : count on.from.register ≡ (decode_shape on.from.register).capacity
  pub asked : first_no (questions_of on.from.register (enter on.client on.grid)) ≡ 0
  pub refused : (answer_at i enter on).number ≡ 9

pub record NotHeldUnlooked (i : Implementation) : Type 0 where
  pub on : ClientReached i
  pub asked : first_no (questions_of on.from.register (strike on.client on.grid)) ≡ 0
  pub refused : (answer_at i strike on).number ≡ 10

pub record InventsCount (i : Implementation) : Type 0 where
  pub on : ClientReached i
  pub new : (answer_at i enter on).number ≡ 0
  pub other : count (answer_at i enter on).bytes ≡ suc (count on.from.register) → ⊥

pub record InventsCounts (i : Implementation) : Type 0 where
  pub on : BoundsReached i
  pub counted : (i.counts on.from.register on.low on.high).number ≡ 0
  pub other : (i.counts on.from.register on.low on.high).place ≡ entries_in (decode on.from.register) on.low on.high → ⊥

pub record LeavesOutHighs (i : Implementation) : Type 0 where
  pub from : Reached i
  pub bounds : List ℕ
  pub bounds-bytes : Bytes bounds
  pub entry : List ℕ
  pub stands : holds entry (grids_of (decode from.register).entries) ≡ true
  pub lies : in_bounds (grid_size (decode_shape from.register)) (decode_shape from.register).top bounds bounds entry ≡ true
  pub counted : (i.counts from.register bounds bounds).number ≡ 0
  pub none : (i.counts from.register bounds bounds).place ≡ 0

pub record AnswersNone (i : Implementation) : Type 0 where
  pub on : BoundsReached i
  pub none : (kept_on on).number ≡ 102
  pub answers : (i.counts on.from.register on.low on.high).number ≡ 102

pub record CountsArrangements (i : Implementation) : Type 0 where
  pub on : BoundsReached i
  pub none : entries_in (decode on.from.register) on.low on.high ≡ 0
  pub entry : List ℕ
  pub stands : holds entry (grids_of (decode on.from.register).entries) ≡ true
  pub arrangement : List ℕ
  pub one-class : one_class (decode_shape on.from.register).rows (decode_shape on.from.register).columns arrangement entry ≡ true
  pub lies : in_bounds (grid_size (decode_shape on.from.register)) (decode_shape on.from.register).top on.low on.high arrangement ≡ true
  pub counted : 1 ≤ (i.counts on.from.register on.low on.high).place

pub record LeavesLastLine (i : Implementation) : Type 0 where
  pub on : ClientReached i
  pub taken : (answer_at i strike on).number ≡ 0
  pub line : ℕ
  pub behind : count (answer_at i strike on).bytes ≤ line
  pub within : line < (decode_shape on.from.register).capacity
  pub unblank : take (line_length (grid_size (decode_shape on.from.register))) (drop (line_start (grid_size (decode_shape on.from.register)) line) (answer_at i strike on).bytes) ≡ blank_line (grid_size (decode_shape on.from.register)) → ⊥

pub record AppendsEntries (call : ℕ → List ℕ → Call) (i : Implementation) : Type 0 where
  pub on : ClientReached i
  pub new : (answer_at i call on).number ≡ 0
  pub entry : List ℕ
  pub stands : holds entry (grids_of (decode on.from.register).entries) ≡ true
  pub behind : less entry (class_on on.from.register on.grid) ≡ false
  pub last : (answer_at i call on).place ≡ suc (count on.from.register)

pub record PlacesFromZero (i : Implementation) : Type 0 where
  pub on : ClientReached i
  pub none : count on.from.register ≡ 0
  pub new : (answer_at i enter on).number ≡ 0
  pub first : (answer_at i enter on).place ≡ 0

pub record Misplaces (call : ℕ → List ℕ → Call) (i : Implementation) : Type 0 where
  pub on : ClientReached i
  pub new : (answer_at i call on).number ≡ 0
  pub elsewhere : (entry_at (grid_size (decode_shape on.from.register)) (answer_at i call on).bytes ((answer_at i call on).place - 1)).grid ≡ class_on on.from.register on.grid → ⊥

unfoldable pub OpensNothing : Implementation → Type 0
OpensNothing i = (s : Shape) (b : List ℕ) → LentShape s → Bytes b → (i.opens s b).number ≡ 0 → ⊥

unfoldable pub EntersNothing : Implementation → Type 0
EntersNothing i = (b : List ℕ) (c : ℕ) (g : List ℕ) → Bytes b → IsWord c → Bytes g → accepted (i.enters b c g).number ≡ false

pub record OpensAnySlice (i : Implementation) : Type 0 where
  pub shape : Shape
  pub slice : List ℕ
  pub shape-limits : InLimits shape
  pub slice-bytes : Bytes slice
  pub other : length slice ≡ layout_length shape → ⊥
  pub opens : (i.opens shape slice).number ≡ 0
  pub kept : length (i.opens shape slice).bytes ≡ length slice

pub record RefusesOwnBytes (i : Implementation) : Type 0 where
  pub from : Reached i
  pub call : Call
  pub call-lent : LentCall call
  pub refused : (called i from.register call).number ≡ 5

-- ---- by demand 1

pub data Made : Type 0 where
  opening : Shape → List ℕ → Made
  calling : List ℕ → Call → Made

unfoldable pub LentMade : Made → Type 0
LentMade (opening s b) = LentShape s × Bytes b
LentMade (calling b c) = Bytes b × LentCall c

abbrev pub slice_of : Made → List ℕ
slice_of (opening s b) = b
slice_of (calling b c) = b

abbrev pub questions_in : Made → List Question
questions_in (opening s b) = open_questions s b
questions_in (calling b c) = questions_of b c

abbrev pub answer_to : Implementation → Made → Outcome
answer_to i (opening s b) = i.opens s b
answer_to i (calling b c) = called i b c

abbrev pub is_open : Made → Bool
is_open (opening s b) = true
is_open (calling b c) = false

abbrev pub is_enter : Made → Bool
is_enter (opening s b) = false
is_enter (calling b (enter c g)) = true
is_enter (calling b (strike c g)) = false
is_enter (calling b (count_in low high)) = false
is_enter (calling b (terminal_enter c g)) = false

abbrev pub is_strike : Made → Bool
is_strike (opening s b) = false
is_strike (calling b (enter c g)) = false
is_strike (calling b (strike c g)) = true
is_strike (calling b (count_in low high)) = false
is_strike (calling b (terminal_enter c g)) = false

abbrev pub is_count : Made → Bool
is_count (opening s b) = false
is_count (calling b (enter c g)) = false
is_count (calling b (strike c g)) = false
is_count (calling b (count_in low high)) = true
is_count (calling b (terminal_enter c g)) = false

abbrev pub is_terminal_enter : Made → Bool
is_terminal_enter (opening s b) = false
is_terminal_enter (calling b (enter c g)) = false
is_terminal_enter (calling b (strike c g)) = false
is_terminal_enter (calling b (count_in low high)) = false
is_terminal_enter (calling b (terminal_enter c g)) = true

pub record MadeOf (p : Made → Bool) : Type 0 where
  pub made : Made
  pub kind : p made ≡ true
  pub lent : LentMade made

abbrev pub first_no_of : {p : Made → Bool} → MadeOf p → ℕ
first_no_of on = first_no (questions_in on.made)

pub record Misses (n : ℕ) (p : Made → Bool) (i : Implementation) : Type 0 where
  pub on : MadeOf p
  pub asked : first_no_of on ≡ n
  pub other : (answer_to i on.made).number ≡ n → ⊥

pub record PlacesWith (n : ℕ) (p : Made → Bool) (i : Implementation) : Type 0 where
  pub on : MadeOf p
  pub asked : first_no_of on ≡ n
  pub placed : (answer_to i on.made).place ≡ 0 → ⊥

pub record WritesWith (n : ℕ) (p : Made → Bool) (i : Implementation) : Type 0 where
  pub on : MadeOf p
  pub asked : first_no_of on ≡ n
  pub written : (answer_to i on.made).bytes ≡ slice_of on.made → ⊥

abbrev pub is_no : ℕ → Question → Bool
is_no n q = eqb q.number n && not q.answer

pub record AsksBefore (m n : ℕ) (p : Made → Bool) (i : Implementation) : Type 0 where
  pub on : MadeOf p
  pub asked : first_no_of on ≡ n
  pub also : some (is_no m) (questions_in on.made) ≡ true
  pub says : (answer_to i on.made).number ≡ m

pub record TurnsAway (p : Made → Bool) (i : Implementation) : Type 0 where
  pub on : MadeOf p
  pub asked : first_no_of on ≡ 0
  pub refused : accepted (answer_to i on.made).number ≡ false

pub record GrowsSlice (p : Made → Bool) (i : Implementation) : Type 0 where
  pub on : MadeOf p
  pub longer : length (slice_of on.made) < length (answer_to i on.made).bytes

pub record CountWrites (i : Implementation) : Type 0 where
  pub on : MadeOf is_count
  pub written : (answer_to i on.made).bytes ≡ slice_of on.made → ⊥

-- ---- by the contract of count

pub record BoundsLent : Type 0 where
  pub register : List ℕ
  pub low : List ℕ
  pub high : List ℕ
  pub register-bytes : Bytes register
  pub low-bytes : Bytes low
  pub high-bytes : Bytes high

abbrev pub kept_of : BoundsLent → Pruned
kept_of on = pruned_for (decode_shape on.register) on.low on.high

abbrev pub entries_sent : BoundsLent → ℕ
entries_sent on = entries_in (decode on.register) on.low on.high

abbrev pub entries_kept : BoundsLent → ℕ
entries_kept on = entries_in (decode on.register) (kept_of on).low (kept_of on).high

pub record CountsPruned (i : Implementation) : Type 0 where
  pub on : BoundsLent
  pub prunes : (kept_of on).number ≡ 0
  pub other : entries_kept on ≡ entries_sent on → ⊥
  pub counted : (i.counts on.register on.low on.high).number ≡ 0
  pub counts : (i.counts on.register on.low on.high).place ≡ entries_kept on

pub record CountsNone (i : Implementation) : Type 0 where
  pub on : BoundsLent
  pub none : (kept_of on).number ≡ 102
  pub other : entries_sent on ≡ 0 → ⊥
  pub counted : (i.counts on.register on.low on.high).number ≡ 0
  pub counts : (i.counts on.register on.low on.high).place ≡ 0

pub record PrunesLentBounds (f : CountProgram) : Type 0 where
  pub on : BoundsLent
  pub left-pruned : (((f on.register on.low on.high).low ≡ (kept_of on).low) × ((kept_of on).low ≡ on.low → ⊥))
      ⊎ (((f on.register on.low on.high).high ≡ (kept_of on).high) × ((kept_of on).high ≡ on.high → ⊥))

pub record CountsUnlike (i : Implementation) : Type 0 where
  pub on : BoundsReached i
  pub prunes : (kept_on on).number ≡ 0
  pub unlike : (i.counts on.from.register (kept_on on).low (kept_on on).high).place ≡ (i.counts on.from.register on.low on.high).place → ⊥

pub record CountsWith102 (i : Implementation) : Type 0 where
  pub on : BoundsReached i
  pub none : (kept_on on).number ≡ 102
  pub some : (i.counts on.from.register on.low on.high).place ≡ 0 → ⊥

-- ---- as a list

-- by demand 3: the first plan stored and the others only acknowledged, full or not held said unlooked, an invented count
unfoldable pub book_faults : List Fault
book_faults =
    fault Demand3 StoresFirst
    ∷ fault Demand3 FullUnlooked
    ∷ fault Demand3 NotHeldUnlooked
    ∷ fault Demand3 InventsCount
    ∷ fault Demand3 InventsCounts
    -- a count without the entries that have a cell at its high, with 102, or by arrangements of the entries
    ∷ fault Demand3 LeavesOutHighs
    ∷ fault Demand3 AnswersNone
    ∷ fault Demand3 CountsArrangements
    -- the last line left behind after a strike; lines and places
    ∷ fault Demand3 LeavesLastLine
    ∷ fault Demand3 (AppendsEntries enter)
    ∷ fault Demand3 PlacesFromZero
    ∷ fault Demand3 (Misplaces enter)
    -- refusing all, or too little, or one's own register
    ∷ fault Demand3 OpensNothing
    ∷ fault Demand3 EntersNothing
    ∷ fault Demand3 OpensAnySlice
    ∷ fault Demand3 RefusesOwnBytes
    ∷ []

unfoldable pub refusal_faults : (Made → Bool) → ℕ → List Fault
refusal_faults p n = fault Demand1 (Misses n p) ∷ fault Demand1 (PlacesWith n p) ∷ fault Demand1 (WritesWith n p) ∷ []

unfoldable pub asked_before : (Made → Bool) → List (ℕ × ℕ) → List Fault
asked_before p l = map (λ (q : ℕ × ℕ). fault Demand1 (AsksBefore q.0 q.1 p)) l

-- by demand 1: every question of open, enter, strike and count
unfoldable pub asking_faults : List Fault
asking_faults =
    flat_map (refusal_faults is_open) (1 ∷ 2 ∷ 3 ∷ 4 ∷ 6 ∷ [])
    ++ (flat_map (refusal_faults is_enter) (5 ∷ 6 ∷ 7 ∷ 15 ∷ 9 ∷ 16 ∷ [])
    ++ (flat_map (refusal_faults is_strike) (5 ∷ 6 ∷ 7 ∷ 15 ∷ 10 ∷ [])
    ++ (flat_map (refusal_faults is_count) (5 ∷ 6 ∷ 7 ∷ 8 ∷ [])
    -- the order of the questions
    ++ (asked_before is_open ((2, 1) ∷ (3, 2) ∷ (4, 3) ∷ (6, 4) ∷ [])
    ++ (asked_before is_enter ((6, 5) ∷ (7, 6) ∷ (15, 7) ∷ (9, 15) ∷ (16, 15) ∷ [])
    ++ (asked_before is_strike ((6, 5) ∷ (7, 6) ∷ (15, 7) ∷ (10, 15) ∷ [])
    ++ (asked_before is_count ((6, 5) ∷ (7, 6) ∷ (8, 7) ∷ [])
    ++ (
    -- refusing all, or one that passes its questions
    fault Demand1 OpensNothing
    ∷ fault Demand1 EntersNothing
    ∷ fault Demand1 (TurnsAway is_open)
    ∷ fault Demand1 (TurnsAway is_enter)
    ∷ fault Demand1 (TurnsAway is_strike)
    ∷ fault Demand1 (TurnsAway is_count)
    -- what a call writes
    ∷ fault Demand1 (GrowsSlice is_open)
    ∷ fault Demand1 (GrowsSlice is_enter)
    ∷ fault Demand1 (GrowsSlice is_strike)
    ∷ fault Demand1 (GrowsSlice is_count)
    ∷ fault Demand1 CountWrites
    ∷ []
    ))))))))

-- by the contract of count: entries that are no representatives counted in pruned bounds, or not at all with 102; the bounds that it is lent pruned
unfoldable pub count_faults : List Fault
count_faults =
    fault Meets CountsPruned
    ∷ fault Meets CountsNone
    ∷ fault MeetsCount PrunesLentBounds
    -- by both counts on a register reached by calls: two numbers, or an entry with 102
    ∷ fault BothCounts CountsUnlike
    ∷ fault BothCounts CountsWith102
    ∷ []
