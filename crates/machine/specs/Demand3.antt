-- Demand 3: one statement over whole lists of enter, strike, count and a terminal's enter after an open, refused ones included, about an
-- implementation of the calls. Slices are of bytes, and numbers machine words.
--
--   enters_class m n a k c, strikes_class m n a k c  ==  the call c is client k's enter, a terminal's or not, or its strike, of a grid of the class of a
--   accepted_of p calls os  ==  how many of the calls with the outcomes os are accepted ones of which p holds
--   enters_of i s b calls k a, strikes_of i s b calls k a  ==  client k's accepted enters and strikes of the class of a, from an open that left the bytes b
--   holding_of i s b calls k a  ==  its holding: accepted enters less accepted strikes
--   live i s b calls a   ==  the class of a is live: some client's accepted enters of it outnumber that client's accepted strikes
--   ListsLive m n live l ==  l lists the least grid of each live class once
--   pruned_for s low high ==  what prune answers and leaves of bounds, with the rows, columns and top of s
--   AfterOpen i s b calls  ==  what holds after the open left b and the calls were made
--   Demand3 i            ==  the demand
use Rattle.std.specs.Prelude.{◌≡◌, Bool, true, false, not, ◌&&◌, ◌↔◌, ℕ, suc, ◌-◌, ◌*◌, ◌≤◌, length, ltb, eqb}
use mathlib.Core.List.{List, [], ◌∷◌, ◌++◌, Memᴰ}
use Rattle.permutations.specs.Lists.{tabulate, select, every, some, All}
use Rattle.grids.specs.Grids.{one_class}
use Rattle.grids.specs.Least.{least}
use Rattle.grids.specs.Lent.{Bytes}
use Rattle.bounds.specs.Bounds.{IsBounds, in_bounds}
use Rattle.bounds.specs.Prune.{Pruned, pruned}
use Rattle.layout.specs.Layout.{Shape, clients, grid_size, layout_length, count, decode, InLimits}
use Rattle.calls.specs.Entries.{Once, least_in, held_by}
use Rattle.calls.specs.Calls.{Outcome, accepted}
use Rattle.machine.specs.CallLists.{Call, enter, strike, count_in, terminal_enter, Implementation, LentCall, run, left}
use Rattle.machine.specs.Machine.{shown, outcomes}

unfoldable pub enters_class : ℕ → ℕ → List ℕ → ℕ → Call → Bool
enters_class m n a k (enter c g) = eqb c k && one_class m n g a
enters_class m n a k (strike c g) = false
enters_class m n a k (count_in low high) = false
enters_class m n a k (terminal_enter c g) = eqb c k && one_class m n g a

unfoldable pub strikes_class : ℕ → ℕ → List ℕ → ℕ → Call → Bool
strikes_class m n a k (enter c g) = false
strikes_class m n a k (strike c g) = eqb c k && one_class m n g a
strikes_class m n a k (count_in low high) = false
strikes_class m n a k (terminal_enter c g) = false

unfoldable pub accepted_of : (Call → Bool) → List Call → List Outcome → ℕ
accepted_of p [] os = 0
accepted_of p (c ∷ calls) [] = 0
accepted_of p (c ∷ calls) (o ∷ os) = elim (p c && accepted o.number) [ true ↦ suc (accepted_of p calls os) | false ↦ accepted_of p calls os ]

unfoldable pub enters_of : Implementation → Shape → List ℕ → List Call → ℕ → List ℕ → ℕ
enters_of i s b calls k a = accepted_of (enters_class s.rows s.columns a k) calls (run i b calls)

unfoldable pub strikes_of : Implementation → Shape → List ℕ → List Call → ℕ → List ℕ → ℕ
strikes_of i s b calls k a = accepted_of (strikes_class s.rows s.columns a k) calls (run i b calls)

abbrev pub holding_of : Implementation → Shape → List ℕ → List Call → ℕ → List ℕ → ℕ
holding_of i s b calls k a = enters_of i s b calls k a - strikes_of i s b calls k a

unfoldable pub live : Implementation → Shape → List ℕ → List Call → List ℕ → Bool
live i s b calls a = some (λ k. ltb (strikes_of i s b calls k a) (enters_of i s b calls k a)) (tabulate 1 clients (λ k. k))

-- `exact` may speak of all lists of m times n numbers: one with a cell above top is no arrangement of a grid that a call accepted, so it is not live,
-- and its least arrangement is no grid of l
pub record ListsLive (m n : ℕ) (live : List ℕ → Bool) (l : List (List ℕ)) : Type 0 where
  pub exact : (a : List ℕ) → length a ≡ m * n → (live a ≡ true) ↔ Memᴰ (least m n a) l
  pub leasts : (r : List ℕ) → Memᴰ r l → (length r ≡ m * n) × (least m n r ≡ r)
  pub once : Once l

abbrev pub pruned_for : Shape → List ℕ → List ℕ → Pruned
pruned_for s low high = pruned s.rows s.columns s.top low high

-- `starts` and `answers`, for all lists, carry the demand; the fields after them follow from these by what the plain machine is, and say it in document 01's words
pub record AfterOpen (i : Implementation) (s : Shape) (b : List ℕ) (calls : List Call) : Type 0 where
  -- after the open the bytes are the machine's
  pub starts : b ≡ shown s []
  -- every call answers the machine's number and place or count, and leaves the machine's bytes
  pub answers : run i b calls ≡ outcomes s [] calls
  -- question 5 never gets a no
  pub laid : every (λ o. not (eqb o.number 5)) (run i b calls) ≡ true
  -- no call answers 102
  pub never-none : every (λ o. not (eqb o.number 102)) (run i b calls) ≡ true
  -- the live classes, by their least grids
  pub classes : List (List ℕ)
  pub lists : ListsLive s.rows s.columns (live i s b calls) classes
  -- the count is the number of live classes
  pub counts : count (left i b calls) ≡ length classes
  -- a count of bounds as sent counts the live classes whose least grid lies in them
  pub counts-sent : (low high : List ℕ) → Bytes low → Bytes high → accepted (i.counts (left i b calls) low high).number ≡ true →
      (i.counts (left i b calls) low high).place ≡ length (select (in_bounds (grid_size s) s.top low high) classes)
  -- a count of the bounds that prune leaves counts the live classes whose least grid lies in the bounds as sent
  pub counts-pruned : (low high : List ℕ) → (pruned_for s low high).number ≡ 0 →
      i.counts (left i b calls) (pruned_for s low high).low (pruned_for s low high).high
      ≡ record { number = 0; place = length (select (in_bounds (grid_size s) s.top low high) classes); bytes = left i b calls }
  -- wherever a count of bounds stands among the calls, it answers 0 and the number of classes that are live there and whose least grid lies in the bounds, and changes no byte
  pub counts-there : (before after : List Call) (low high : List ℕ) → calls ≡ before ++ (count_in low high ∷ after) → IsBounds (grid_size s) s.top low high →
      (there : List (List ℕ)) → ListsLive s.rows s.columns (live i s b before) there →
      run i b calls
      ≡ run i b before
      ++ (record { number = 0; place = length (select (in_bounds (grid_size s) s.top low high) there); bytes = left i b before } ∷ run i (left i b before) after)
  -- no client's accepted strikes of a class outnumber its accepted enters, and the bytes state what it holds: the accepted enters less the accepted strikes
  pub covered : (a : List ℕ) → length a ≡ grid_size s → (k : ℕ) → 1 ≤ k → k ≤ clients → strikes_of i s b calls k a ≤ enters_of i s b calls k a
  pub holdings : (a : List ℕ) → length a ≡ grid_size s → (k : ℕ) → 1 ≤ k → k ≤ clients → held_by k (least_in s a) (decode (left i b calls)).entries ≡ holding_of i s b calls k a
  -- two lists leave equal bytes exactly when every client's holding of every class is the same
  pub bytes-holdings : (slice' : List ℕ) → Bytes slice' → (i.opens s slice').number ≡ 0 → (calls' : List Call) → All LentCall calls' →
      (left i b calls ≡ left i (i.opens s slice').bytes calls')
      ↔ ((a : List ℕ) → length a ≡ grid_size s → (k : ℕ) → 1 ≤ k → k ≤ clients → holding_of i s b calls k a ≡ holding_of i s (i.opens s slice').bytes calls' k a)

pub record Demand3 (i : Implementation) : Type 0 where
  -- an open whose questions all get a yes answers 0 and place 0, and leaves the machine's bytes for the empty set
  pub opens : (s : Shape) (slice : List ℕ) → InLimits s → Bytes slice → length slice ≡ layout_length s → i.opens s slice ≡ record { number = 0; place = 0; bytes = shown s [] }
  -- whatever calls follow an open with such numbers that answered 0
  pub follows : (s : Shape) (slice : List ℕ) → InLimits s → Bytes slice → (i.opens s slice).number ≡ 0 → (calls : List Call) → All LentCall calls → AfterOpen i s (i.opens s slice).bytes calls
