-- Faults of programs for a terminal's enter. A fault is a call that can be lent, on which it happens.
--
--   EnterRefuses5Rows i   ==  a terminal's enter that passes its questions is refused by 14 on a register of 5 rows
--   StoresAsSent i        ==  a terminal's enter stores the grid as it was sent, and not the least of its class
--   OnlyAcknowledges i    ==  it acknowledges a new plan and stores nothing
--   EntersTwice i         ==  it answers 0 to a class that is held
--   DiffersWith m i       ==  on a register of m rows a terminal's enter answers or leaves what enter does not
--   terminal_enter_faults  ==  these, and those that it may have as enter may, each against a contract
use Rattle.std.specs.Prelude.{◌≡◌, true, false, ℕ}
use mathlib.Core.List.{List, [], ◌∷◌, ◌++◌, flat_map, map}
use Rattle.permutations.specs.Lists.{tabulate}
use Rattle.grids.specs.Order.{equal}
use Rattle.grids.specs.Questions.{first_no}
use Rattle.layout.specs.Layout.{grids_of, decode_shape, decode}
use Rattle.calls.specs.Entries.{holds}
use Rattle.machine.specs.CallLists.{enter, terminal_enter, Implementation, questions_of, EnterAlike}
use Rattle.machine.specs.Demand1.{Demand1}
use Rattle.machine.specs.Demand3.{Demand3}
use Rattle.turned_down.specs.Faults.{Fault, fault}
use Rattle.turned_down.specs.RegisterFaults.{ClientReached, answer_at, class_on, AppendsEntries, Misplaces, is_terminal_enter, TurnsAway, GrowsSlice, refusal_faults, asked_before}
use Rattle.turned_down.specs.HoldingFaults.{ClientLent, answer_of}

pub record EnterRefuses5Rows (i : Implementation) : Type 0 where
  pub on : ClientLent
  pub rows : (decode_shape on.register).rows ≡ 5
  pub asked : first_no (questions_of on.register (terminal_enter on.client on.grid)) ≡ 0
  pub refused : (answer_of i terminal_enter on).number ≡ 14

pub record StoresAsSent (i : Implementation) : Type 0 where
  pub on : ClientReached i
  pub new : (answer_at i terminal_enter on).number ≡ 0
  pub unordered : equal (class_on on.from.register on.grid) on.grid ≡ false
  pub stored : holds on.grid (grids_of (decode (answer_at i terminal_enter on).bytes).entries) ≡ true

pub record OnlyAcknowledges (i : Implementation) : Type 0 where
  pub on : ClientReached i
  pub new : (answer_at i terminal_enter on).number ≡ 0
  pub kept : (answer_at i terminal_enter on).bytes ≡ on.from.register

pub record EntersTwice (i : Implementation) : Type 0 where
  pub on : ClientReached i
  pub held : holds (class_on on.from.register on.grid) (grids_of (decode on.from.register).entries) ≡ true
  pub new : (answer_at i terminal_enter on).number ≡ 0

pub record DiffersWith (m : ℕ) (i : Implementation) : Type 0 where
  pub on : ClientLent
  pub rows : (decode_shape on.register).rows ≡ m
  pub unlike : answer_of i terminal_enter on ≡ answer_of i enter on → ⊥

-- ---- as a list

-- by demand 1 of a terminal's enter: every question, their order, 14 for 5 rows, and what it writes
unfoldable pub terminal_enter_faults : List Fault
terminal_enter_faults =
    flat_map (refusal_faults is_terminal_enter) (5 ∷ 14 ∷ 6 ∷ 7 ∷ 15 ∷ 9 ∷ 16 ∷ [])
    ++ (asked_before is_terminal_enter ((14, 5) ∷ (6, 14) ∷ (7, 6) ∷ (15, 7) ∷ (9, 15) ∷ (16, 15) ∷ [])
    ++ (
    fault Demand1 (TurnsAway is_terminal_enter)
    ∷ fault Demand1 EnterRefuses5Rows
    ∷ fault Demand1 (GrowsSlice is_terminal_enter)
    -- by demand 3 of lists with a terminal's enter: stored under another order, at another place, not at all, twice
    ∷ fault Demand3 StoresAsSent
    ∷ fault Demand3 (AppendsEntries terminal_enter)
    ∷ fault Demand3 (Misplaces terminal_enter)
    ∷ fault Demand3 OnlyAcknowledges
    ∷ fault Demand3 EntersTwice
    -- by what joins both enters: a difference on a register of 1 to 5 rows
    ∷ map (λ (m : ℕ). fault EnterAlike (DiffersWith m)) (tabulate 1 5 (λ m. m))
    ))
