-- The last call does not tell whether a class is live: demand 3 counts the accepted enters and strikes of each client.
--
--   by_two, by_one        ==  enters of one grid by two clients, and by one client twice, each with a strike by the first behind them
--   meets, opens, answers  ==  the calls as defined meet demand 3, so that they open and answer as the machine does
--   eight               ==  the clients
--   counted, last_of_all, last_of_each  ==  demand 3's way to tell from the answers whether the class is live, and the two by last calls
--   Computed, computed  ==  what the definitions give: the class is live, and the last call is a strike
--   judged              ==  the calls as defined, on a register of one cell, and the grid zero
--   differs             ==  a way to tell that goes by the answers, and tells otherwise on some calls, is not demand 3's
--   live-turned         ==  both faults
use mathlib.Core.Path.{◌≡◌, refl, sym, ap, ◌∙◌}
use mathlib.Core.List.{List, [], ◌∷◌, flat_map}
use mathlib.Core.Bool.{Bool, true, false, true≢false}
use Prim.Native.Nat.{ℕ}
use lib.Dec.{ltb}
use Rattle.permutations.specs.Lists.{All, tabulate, numbers, select, every, some, occurrences}
use Rattle.permutations.specs.Permutations.{is_permutation, words, permutations}
use Rattle.grids.specs.Order.{rank, leq, less, equal}
use Rattle.grids.specs.Grids.{capped, grid_of, arrangement, one_class}
use Rattle.grids.specs.Least.{arrangements, lesser, least_of, least}
use Rattle.grids.specs.Questions.{first_no, in_range, question6, question7}
use Rattle.grids.proofs.LentLaws.{tested-bytes}
use Rattle.layout.specs.Layout.{clients, holding, changed, some_held}
use Rattle.calls.specs.Entries.{more, fewer, holds, holdings_in, held_by, place_in, without, question15, grid_questions, client_questions, question10, question16, question9}
use Rattle.calls.specs.Calls.{Outcome, accepted}
use Rattle.machine.specs.CallLists.{Call, enter, strike, register_calls, LentCall, run, left}
use Rattle.machine.specs.Machine.{step_unless, put, enter_class, strike_class, step, outcome, outcomes}
use Rattle.machine.specs.Demand3.{enters_class, strikes_class, accepted_of, enters_of, strikes_of, live, Demand3}
use Rattle.machine.proofs.CallListLaws.{meets-own, tested-calls}
use Rattle.machine.proofs.Demand3Laws.{demand3}
use Rattle.machine.proofs.FollowLaws.{follows-open}
use Rattle.turned_down.specs.LiveFaults.{Living, Judged, tells, SaysLive, last_of, last_by_anyone, last_by_some, GoesBy, live_faults}
use Rattle.turned_down.specs.Faults.{fault, Turned}
use Rattle.turned_down.proofs.RegisterCases.{cell, zero, limits, slice, slice-bytes, opening}

abbrev by_two : List Call
by_two = enter 1 zero ∷ enter 2 zero ∷ strike 1 zero ∷ []

abbrev by_one : List Call
by_one = enter 1 zero ∷ enter 1 zero ∷ strike 1 zero ∷ []

meets : Demand3 register_calls
meets = demand3 register_calls meets-own

opens : (register_calls.opens cell slice).number ≡ 0
opens = ap (λ (o : Outcome). o.number) (opening register_calls meets)

answers : (calls : List Call) → All LentCall calls → run register_calls (register_calls.opens cell slice).bytes calls ≡ outcomes cell [] calls
answers calls lent = ap (λ (o : Outcome). run register_calls o.bytes calls) (opening register_calls meets) ∙ follows-open register_calls meets cell limits calls lent

-- the three ways to tell, from the answers
abbrev eight : List ℕ
eight = tabulate 1 clients (λ k. k)

abbrev counted : List Call → List Outcome → Bool
counted calls os = some (λ k. ltb (accepted_of (strikes_class 1 1 zero k) calls os) (accepted_of (enters_class 1 1 zero k) calls os)) eight

abbrev last_of_all : List Call → List Outcome → Bool
last_of_all calls os = last_of (λ c. some (λ k. enters_class 1 1 zero k c) eight) (λ c. some (λ k. strikes_class 1 1 zero k c) eight) false calls os

abbrev last_of_each : List Call → List Outcome → Bool
last_of_each calls os = some (λ k. last_of (enters_class 1 1 zero k) (strikes_class 1 1 zero k) false calls os) eight

record Computed : Type 0 where
  two-live : counted by_two (outcomes cell [] by_two) ≡ true
  two-last : last_of_all by_two (outcomes cell [] by_two) ≡ false
  one-live : counted by_one (outcomes cell [] by_one) ≡ true
  one_last : last_of_each by_one (outcomes cell [] by_one) ≡ false

computed : Computed
unfolding tabulate numbers select every some occurrences flat_map is_permutation words permutations rank leq less equal capped grid_of arrangement one_class arrangements lesser least_of least first_no in_range question6 question7 holding changed some_held more fewer holds holdings_in held_by place_in without question15 grid_questions client_questions accepted step_unless put enter_class strike_class step outcome outcomes enters_class strikes_class accepted_of last_of question9 question16 question10
computed = record { two-live = refl; two-last = refl; one-live = refl; one_last = refl }

-- the calls as defined, on a register of one cell, and the grid zero
abbrev judged : (calls : List Call) → All LentCall calls → Judged
judged calls lent = record {
  implementation = register_calls;
  meets = meets;
  from = record {
    shape = cell;
    slice = slice;
    shape-limits = limits;
    slice-bytes = slice-bytes;
    opens = opens;
    calls = calls;
    calls-lent = lent;
    register = left register_calls (register_calls.opens cell slice).bytes calls;
    reached = refl;
  };
  grid = zero;
  grid-bytes = tested-bytes zero refl;
  grid-sized = refl;
}

-- a way to tell that goes by the answers, and tells otherwise on some calls
differs : (g : Living) (t : List Call → List Outcome → Bool) (calls : List Call) (lent : All LentCall calls) →
    tells g (judged calls lent) ≡ t calls (run register_calls (register_calls.opens cell slice).bytes calls) → counted calls (outcomes cell [] calls) ≡ true → t calls (outcomes cell [] calls) ≡ false →
    Turned (fault SaysLive (GoesBy g))
unfolding SaysLive live enters_of strikes_of
differs g t calls lent by yes-live no_last = record {
  example = g;
  done = record {
    on = judged calls lent;
    unlike = λ e. true≢false (sym (ap (counted calls) (answers calls lent) ∙ yes-live) ∙ sym e ∙ by ∙ ap (t calls) (answers calls lent) ∙ no_last);
    tells-so = refl;
  };
  refused = λ f h d. h.unlike (sym h.tells-so ∙ d h.on);
}

pub live-turned : All Turned live_faults
unfolding live_faults last_by_anyone last_by_some
live-turned = (
  differs last_by_anyone last_of_all by_two (tested-calls by_two refl) refl computed.two-live computed.two-last,
  (
    differs last_by_some last_of_each by_one (tested-calls by_one refl) refl computed.one-live computed.one_last,
    tt,
  ),
)
