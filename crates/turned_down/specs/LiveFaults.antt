-- Readings of what a live class is that are not demand 3's.
--
--   Living          ==  ways to tell from calls and what an implementation answers to them whether a class is live
--   Judged          ==  an implementation that meets demand 3, lent calls after an open within the limits that answered 0, and a grid
--   tells f on      ==  what f tells of it
--   SaysLive f      ==  f tells what demand 3 does, of each
--   last_of e s was calls os  ==  whether the last accepted call of those that e and s pick is one that e picks; `was` where there is none
--   last_by_anyone i s b calls a  ==  the last accepted enter or strike of the class of a, by any client, is an enter
--   last_by_some i s b calls a    ==  so it is of some client's own
--   GoesBy g f      ==  where g tells what demand 3 does not, f tells what g does
--   live_faults  ==  going by the last call, of all clients or of each
use Rattle.std.specs.Prelude.{◌≡◌, List, [], ◌∷◌, Bool, true, false, not, ◌&&◌, ◌||◌, ℕ, length}
use Rattle.permutations.specs.Lists.{tabulate, some}
use Rattle.grids.specs.Lent.{Bytes}
use Rattle.layout.specs.Layout.{Shape, clients, grid_size}
use Rattle.calls.specs.Calls.{Outcome, accepted}
use Rattle.machine.specs.CallLists.{Call, Implementation, run}
use Rattle.machine.specs.Demand3.{enters_class, strikes_class, live, Demand3}
use Rattle.turned_down.specs.Faults.{Fault, fault}
use Rattle.turned_down.specs.RegisterFaults.{Reached}

abbrev pub Living : Type 0
Living = (i : Implementation) (s : Shape) (b : List ℕ) (calls : List Call) (a : List ℕ) → Bool

pub record Judged : Type 0 where
  pub implementation : Implementation
  pub meets : Demand3 implementation
  pub from : Reached implementation
  pub grid : List ℕ
  pub grid-bytes : Bytes grid
  pub grid-sized : length grid ≡ grid_size from.shape

abbrev pub tells : Living → Judged → Bool
tells f on = f on.implementation on.from.shape (on.implementation.opens on.from.shape on.from.slice).bytes on.from.calls on.grid

unfoldable pub SaysLive : Living → Type 0
SaysLive f = (on : Judged) → tells f on ≡ tells live on

unfoldable pub last_of : (Call → Bool) → (Call → Bool) → Bool → List Call → List Outcome → Bool
last_of e s was [] os = was
last_of e s was (c ∷ calls) [] = was
last_of e s was (c ∷ calls) (o ∷ os) = last_of e s (elim (accepted o.number) [ true ↦ e c || (was && not (s c)) | false ↦ was ]) calls os

unfoldable pub last_by_anyone : Living
last_by_anyone i s b calls a =
    last_of (λ c. some (λ k. enters_class s.rows s.columns a k c) (tabulate 1 clients (λ k. k)))
    (λ c. some (λ k. strikes_class s.rows s.columns a k c) (tabulate 1 clients (λ k. k))) false calls (run i b calls)

unfoldable pub last_by_some : Living
last_by_some i s b calls a =
    some (λ k. last_of (enters_class s.rows s.columns a k) (strikes_class s.rows s.columns a k) false calls (run i b calls)) (tabulate 1 clients (λ k. k))

pub record GoesBy (g f : Living) : Type 0 where
  pub on : Judged
  pub unlike : tells g on ≡ tells live on → ⊥
  pub tells-so : tells f on ≡ tells g on

-- ---- as a list

-- by what a live class is: by the last call, of all clients or of each
unfoldable pub live_faults : List Fault
live_faults = fault SaysLive (GoesBy last_by_anyone) ∷ fault SaysLive (GoesBy last_by_some) ∷ []
