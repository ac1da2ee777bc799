-- What demand 3 says of an implementation, call by call, from an open within the limits on.
--
--   after_open     ==  the statement about whole lists, from the machine's bytes for the empty set
--   Follows i s l  ==  from the machine's bytes for the set l on, whatever calls are made, i answers and leaves what the machine does
--   follows-open   ==  so it is after an open
--   follows-call   ==  then each call answers and leaves what the machine does
--   follows_next   ==  and so it is again after the call
--   follows-list   ==  and after any calls
--   left-follows   ==  so after calls it leaves the machine's bytes
--   lists-after    ==  the machine's set lists the live classes
use mathlib.Core.Path.{◌≡◌, refl, sym, ap, subst, ◌∙◌}
use mathlib.Core.List.{List, [], ◌∷◌}
use Prim.Native.Nat.{ℕ}
use native.Mathlib.Omega.{arith}
use lib.ListN.{replicate, length-replicate}
use Rattle.permutations.specs.Lists.{All}
use Rattle.grids.proofs.LentLaws.{bytes-replicate}
use Rattle.layout.specs.Layout.{Shape, grids_of, layout_length, InLimits}
use Rattle.layout.proofs.LayoutBytes.{layout-short}
use Rattle.calls.specs.Calls.{Outcome}
use Rattle.machine.specs.CallLists.{Call, Implementation, LentCall, called, run, left}
use Rattle.machine.specs.Machine.{shown, step, outcome, outcomes}
use Rattle.machine.specs.Demand3.{live, ListsLive, AfterOpen, Demand3}
use Rattle.calls.proofs.EntryLaws.{Entries}
use Rattle.machine.proofs.MachineLaws.{empty-good, afterwards, afterwards-good}
use Rattle.machine.proofs.LiveLaws.{live-machine, lists-held}

abbrev pub Follows : Implementation → Shape → Entries → Type 0
Follows i s l = (calls : List Call) → All LentCall calls → run i (shown s l) calls ≡ outcomes s l calls

module _ (i : Implementation) (d : Demand3 i) (s : Shape) (h : InLimits s) where
  pub after_open : (calls : List Call) → All LentCall calls → AfterOpen i s (shown s []) calls
  after_open calls lent =
      let z = bytes-replicate (layout_length s) 0 (layout-short s h) (omega arith) in
      let e = d.opens s (replicate (layout_length s) 0) h z (length-replicate (layout_length s) 0) in
      subst (λ (b : List ℕ). AfterOpen i s b calls) (ap (λ (o : Outcome). o.bytes) e) (d.follows s (replicate (layout_length s) 0) h z (ap (λ (o : Outcome). o.number) e) calls lent)

  pub follows-open : Follows i s []
  follows-open calls lent = (after_open calls lent).answers

  pub lists-after : (calls : List Call) → All LentCall calls → ListsLive s.rows s.columns (live i s (shown s []) calls) (grids_of (afterwards s [] calls))
  lists-after calls lent =
      lists-held s (afterwards s [] calls) (afterwards-good s calls [] (empty-good s h)) (live i s (shown s []) calls) (λ a z. live-machine i s (shown s []) calls (follows-open calls lent) (empty-good s h) a z)

module _ (i : Implementation) (s : Shape) (l : Entries) (f : Follows i s l) (c : Call) (lent : LentCall c) where
  pub follows-call : called i (shown s l) c ≡ outcome s (step s l c)
  unfolding run outcomes
  follows-call = let e = f (c ∷ []) (lent, tt) in cc

  pub follows_next : Follows i s (step s l c).next
  unfolding run outcomes outcome
  follows_next calls more = let e = f (c ∷ calls) (lent, more) in let o = follows-call in ap (λ (x : Outcome). run i x.bytes calls) (sym o) ∙ (cc)

pub follows-list : (i : Implementation) (s : Shape) (calls : List Call) (l : Entries) → All LentCall calls → Follows i s l → Follows i s (afterwards s l calls)
unfolding afterwards
follows-list i s [] l lent f = f
follows-list i s (c ∷ calls) l lent f = follows-list i s calls (step s l c).next lent.1 (follows_next i s l f c lent.0)

pub left-follows : (i : Implementation) (s : Shape) (calls : List Call) (l : Entries) → Follows i s l → All LentCall calls → left i (shown s l) calls ≡ shown s (afterwards s l calls)
unfolding left afterwards outcome
left-follows i s [] l f lent = refl
left-follows i s (c ∷ calls) l f lent =
    ap (λ (o : Outcome). left i o.bytes calls) (follows-call i s l f c lent.0) ∙ left-follows i s calls (step s l c).next (follows_next i s l f c lent.0) lent.1
