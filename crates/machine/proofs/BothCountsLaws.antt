-- On a register reached by calls, bounds as sent and what prune leaves of them are counted alike.
--
--   shown-alike  ==  so it is on the machine's bytes
--   both-counts  ==  the statement, of every implementation that meets the calls' contracts
use mathlib.Core.Path.{◌≡◌, sym, ap, subst, ◌∙◌}
use mathlib.Core.List.{List, []}
use Prim.Native.Nat.{ℕ}
use Rattle.grids.specs.Lent.{Bytes}
use Rattle.bounds.proofs.PruneLaws.{pruned-is-bounds, bounds-bytes}
use Rattle.layout.specs.Layout.{Shape, Register, decode_shape, decode}
use Rattle.calls.specs.Calls.{placed, counted}
use Rattle.machine.specs.CallLists.{Implementation, Meets, left}
use Rattle.machine.specs.Machine.{shown}
use Rattle.machine.specs.Demand3.{pruned_for}
use Rattle.machine.specs.BothCounts.{CountsAlike, BothCounts}
use Rattle.calls.proofs.EntryLaws.{Entries}
use Rattle.machine.proofs.MachineLaws.{Good, register_of, reads, afterwards, afterwards-good, empty-good}
use Rattle.machine.proofs.CallListLaws.{shown-bytes}
use Rattle.machine.proofs.CountLaws.{counted-bounds, sent-bounds, counted-pruned, none_inside}
use Rattle.machine.proofs.Demand3Laws.{meets-plain}
use Rattle.machine.proofs.FollowLaws.{left-follows}

pub shown-alike : (i : Implementation) → Meets i → (s : Shape) (l : Entries) → Good s l → (low high : List ℕ) → Bytes low → Bytes high → CountsAlike i (shown s l) low high
unfolding decode register_of
shown-alike i h s l g low high x y = record {
  alike = rw states (λ z.
      let p = pruned_for s low high in
      let u = bounds-bytes s.rows s.columns s.top p.low p.high g.limits.grid-limits (pruned-is-bounds s.rows s.columns s.top low high z) in
      h.counts (shown s l) p.low p.high (shown-bytes s l g) u.0 u.1 ∙ counted-pruned s low high l g z ∙ sym (counted-bounds s l g low high (sent-bounds s low high z)) ∙ sym sent);
  zero = rw states (λ z. let n = none_inside s low high l g z in sent ∙ counted-bounds s l g low high n.0 ∙ ap (λ (k : ℕ). placed 0 k (shown s l)) n.1);
}
  where
    states : decode_shape (shown s l) ≡ s
    states = ap (λ (x : Register). x.shape) (reads s l g)

    sent : i.counts (shown s l) low high ≡ counted (shown s l) low high
    sent = h.counts (shown s l) low high (shown-bytes s l g) x y

pub both-counts : (i : Implementation) → Meets i → BothCounts i
unfolding BothCounts
both-counts i h s slice w x e calls lent low high y z =
    let p = meets-plain i h in
    let g = empty-good s w in
    subst (λ (b : List ℕ). CountsAlike i b low high)
    (sym (ap (λ (b : List ℕ). left i b calls) (p.starts s slice w x e) ∙ left-follows i s calls [] (p.answers s w) lent))
    (shown-alike i h s (afterwards s [] calls) (afterwards-good s calls [] g) low high y z)
