-- `reached` meets its contract: a new best is the row order at hand; else the two row orders part where `parting` says.
use mathlib.Core.Path.{refl}
use Rattle.two_values.proofs.ReachedLaws.{reached-new, reached-copy}
use Rattle.two_values.proofs.SymmetryLaws.{symmetries-more}
use Rattle.two_values.proofs.search.reached.Goals as goal

pub returns-then-node : goal.returns-then-node
returns-then-node c =
    let e = c.requires.1 in
    rw e (reached-new _ _ _ _ _ _ _ _ _ _ (rw e at c.requires.0) c.if-node.true _ refl refl refl refl refl)

pub returns-then-found-lt4 : goal.returns-then-found-lt4
returns-then-found-lt4 c =
    let e = c.requires.1 in
    let s = rw e at c.requires.0 in
    let f = s.follows c.if-node.false in
    let k = c.keep.ensures in
    rw e (reached-copy _ _ _ _ _ _ _ _ _ _ s c.if-node.false _ refl refl refl (rw c.unwrap_or-found.ensures c.parting.ensures.in-common)
    (symmetries-more _ _ _ _ _ _ _ _ _ _ f.known.rows.whole s.rows.whole f.leading c.if-found-lt4.true k.0 k.1 s.symmetries c.carrying-map.ensures))

pub returns-else-found-lt4 : goal.returns-else-found-lt4
returns-else-found-lt4 c =
    let e = c.requires.1 in
    let s = rw e at c.requires.0 in
    rw e (reached-copy _ _ _ _ _ _ _ _ _ _ s c.if-node.false _ refl refl refl (rw c.unwrap_or-found.ensures c.parting.ensures.in-common) s.symmetries)
