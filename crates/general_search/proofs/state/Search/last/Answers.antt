-- `last` meets its contract: with all rows placed the best is searched, and with one left that row is placed. Where it gives the best's
-- arrangement, the two row orders show a symmetry.
use mathlib.Core.Path.{◌≡◌}
use Prim.Native.Nat.{suc}
use native.Mathlib.Omega.{arith}
use Rattle.general_search.specs.Search.{IsSearched}
use Rattle.general_search.proofs.SearchLaws.{equal-not-greater, lesser-improves, lesser-lower, lesser-equal}
use Rattle.general_search.proofs.PlaceLaws.{placed-all, placed-last, outcome-searched, outcome-alike}
use Rattle.general_search.proofs.state.Search.last.Goals as goal
use Rattle.general_search.proofs.state.Search.last.Goals.{After-lesser-out}

pub returns-then-k-self : goal.returns-then-k-self
returns-then-k-self c =
    let s = c.requires.0 in
    let w = placed-all _ _ _ _ _ _ _ c.if-k-self.true s in
    (w, outcome-searched _ _ _ _ _ _ _ _ s.placed-fits w)

-- the row that is left is placed

one_left : (c : After-lesser-out) → suc c.args.branch.now.k ≡ c.args.self.now.m
one_left c = omega (arith, c.requires.0.placed-fits, c.requires.1, c.if-k-self.false)

placed : (c : After-lesser-out) → IsSearched c.args.self.now c.args.branch.now c.args.best c.lesser-out.result
placed c =
    let s = c.requires.0 in
    let next = c.candidate-next.ensures in
    let found = c.compare_at-found.ensures in
    let which = c.lesser-out.ensures in
    let i = lesser-improves _ _ _ _ _ _ _ _ _ _ _ s next (omega (arith, one_left c)) found which in
    let l = lesser-lower _ _ _ _ _ _ _ _ _ _ _ s next (omega (arith, one_left c)) found which in
    placed-last _ _ _ _ _ _ _ _ _ (one_left c) s next i l

pub returns-else-jumps : goal.returns-else-jumps
returns-else-jumps c =
    let w = placed ((goal.at.returns-else-jumps c).After-lesser-out) in
    (w, outcome-searched _ _ _ _ _ _ _ _ c.requires.0.placed-fits w)

pub returns-then-is_eq : goal.returns-then-is_eq
returns-then-is_eq c =
    let at = (goal.at.returns-then-is_eq c).After-lesser-out in
    let w = placed at in
    let next = c.candidate-next.ensures in
    let e = lesser-equal _ _ _ _ _ _ _ _ _ _ _ c.requires.0 next (omega (arith, one_left at)) c.compare_at-found.ensures c.lesser-out.ensures
    (equal-not-greater c.compare_at-found.result _ c.is_eq.ensures c.if-is_eq.true) in
    (w, outcome-alike _ _ _ _ _ _ _ _ _ _ (one_left at) c.if-jumps.true c.requires.0 next w e c.parting-back.ensures.in-common)
