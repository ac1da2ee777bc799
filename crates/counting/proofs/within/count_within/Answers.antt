use mathlib.Core.Path.{◌∙◌}
use native.Mathlib.Omega.{arith}
use Rattle.calls.proofs.ValidLaws.{valid-sizes}
use Rattle.counting.proofs.CountLaws.{Room, parts-fit, bounds-ordered, counting-none, counting-room, counting-next, counting-all, one-yes, one-no}
use Rattle.counting.proofs.within.count_within.Goals as goal
use Rattle.counting.proofs.within.count_within.Goals.{After-line_start-from, then-line_within, else-line_within}
use lib.ListN.{length}

pub new-tables-requires : goal.new-tables-requires
new-tables-requires c = let p = c.requires in bounds-ordered p.0 p.1

pub loop-e-init : goal.loop-e-init
loop-e-init c = counting-none c.requires.0

pub line_start-from-requires : goal.line_start-from-requires
line_start-from-requires c = let z = valid-sizes c.requires.0 in (z.cells_fit, omega (arith, z.count_fits, z.capacity-fits))

room : (c : After-line_start-from) → Room (length c.args.low.now) c.loop-e.found c.line_start-from.result (length c.args.register.now)
room c = counting-room c.requires.0 c.line_start-from.ensures.0 c.loop-e.invariant (omega arith)

pub overflow_mul-end : goal.overflow_mul-end
overflow_mul-end c = omega (arith, (valid-sizes c.requires.0).cells_fit)

pub overflow_add-end : goal.overflow_add-end
overflow_add-end c = let r = room ((goal.at.overflow_add-end c).After-line_start-from) in omega (arith, r.small, r.wider)

pub slice_bounds-line_within-end : goal.slice_bounds-line_within-end
slice_bounds-line_within-end c = let r = room ((goal.at.slice_bounds-line_within-end c).After-line_start-from) in omega (arith, r.inside, r.wider)

pub slice_bounds-line_within-end-in-loop-e : goal.slice_bounds-line_within-end-in-loop-e
slice_bounds-line_within-end-in-loop-e c = let r = room ((goal.at.slice_bounds-line_within-end-in-loop-e c).After-line_start-from) in omega (arith, r.inside, r.wider)

pub overflow_add-found : goal.overflow_add-found
overflow_add-found c = let r = room ((goal.at.overflow_add-found c).After-line_start-from) in omega (arith, r.few)

pub line_within-requires : goal.line_within-requires
line_within-requires c = parts-fit _ _ _ _ (room ((goal.at.line_within-requires c).After-line_start-from))

pub loop-e-preserved : goal.loop-e-preserved
loop-e-preserved c =
    let p = c.requires in
    elim c.if-line_within.branch [
      | then-line_within w ↦ counting-next p.0 _ c.line_start-from.ensures.0 c.loop-e.invariant (omega arith) p.1 c.new-tables.ensures c.line_within.ensures (w.found-is ∙ one-yes _ w.if-line_within.true)
      | else-line_within w ↦ counting-next p.0 _ c.line_start-from.ensures.0 c.loop-e.invariant (omega arith) p.1 c.new-tables.ensures c.line_within.ensures (w.found-is ∙ one-no _ w.if-line_within.false)
    ]

pub returns : goal.returns
returns c = counting-all c.requires.0 c.loop-e.invariant (omega arith)
