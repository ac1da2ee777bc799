-- `prune` meets its contract: a refusal has the number of the first no; past the questions the rows are narrowed in copies,
-- and where some grid has allperm the copies are the new bounds.
use mathlib.Core.Path.{◌≡◌, sym}
use native.Mathlib.Omega.{arith}
use lib.Seq.{length-take-le}
use Rattle.refusals.proofs.NumberLaws.{no-some}
use Rattle.grids.specs.Questions.{first_no}
use Rattle.grids.proofs.QuestionLaws.{size_fits}
use Rattle.grids.proofs.QuestionSteps.{passed}
use Rattle.bounds.specs.Prune.{prune_questions, pruned_to}
use Rattle.bounds.specs.Pruning.{pruning_number, pruning_count}
use Rattle.bounds.specs.Demand2.{Prunes}
use Rattle.bounds.proofs.PruneSteps.{prune-limits-no, prune-bounds-no, prune-passed, refused-as, prune-size, narrow-ready, prune-none, Wrote, removed-ready, sizes-fit, prune-some}
use Rattle.bounds.proofs.prune.prune.Goals as goal
use Rattle.bounds.proofs.prune.prune.Goals.{Else-not-narrow, In_ok-ask_bounds}

pub returns-in_err-ask_limits : goal.returns-in_err-ask_limits
returns-in_err-ask_limits c =
    let e = c.in_err-ask_limits in
    refused-as (λ r. Prunes c.args.m c.args.n c.args.top c.args.low.now c.args.high.now (pruned_to (pruning_number r) (pruning_count r) c.args.low.now c.args.high.now))
    _ _ c.from_residual.ensures (prune-limits-no _ _ _ _ _ _ e.ensures (no-some e.was))

pub overflow_mul-size : goal.overflow_mul-size
overflow_mul-size c = let l = passed _ _ _ c.in_ok-ask_limits.was c.ask_limits.ensures in omega (arith, size_fits _ _ l.rows-limits.1 l.column-limits.1)

pub returns-in_err-ask_bounds : goal.returns-in_err-ask_bounds
returns-in_err-ask_bounds c =
    let e = c.in_err-ask_bounds in
    refused-as (λ r. Prunes c.args.m c.args.n c.args.top c.args.low.now c.args.high.now (pruned_to (pruning_number r) (pruning_count r) c.args.low.now c.args.high.now))
    _ _ c.from_residual-in_err-ask_bounds.ensures (prune-bounds-no _ _ _ _ _ (passed _ _ _ c.in_ok-ask_limits.was c.ask_limits.ensures) _ e.ensures (no-some e.was))

-- past the questions

asked : (c : In_ok-ask_bounds) →
    let a = c.args in
    first_no (prune_questions a.m a.n a.top a.low.now a.high.now) ≡ 0
asked c = prune-passed _ _ _ _ _ c.in_ok-ask_limits.was c.ask_limits.ensures c.in_ok-ask_bounds.was c.ask_bounds.ensures

pub slice_bounds-lows-end : goal.slice_bounds-lows-end
slice_bounds-lows-end c = prune-size _ _ _ _ _ (asked ((goal.at.slice_bounds-lows-end c).In_ok-ask_bounds))

pub slice_bounds-lows-end-2 : goal.slice_bounds-lows-end-2
slice_bounds-lows-end-2 c = sym (length-take-le _ _ (prune-size _ _ _ _ _ (asked ((goal.at.slice_bounds-lows-end-2 c).In_ok-ask_bounds))))

pub slice_bounds-highs-end : goal.slice_bounds-highs-end
slice_bounds-highs-end c = prune-size _ _ _ _ _ (asked ((goal.at.slice_bounds-highs-end c).In_ok-ask_bounds))

pub slice_bounds-highs-end-2 : goal.slice_bounds-highs-end-2
slice_bounds-highs-end-2 c = sym (length-take-le _ _ (prune-size _ _ _ _ _ (asked ((goal.at.slice_bounds-highs-end-2 c).In_ok-ask_bounds))))

pub narrow-requires : goal.narrow-requires
narrow-requires c =
    let q = asked ((goal.at.narrow-requires c).In_ok-ask_bounds) in
    narrow-ready _ _ _ _ _ q _ _ (length-take-le _ _ (prune-size _ _ _ _ _ q)) (length-take-le _ _ (prune-size _ _ _ _ _ q))

pub returns-then-not-narrow : goal.returns-then-not-narrow
returns-then-not-narrow c =
    prune-none _ _ _ _ _ (asked ((goal.at.returns-then-not-narrow c).In_ok-ask_bounds)) c.narrow.result _ _ c.narrow.ensures c.if-not-narrow.true

-- past narrow: the lists that it leaves

wrote : (c : Else-not-narrow) →
    let a = c.args in
    first_no (prune_questions a.m a.n a.top a.low.now a.high.now) ≡ 0 → Wrote a.m a.n a.top a.low.now a.high.now c.narrow.new.lows c.narrow.new.highs
wrote c e = record { asked = e; narrowed = c.if-not-narrow.ensures }

pub removed-count-requires : goal.removed-count-requires
removed-count-requires c = removed-ready (wrote ((goal.at.removed-count-requires c).Else-not-narrow) (asked ((goal.at.removed-count-requires c).In_ok-ask_bounds)))

pub copy_from_slice-requires : goal.copy_from_slice-requires
copy_from_slice-requires c = (sizes-fit (wrote ((goal.at.copy_from_slice-requires c).Else-not-narrow) (asked ((goal.at.copy_from_slice-requires c).In_ok-ask_bounds)))).0

pub copy_from_slice-requires-2 : goal.copy_from_slice-requires-2
copy_from_slice-requires-2 c = (sizes-fit (wrote ((goal.at.copy_from_slice-requires-2 c).Else-not-narrow) (asked ((goal.at.copy_from_slice-requires-2 c).In_ok-ask_bounds)))).1

pub returns : goal.returns
returns c =
    rw (c.copy_from_slice.ensures.after, c.copy_from_slice-2.ensures.after) (prune-some (wrote ((goal.at.returns c).Else-not-narrow) (asked ((goal.at.returns c).In_ok-ask_bounds))) c.removed-count.ensures)
