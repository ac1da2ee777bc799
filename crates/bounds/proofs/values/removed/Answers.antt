use mathlib.Core.Path.{◌≡◌, ◌∙◌}
use Prim.Native.Nat.{◌≤◌}
use native.Mathlib.Omega.{arith}
use lib.ListN.{length}
use Rattle.bounds.proofs.PruneSteps.{removed-at-first, span-falls, cell-removed}
use Rattle.bounds.proofs.values.removed.Goals as goal
use Rattle.bounds.proofs.values.removed.Goals.{After-span-in-loop-k}

pub loop-k-init : goal.loop-k-init
loop-k-init c = record { few = omega arith; counted = λ top i. removed-at-first _ _ _ _ _ }

pub span-requires : goal.span-requires
span-requires c = c.requires.1.old.in_order c.loop-k.k (omega arith)

pub span-requires-in-loop-k : goal.span-requires-in-loop-k
span-requires-in-loop-k c = c.requires.1.new.in_order c.loop-k.k (omega arith)

-- the new span is no larger than the old, which is at most 16

falls : (c : After-span-in-loop-k) → (c.span-in-loop-k.result ≤ c.span.result) × (c.span.result ≤ 16)
falls c =
    span-falls _ _ _ _ _ _ c.requires.1 c.loop-k.k _ _ (omega arith) c.span.ensures c.span-in-loop-k.ensures

pub overflow_sub-count : goal.overflow_sub-count
overflow_sub-count c = (falls ((goal.at.overflow_sub-count c).After-span-in-loop-k)).0

pub overflow_add-count : goal.overflow_add-count
overflow_add-count c = omega (arith, falls ((goal.at.overflow_add-count c).After-span-in-loop-k))

pub loop-k-preserved : goal.loop-k-preserved
loop-k-preserved c =
    let l = c.loop-k in
    record {
      few = omega (arith, falls ((goal.at.loop-k-preserved c).After-span-in-loop-k), l.invariant.few);
      counted = λ top h. cell-removed _ top _ _ _ _ h l.k _ _ (omega arith) c.span.ensures c.span-in-loop-k.ensures _ (l.invariant.counted top h);
    }

pub returns : goal.returns
returns c top h =
    let i = c.loop-k.invariant in
    let e : c.loop-k.k ≡ length c.args.low.now = omega arith in
    i.counted top h ∙ rw e
