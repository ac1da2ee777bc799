-- `count_pruned` meets its contract: the cells are parted into arrays and pruned there, and where prune's number is 0 their first elements are the
-- bounds of the count.
use mathlib.Core.Path.{◌≡◌, refl, ◌∙◌}
use lib.ListN.{length, take, replicate}
use native.Mathlib.Omega.{arith}
use lib.Seq.{take_at, length-take-le}
use Rattle.transcript.proofs.FieldLaws.{front_long}
use Rattle.transcript.proofs.CallSteps.{pruned-no, pruned-counted}
use Rattle.transcript.proofs.commands.count_pruned.Goals as goal

pub prune_parted-number-requires : goal.prune_parted-number-requires
prune_parted-number-requires c =
    let z = c.size-size.ensures in
    let l : length (take c.size-size.result (replicate 128 0)) ≡ c.size-size.result = length-take-le c.size-size.result (replicate 128 0) (omega arith) in
    (l ∙ z.0, refl, rw (l, z.0) c.requires)

pub returns-then-number-ne0 : goal.returns-then-number-ne0
returns-then-number-ne0 c = pruned-no _ _ _ _ _ c.prune_parted-number.ensures c.if-number-ne0.true

pub slice_bounds-count-end : goal.slice_bounds-count-end
slice_bounds-count-end c = front_long _ _ _ c.prune_parted-number.auto.low (omega arith)

pub slice_bounds-count-end-2 : goal.slice_bounds-count-end-2
slice_bounds-count-end-2 c = front_long _ _ _ c.prune_parted-number.auto.high (omega arith)

pub returns : goal.returns
returns c =
    let d = c.prune_parted-number in
    let x = c.into-found.ensures in
    let n = c.size-size.result in
    rw (x.0, x.1)
    (pruned-counted _ _ _ _ _ d.ensures c.if-number-ne0.false
    (take_at d.new.low _ n (d.auto.low ∙ length-take-le n _ (omega arith)))
    (take_at d.new.high _ n (d.auto.high ∙ length-take-le n _ (omega arith)))
    c.count.ensures)
