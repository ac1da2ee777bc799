-- `count` meets its contract: question 5 gets a no, one of 6 to 8 does, or the entries in the bounds are counted.
use mathlib.Core.Path.{◌≡◌, refl, sym, ◌∙◌}
use mathlib.Core.Bool.{true}
use native.Mathlib.Omega.{arith}
use borrow.Author.Tests.{not-true}
use Rattle.refusals.proofs.NumberLaws.{handed-as, no-some, yes-is}
use Rattle.refusals.specs.Numbers.{asked_number}
use Rattle.bounds.specs.Pruning.{counting_count}
use Rattle.calls.specs.Calls.{placed, counted}
use Rattle.layout.specs.Layout.{laid_out}
use Rattle.calls.proofs.CountSteps.{count-unlaid, count_no, count-made}
use Rattle.register.proofs.AskSteps.{laid-yes, laid-head, head-size, head-valid}
use Rattle.register.proofs.CountSteps.{count-ready, count_small}
use Rattle.register.proofs.counts.count.Goals as goal
use Rattle.register.proofs.counts.count.Goals.{Else-not-is_laid_out}

pub returns-then-not-is_laid_out : goal.returns-then-not-is_laid_out
returns-then-not-is_laid_out c = let t = c.is_laid_out in count-unlaid _ _ _ (sym t.ensures ∙ not-true t.result c.if-not-is_laid_out.true-raw)

-- past question 5

laid : (c : Else-not-is_laid_out) →
    let a = c.args in
    laid_out a.register.now ≡ true
laid c = laid-yes _ c.is_laid_out.ensures c.if-not-is_laid_out.false-raw

pub read_head-head-requires : goal.read_head-head-requires
read_head-head-requires c = laid-head _ (laid ((goal.at.read_head-head-requires c).Else-not-is_laid_out))

pub overflow_mul-head : goal.overflow_mul-head
overflow_mul-head c = omega (arith, head-size (laid ((goal.at.overflow_mul-head c).Else-not-is_laid_out)) c.read_head-head.ensures)

pub returns-in_err-ask_bounds : goal.returns-in_err-ask_bounds
returns-in_err-ask_bounds c =
    let e = c.in_err-ask_bounds in
    let a = c.args in
    handed-as (λ r. placed (asked_number r) (counting_count r) a.register.now ≡ counted a.register.now a.low.now a.high.now) _ _ c.from_residual.ensures
    (count_no _ _ _ (laid ((goal.at.returns-in_err-ask_bounds c).Else-not-is_laid_out)) c.read_head-head.ensures.shape e.ensures (no-some e.was))

pub count_within-requires : goal.count_within-requires
count_within-requires c =
    count-ready (laid ((goal.at.count_within-requires c).Else-not-is_laid_out)) c.read_head-head.ensures _ _ (yes-is c.in_ok-ask_bounds.was c.ask_bounds.ensures) refl

pub overflow_cast-result : goal.overflow_cast-result
overflow_cast-result c = omega (arith, count_small (head-valid (laid ((goal.at.overflow_cast-result c).Else-not-is_laid_out)) c.read_head-head.ensures) _ c.count_within.ensures)

pub returns : goal.returns
returns c =
    count-made _ _ _ (laid ((goal.at.returns c).Else-not-is_laid_out)) c.read_head-head.ensures.shape (yes-is c.in_ok-ask_bounds.was c.ask_bounds.ensures) refl c.count_within.ensures
