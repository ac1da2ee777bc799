use Rattle.std.proofs.Common.{arith}
use Rattle.layout.specs.Layout.{holdings_of, changed}
use Rattle.lines.proofs.HoldingLaws.{length-after, none-next, none-all, one-held}
use Rattle.lines.proofs.holdings.still_held.Goals as goal

pub returns-then-holding_after-gt0 : goal.returns-then-holding_after-gt0
returns-then-holding_after-gt0 c =
    let a = c.args in
    one-held (changed a.client a.left (holdings_of a.size a.line.now)) c.loop-other.other c.holding_after.ensures c.if-holding_after-gt0.true (omega arith) (omega arith) (length-after a.size a.line.now a.client a.left)

pub loop-other-preserved : goal.loop-other-preserved
loop-other-preserved c = (omega arith, none-next _ c.loop-other.invariant.1 c.holding_after.ensures c.if-holding_after-gt0.false)

pub returns : goal.returns
returns c = let a = c.args in none-all c.loop-other.invariant.1 (omega arith) (length-after a.size a.line.now a.client a.left)
