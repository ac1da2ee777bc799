-- `holding_after` meets its contract.
use Rattle.std.proofs.Common.{arith}
use Rattle.layout.specs.Layout.{holdings_of}
use Rattle.lines.proofs.HoldingLaws.{after-own, after-other}
use Rattle.lines.proofs.holdings.holding_after.Goals as goal

pub returns-then-other-client : goal.returns-then-other-client
returns-then-other-client c = let a = c.args in after-own a.size a.line.now a.client a.other a.left (omega arith) (omega arith) c.if-other-client.true

pub returns-else-other-client : goal.returns-else-other-client
returns-else-other-client c =
    let a = c.args in
    after-other (holdings_of a.size a.line.now) a.client a.other a.left (omega arith) (omega arith) c.if-other-client.false c.read_holding.ensures.0
