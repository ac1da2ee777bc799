-- `strike_least` meets its contract: the grid does not stand at its place, or it does.
use borrow.Author.Tests.{not-true, not-false}
use Rattle.calls.proofs.ValidSteps.{strike-none}
use Rattle.register.proofs.SoughtSteps.{sought}
use Rattle.register.proofs.striking.strike_least.Goals as goal

pub returns-then-not-is_entry : goal.returns-then-not-is_entry
returns-then-not-is_entry c =
    let t = c.is_entry in
    (strike-none c.requires.0 c.lower_bound-place.ensures t.ensures _ (not-true t.result c.if-not-is_entry.true-raw))

pub strike_held-requires : goal.strike_held-requires
strike_held-requires c =
    let a = c.requires in
    let t = c.is_entry in
    sought a.0 c.lower_bound-place.ensures t.ensures (not-false t.result c.if-not-is_entry.false-raw) (a.1, a.2)
