-- `within_limits` meets its contract.
use mathlib.Core.Path.{sym, ◌∙◌}
use borrow.Author.Tests.{leb-true, le-leb}
use Rattle.refusals.proofs.NumberLaws.{no-some, no-is, yes-is}
use Rattle.grids.proofs.QuestionLaws.{numbers-decide}
use Rattle.lines.proofs.AnswerLaws.{fails}
use Rattle.validation.proofs.question5.within_limits.Goals as goal

pub returns-in-Err : goal.returns-in-Err
returns-in-Err c =
    let e = c.in-Err.is in
    fails (λ w. no-some e (no-is e c.ask_numbers.ensures ∙ (numbers-decide _ _ _ _).1 (w.grid-limits, w.capacity-limits)))

pub returns-in-Ok : goal.returns-in-Ok
returns-in-Ok c =
    let h = (numbers-decide _ _ _ _).0 (sym (yes-is c.in-Ok.is c.ask_numbers.ensures)) in
    (λ y. record { grid-limits = h.0; capacity-limits = h.1; count_fits = leb-true _ _ y }, λ w. le-leb _ _ w.count_fits)
