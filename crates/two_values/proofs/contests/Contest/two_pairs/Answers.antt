-- `two_pairs` meets its contract.
use mathlib.Core.Path.{sym, ◌∙◌}
use mathlib.Core.Bool.{true≢false}
use native.Mathlib.Omega.{arith}
use borrow.Author.Tests.{eqb-true}
use Rattle.two_values.proofs.contests.Contest.two_pairs.Goals as goal
use Rattle.two_values.proofs.contests.Contest.two_pairs.Goals.{then-crossed, else-crossed}

pub returns-then-crossed-2 : goal.returns-then-crossed-2
returns-then-crossed-2 c e =
    elim c.if-crossed.branch [
      | then-crossed w ↦ record {
        first-crossed = c.crossed.ensures w.if-crossed.true;
        second-crossed = w.crossed-then-crossed.ensures (sym w.value-is ∙ c.if-crossed-2.true);
        first-apart = c.if-c-e.false;
        second-apart = c.if-d-f.false;
        words = omega (arith, eqb-true _ _ e);
      }
      | else-crossed w ↦ absurd (true≢false (sym c.if-crossed-2.true ∙ w.value-is ∙ w.if-crossed.false))
    ]
