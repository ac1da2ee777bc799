use mathlib.Core.Path.{sym, ◌∙◌}
use native.Mathlib.Omega.{arith}
use Rattle.general_search.proofs.RepeatedRows.{rows-equal, rows-differ}
use Rattle.general_search.proofs.state.Search.equal_rows.Goals as goal

pub returns-then-x-y : goal.returns-then-x-y
returns-then-x-y c = rows-differ _ _ _ _ c.loop-j.j (omega arith) (λ e. c.if-x-y.true (c.cell-x.ensures ∙ e ∙ sym c.cell-y.ensures))

pub returns : goal.returns
returns c = rows-equal _ _ _ _ (λ j jn. c.loop-j.invariant j (omega arith))
