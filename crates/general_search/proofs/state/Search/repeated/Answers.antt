use mathlib.Core.Path.{sym}
use mathlib.Core.Bool.{true≢false}
use native.Mathlib.Omega.{arith}
use Rattle.general_search.proofs.RepeatedRows.{none-next}
use Rattle.general_search.proofs.state.Search.repeated.Goals as goal

pub returns-then-equal_rows : goal.returns-then-equal_rows
returns-then-equal_rows c =
    let l = c.loop-s in
    record {
      found = λ z. (l.s, omega arith, omega arith, rw (c.number.ensures, c.number-row.ensures) at (c.equal_rows.ensures.0 c.if-equal_rows.true));
      none = λ z. absurd (true≢false z);
    }

pub loop-s-preserved : goal.loop-s-preserved
loop-s-preserved c =
    let l = c.loop-s in
    let e = rw (c.number.ensures, c.number-row.ensures) at c.equal_rows.ensures in
    none-next _ _ _ _ _ l.s _ e c.if-equal_rows.false l.invariant

pub returns : goal.returns
returns c =
    let l = c.loop-s in
    record { found = λ e. absurd (true≢false (sym e)); none = λ e s ks st. l.invariant s ks (omega arith) }
