-- `line_laid` meets its contract.
use mathlib.Core.Path.{sym, ◌∙◌}
use mathlib.Core.Bool.{true≢false}
use borrow.Author.Tests.{ne_eqb}
use native.Mathlib.Omega.{arith}
use Rattle.layout.proofs.LineLaws.{cells-inside}
use Rattle.scan.proofs.EntryLaws.{line-none, line-not, line-decides}
use Rattle.scan.proofs.LineLaws.{holdings-inside}
use Rattle.scan.proofs.entries.line_laid.Goals as goal
use Rattle.scan.proofs.entries.line_laid.Goals.{then-register-at-eq10, else-register-at-eq10}

pub holdings_laid-requires : goal.holdings_laid-requires
holdings_laid-requires c = omega (arith, holdings-inside c.args.tables.now.size)

pub cells_laid-requires : goal.cells_laid-requires
cells_laid-requires c =
    let t = c.args.tables.now in
    (omega (arith, t.few), omega (arith, cells-inside t.size))

pub returns-then-holdings_laid : goal.returns-then-holdings_laid
returns-then-holdings_laid c =
    let a = c.args in
    let n = c.line_length in
    elim c.if-register-at-eq10.branch [
      | then-register-at-eq10 w ↦
          line-decides a.tables.now a.register.now a.at n.result n.ensures.0 (λ i. omega (arith, c.type_inv.register i)) a.from c.cells_laid.result c.requires.0 c.requires.2 c.requires.3
          w.if-register-at-eq10.true (w.holdings_laid.ensures.0 (sym w.value-is ∙ c.if-holdings_laid.true)) c.cells_laid.ensures
      | else-register-at-eq10 w ↦ absurd (true≢false (sym c.if-holdings_laid.true ∙ w.value-is ∙ ne_eqb _ _ w.if-register-at-eq10.false))
    ]

pub returns-else-holdings_laid : goal.returns-else-holdings_laid
returns-else-holdings_laid c =
    let a = c.args in
    let n = c.line_length in
    elim c.if-register-at-eq10.branch [
      | then-register-at-eq10 w ↦
          rw c.if-holdings_laid.false
          (line-not a.tables.now a.register.now a.at n.result n.ensures.0 w.holdings_laid.result w.holdings_laid.ensures (sym w.value-is ∙ c.if-holdings_laid.false))
      | else-register-at-eq10 w ↦ rw c.if-holdings_laid.false (line-none a.tables.now a.register.now a.at n.result n.ensures.0 w.if-register-at-eq10.false)
    ]
