-- `cell` meets its contract: the value at the cell's index, and 0 past the end.
-- The index fits: a row number is at most 255 and there are at most 16 columns.
use mathlib.Core.Path.{sym}
use native.Mathlib.Nat.{mul-le-mul}
use native.Mathlib.Omega.{arith}
use lib.ListN.{get_or-eq_default}
use Rattle.grids.proofs.cells.cell.Goals as goal

pub overflow_mul-at : goal.overflow_mul-at
overflow_mul-at c =
    let a = c.args in
    omega (arith, mul-le-mul {n₁ = a.row.0} {m₁ = a.n} {n₂ = 255} {m₂ = 16} (omega arith) (omega arith))

pub overflow_add-at : goal.overflow_add-at
overflow_add-at c =
    let a = c.args in
    omega (arith, mul-le-mul {n₁ = a.row.0} {m₁ = a.n} {n₂ = 255} {m₂ = 16} (omega arith) (omega arith))

pub returns-else-at-grid : goal.returns-else-at-grid
returns-else-at-grid c = sym (get_or-eq_default c.args.grid.now 0 c.if-at-grid.false)
