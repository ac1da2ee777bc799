use mathlib.Core.Path.{refl}
use mathlib.Core.Bool.{not}
use Prim.Native.Nat.{◌+◌, ◌*◌}
use native.Mathlib.Omega.{arith}
use lib.ListN.{get_or}
use lib.Dec.{eqb}
use Rattle.two_values.proofs.TableLaws.{column_place, column_apart, column-inside, row_place, row_apart, row_inside, table_none, table-cell, table-row, bit_byte, unbit-byte, byte-most, cell_bit, cell_unbit, columns-table, rows-table}
use Rattle.two_values.proofs.tables.TwoValuedGrid.new.Goals as goal

pub loop-i-init : goal.loop-i-init
loop-i-init c =
    let g = c.args.cells.now in (
      table_none column_place (cell_bit c.args.n g c.args.low) column_apart column-inside 0 _ _ (omega arith) refl,
      table_none row_place (cell_unbit c.args.n g c.args.low) row_apart row_inside 1 _ _ (omega arith) refl,
    )

pub loop-j-preserved : goal.loop-j-preserved
loop-j-preserved c =
    let l = c.loop-j in
    let e = eqb (get_or c.args.cells.now (c.loop-i.i * c.args.n + l.j) 0) c.args.low in (
      table-cell _ _ column_apart column-inside l.invariant.0 _ (omega arith) (omega arith) (omega arith) (byte-most (not e)) (bit_byte _ _),
      table-cell _ _ row_apart row_inside l.invariant.1 _ (omega arith) (omega arith) (omega arith) (byte-most e) (unbit-byte _ _),
    )

pub loop-i-preserved : goal.loop-i-preserved
loop-i-preserved c =
    let l = c.loop-j.invariant in
    (table-row _ _ column_apart column-inside l.0 (omega arith), table-row _ _ row_apart row_inside l.1 (omega arith))

pub invariant_of-result : goal.invariant_of-result
invariant_of-result c =
    let p = c.requires in
    let l = c.loop-i.invariant in
    record {
      tables = record {
        rows_fit = p.0;
        columns-fit = p.1;
        size = p.2;
        two = p.3;
        by-columns = columns-table _ _ _ _ c.loop-i.i _ (omega arith) (omega arith) l.0;
        by_rows = rows-table _ _ _ _ c.loop-i.i _ (omega arith) (omega arith) l.1;
      };
    }
