-- `by_bits` meets its contract. The loops' invariant: the cells before row r of column c are in the table.
use Rattle.std.proofs.Common.{◌+◌, ◌*◌}
use Rattle.search.proofs.TableLaws.{RunTo, bit_at}
use Rattle.search.proofs.tables.by_bits.Given as goal

abbrev pub invariant-loop-r : goal.invariant-loop-r
invariant-loop-r l = RunTo (bit_at l.levels l.lowest) (l.c * 8 + l.r) l.out

abbrev pub invariant-loop-c : goal.invariant-loop-c
invariant-loop-c l = RunTo (bit_at l.levels l.lowest) (l.c * 8) l.out
