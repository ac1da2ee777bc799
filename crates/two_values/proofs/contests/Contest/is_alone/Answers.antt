-- `is_alone` meets its contract: a column's word has eight digits.
use Prim.Native.Nat.{◌+◌, ◌*◌, ◌<◌, ◌^◌}
use native.Mathlib.Omega.{arith}
use lib.Bits.{and_le_l}
use lib.ListN.{get_or}
use Rattle.two_values.proofs.PairSteps.{digit-small}
use Rattle.two_values.proofs.WordLaws.{word-less}
use Rattle.two_values.proofs.contests.Contest.is_alone.Goals as goal

pub overflow_add-result : goal.overflow_add-result
overflow_add-result c =
    let s = c.args.self.now in
    let first = get_or s.lows c.args.c 0 in
    let small : first < 2 ^ 8 = omega (arith, s.prepared.low-words c.args.c (omega arith), word-less 8 (λ r. get_or s.grid.now.rows (r * 16 + c.args.c) 0) (λ r b. s.prepared.tables.by_rows.bits (r * 16 + c.args.c))) in
    record { fits = omega (arith, small, and_le_l first (get_or s.lows c.args.d 0), digit-small 7 c.args.b, c.digit.ensures) }
