-- `words` meets its contract. The loops' invariant: words of so many digits, and of a digit more before `line`.
use Prim.Native.Nat.{◌+◌, ◌*◌}
use lib.ListN.{get_or}
use Rattle.two_values.proofs.WordLaws.{WordedTo}
use Rattle.two_values.proofs.words.words.Given as goal

abbrev pub invariant-loop-line : goal.invariant-loop-line
invariant-loop-line g l = WordedTo g.row.LINES (λ e t. get_or l.table (e * g.row.LINES + t) 0) l.digit l.line l.out

abbrev pub invariant-loop-digit : goal.invariant-loop-digit
invariant-loop-digit g l = WordedTo g.row.LINES (λ e t. get_or l.table (e * g.row.LINES + t) 0) l.digit 0 l.out
