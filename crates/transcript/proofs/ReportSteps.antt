-- Printed lines are written.
--
--   report-written  ==  three fields, written one after another, and a line feed are a printed line, in front of what stood behind it
--   report-sized    ==  the slice keeps its length
use mathlib.Core.Path.{◌≡◌, sym, ◌∙◌}
use mathlib.Core.List.{List, [], ◌∷◌, ◌++◌}
use Prim.Native.Nat.{ℕ, ◌≤◌}
use lib.ListN.{length, drop, set}
use lib.Seq.{length_front, length-take-le}
use Rattle.layout.specs.Lines.{with_field}
use Rattle.lines.proofs.HeadLaws.{fields-written}
use Rattle.protocol.specs.Commands.{report}
use Rattle.protocol.proofs.ReportLaws.{length-report}

pub report-written : (l : List ℕ) {o p q : List ℕ} (k x n : ℕ) → 19 ≤ length l → o ≡ with_field 0 k l → p ≡ with_field 6 x o → q ≡ with_field 12 n p → set q 18 10 ≡ report k x n ++ drop 19 l
unfolding report
report-written l k x n z a b c = rw (c, b, a) (fields-written l (k ∷ x ∷ n ∷ []) z)

pub report-sized : (l : List ℕ) (k x n : ℕ) → 19 ≤ length l → length (report k x n ++ drop 19 l) ≡ length l
report-sized l k x n z = length_front l (report k x n) 19 (length-report k x n ∙ sym (length-take-le 19 l z))
