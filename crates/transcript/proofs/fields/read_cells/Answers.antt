use mathlib.Core.Path.{◌≡◌, sym, ◌∙◌}
use mathlib.Core.Bool.{true≢false}
use Prim.Native.Nat.{◌+◌, ◌*◌, ◌≤◌}
use native.Mathlib.Omega.{arith}
use lib.ListN.{length}
use Rattle.std.proofs.lemmas.List.{set-get_or}
use Rattle.layout.specs.Layout.{number_at}
use Rattle.lines.proofs.NumberLaws.{length-lent, number-lent}
use Rattle.transcript.proofs.FieldLaws.{cells-none, cells-next, cells-above, cells-unlaid, cells-all}
use Rattle.transcript.proofs.fields.read_cells.Goals as goal
use Rattle.transcript.proofs.fields.read_cells.Goals.{In-loop-k, After-read_number-number}

pub loop-k-init : goal.loop-k-init
loop-k-init c = cells-none _ _

room : (c : In-loop-k) → 3 * c.loop-k.k + 3 ≤ length c.args.bytes.now
room c = omega arith

stated : (c : After-read_number-number) → 3 * c.loop-k.k + 3 ≤ length c.args.bytes.now → c.read_number-number.result ≡ number_at 3 (3 * c.loop-k.k) c.args.bytes.now
stated c r = (number-lent 3 (3 * c.loop-k.k) c.args.bytes.now r c.read_number-number.ensures).0

pub loop-k-preserved : goal.loop-k-preserved
loop-k-preserved c =
    let l = c.loop-k in
    let r = room ((goal.at.loop-k-preserved c).In-loop-k) in
    let n = stated ((goal.at.loop-k-preserved c).After-read_number-number) r in
    rw c.in-Ok.ensures.1 (cells-next l.invariant c.loop-k-test.true n (omega (arith, c.in-Ok.ensures)) (length-lent 3 (3 * l.k) c.args.bytes.now r) (c.is_field.ensures.0 c.if-not-is_field.false))

pub shape_of-cells : goal.shape_of-cells
shape_of-cells c = c.loop-k.invariant.so_far.so_far.size

pub returns : goal.returns
returns c = cells-all c.loop-k.invariant (omega arith) c.requires.1

pub returns-in_default : goal.returns-in_default
returns-in_default c =
    let l = c.loop-k in
    let r = room ((goal.at.returns-in_default c).In-loop-k) in
    let n = stated ((goal.at.returns-in_default c).After-read_number-number) r in
    rw set-get_or (cells-above l.invariant c.loop-k-test.true n (omega (arith, c.in_default.ensures)) l.invariant.so_far.so_far.size)

pub returns-then-not-is_field : goal.returns-then-not-is_field
returns-then-not-is_field c =
    let l = c.loop-k in
    let r = room ((goal.at.returns-then-not-is_field c).In-loop-k) in
    let n = stated ((goal.at.returns-then-not-is_field c).After-read_number-number) r in
    rw set-get_or
    (cells-unlaid l.invariant c.loop-k-test.true n (λ q. true≢false (sym (c.is_field.ensures.1 q) ∙ c.if-not-is_field.true)) (length-lent 3 (3 * l.k) c.args.bytes.now r) l.invariant.so_far.so_far.size)
