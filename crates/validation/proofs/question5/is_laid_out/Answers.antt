-- `is_laid_out` meets its contract.
use mathlib.Core.Path.{◌≡◌, sym, ◌∙◌}
use mathlib.Core.Bool.{true, true≢false}
use mathlib.Core.Logic.{◌↔◌}
use mathlib.Core.List.{List}
use Prim.Native.Nat.{ℕ, ◌*◌}
use borrow.Author.Tests.{ne_eqb}
use lib.ListN.{length, take}
use Rattle.layout.specs.Layout.{head_length, head_line}
use Rattle.layout.specs.Lines.{EntriesLaid}
use Rattle.lines.specs.declared.head.Head.{Head}
use Rattle.lines.specs.Head.{shape_of}
use Rattle.validation.specs.Limits.{WithinLimits}
use Rattle.validation.proofs.Question5Laws.{both, neither, short-no, refutes, last-decides}
use Rattle.validation.proofs.question5.is_laid_out.Goals as goal
use Rattle.validation.proofs.question5.is_laid_out.Goals.{Else-not-within_limits, Joined-register-line_start, Joined-head_laid, then-register-line_start, else-register-line_start, then-head_laid, else-head_laid}

pub returns-then-register-lt-LENGTH : goal.returns-then-register-lt-LENGTH
returns-then-register-lt-LENGTH c = short-no _ c.if-register-lt-LENGTH.true

pub returns-then-not-within_limits : goal.returns-then-not-within_limits
returns-then-not-within_limits c = refutes c.read_head-head.ensures (λ l. l.limits) c.within_limits.ensures c.if-not-within_limits.true

limits : (c : Else-not-within_limits) → let h = c.read_head-head.result in WithinLimits h.rows h.columns h.top h.capacity h.count
limits c = c.within_limits.ensures.0 c.if-not-within_limits.false

abbrev SizedLine : List ℕ → Head → ℕ → Type 0
SizedLine b h n = (length b ≡ n) × (take head_length b ≡ head_line (shape_of h) h.count)

-- the length and line 1, by the first two tests
first : (c : Joined-register-line_start) → (c.if-register-line_start.value ≡ true) ↔ SizedLine c.args.register.now c.read_head-head.result c.line_start.result
first c =
    elim c.if-register-line_start.branch [
      | then-register-line_start w ↦ both w.if-register-line_start.true w.head_laid.ensures w.value-is
      | else-register-line_start w ↦ neither w.if-register-line_start.false (w.value-is ∙ ne_eqb _ _ w.if-register-line_start.false)
    ]

-- these and the entries, by the first three
second : (c : Joined-head_laid) → (c.if-register-line_start.value ≡ true) ↔ SizedLine c.args.register.now c.read_head-head.result c.line_start.result →
    let h = c.read_head-head.result in
    (c.if-head_laid.value ≡ true) ↔ (SizedLine c.args.register.now h c.line_start.result × EntriesLaid (h.rows * h.columns) h.top h.count c.args.register.now)
second c f =
    elim c.if-head_laid.branch [
      | then-head_laid w ↦ both (f.0 w.if-head_laid.true) w.entries_laid.ensures w.value-is
      | else-head_laid w ↦ neither (λ p. true≢false (sym (f.1 p) ∙ w.if-head_laid.false)) (w.value-is ∙ w.if-head_laid.false)
    ]

pub returns-then-entries_laid : goal.returns-then-entries_laid
returns-then-entries_laid c =
    let p = (second ((goal.at.returns-then-entries_laid c).Joined-head_laid) (first ((goal.at.returns-then-entries_laid c).Joined-register-line_start))).0 c.if-entries_laid.true in
    last-decides c.read_head-head.ensures (limits ((goal.at.returns-then-entries_laid c).Else-not-within_limits)) (p.0.0 ∙ c.line_start.ensures.0) p.0.1 p.1 c.blanks_laid.ensures

pub returns-else-entries_laid : goal.returns-else-entries_laid
returns-else-entries_laid c =
    c.if-entries_laid.false
    ∙ refutes c.read_head-head.ensures (λ l. ((l.sized ∙ sym c.line_start.ensures.0, l.line), l.entries)) (second ((goal.at.returns-else-entries_laid c).Joined-head_laid) (first ((goal.at.returns-else-entries_laid c).Joined-register-line_start))) c.if-entries_laid.false
