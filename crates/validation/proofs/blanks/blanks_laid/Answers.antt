use mathlib.Core.Path.{◌≡◌, sym, ◌∙◌}
use mathlib.Core.Bool.{true≢false}
use native.Mathlib.Omega.{arith}
use Rattle.lines.proofs.AnswerLaws.{holds, fails}
use Rattle.validation.proofs.BlankLaws.{line-inside, compared, blank_none, blank-next}
use Rattle.validation.proofs.blanks.blanks_laid.Goals as goal

pub returns-then-from-to : goal.returns-then-from-to
returns-then-from-to c = let e : c.args.to ≡ c.args.from = omega arith in rw e (holds (blank_none _ _ _))

pub slice_bounds-ne-end : goal.slice_bounds-ne-end
slice_bounds-ne-end c = line-inside _ _ _ _ c.line_start-at.ensures.0 c.line_length-length.ensures.0 (omega arith) c.requires.3

pub returns-then-ne : goal.returns-then-ne
returns-then-ne c =
    fails (λ l. true≢false (sym c.if-ne.true ∙ (compared _ _ _ _ c.line_start-at.ensures.0 c.line_length-length.ensures.0 c.write_blank.ensures c.ne.ensures).1 (l.lines c.loop-e.e c.loop-e.auto.e c.loop-e-test.true)))

pub loop-e-preserved : goal.loop-e-preserved
loop-e-preserved c =
    blank-next c.loop-e.invariant ((compared _ _ _ _ c.line_start-at.ensures.0 c.line_length-length.ensures.0 c.write_blank.ensures c.ne.ensures).0 c.if-ne.false)
