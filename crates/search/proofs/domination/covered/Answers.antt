-- `covered` meets its contract.
use Rattle.std.proofs.Common.{sym, ◌∙◌}
use Rattle.search.proofs.SideLaws.{sides-neither, sides-equal, sides-others}
use Rattle.search.proofs.domination.covered.Goals as goal
use Rattle.search.proofs.domination.covered.Goals.{else-count-ne2-via-then-count-ne2+else-count-ne4, else-count-ne2-via-else-count-ne2}

pub returns-then-count-eq0 : goal.returns-then-count-eq0
returns-then-count-eq0 c = sides-equal _ _ _ _ _ _ (sym c.differences-count.ensures ∙ c.if-count-eq0.true)

pub returns-then-count-ne4 : goal.returns-then-count-ne4
returns-then-count-ne4 c = sides-neither _ _ _ _ _ _

pub returns-then-count-eq2 : goal.returns-then-count-eq2
returns-then-count-eq2 c = sides-others _ _ _ c.without.ensures c.without-2.ensures c.by_one.ensures

pub returns-then-not-ascend : goal.returns-then-not-ascend
returns-then-not-ascend c = sides-neither _ _ _ _ _ _

pub by_four-requires : goal.by_four-requires
by_four-requires c =
    let p = c.requires in (
      c.first_column-c.ensures,
      c.first_column-d.ensures,
      c.first_column-e.ensures,
      c.first_column-f.ensures,
      sym c.differences-count.ensures
          ∙ elim c.else-count-ne2.branch [
            | else-count-ne2-via-then-count-ne2+else-count-ne4 w ↦ w.if-count-ne4.false
            | else-count-ne2-via-else-count-ne2 w ↦ absurd (c.if-count-eq2.false w.if-count-ne2.false)
          ],
      c.ascend.ensures c.if-not-ascend.false,
    )

pub returns : goal.returns
returns c = sides-others _ _ _ c.without.ensures c.without-2.ensures c.by_four.ensures
