-- `entries_laid` meets its contract.
use mathlib.Core.Path.{refl}
use mathlib.Core.Logic.Iff
use Rattle.scan.proofs.EntryLaws.{lines_none}
use Rattle.scan.proofs.LineLaws.{lines-entries}
use Rattle.scan.proofs.entries.entries_laid.Goals as goal

pub returns-then-count-eq0 : goal.returns-then-count-eq0
returns-then-count-eq0 c =
    let a = c.args in
    let none = c.if-count-eq0.true in
    rw none (Iff.trans (lines_none a.size a.top 0 a.register.now refl) (lines-entries a.size a.top 0 a.register.now c.requires.1 (rw none at c.requires.2)))

pub returns-else-count-eq0 : goal.returns-else-count-eq0
returns-else-count-eq0 c =
    let a = c.args in
    Iff.trans (rw (c.new.ensures.0, c.new.ensures.1) at c.lines_laid.ensures) (lines-entries a.size a.top a.count a.register.now c.requires.1 c.requires.2)
