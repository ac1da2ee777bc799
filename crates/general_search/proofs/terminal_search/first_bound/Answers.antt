-- `first_bound` meets its contract: the rows with lesser counts, and those before the first with the greatest, come after the bound's best.
use mathlib.Core.Path.{refl}
use native.Mathlib.Omega.{arith}
use Rattle.general_search.proofs.CountLaws.{greatest-part}
use Rattle.general_search.proofs.FirstRows.{first-bound}
use Rattle.general_search.proofs.terminal_search.first_bound.Goals as goal

pub returns : goal.returns
returns c =
    let pre = c.requires in
    let g = greatest-part _ _ _ (omega arith) c.first_greatest-first.ensures in
    let s = rw pre.1 at pre.0 in
    let next = rw pre.1 at c.candidate-next.ensures in
    rw pre.1 (first-bound _ _ _ _ _ _ _ _ s next g.within _ pre.4 g _ c.compare_at-found.ensures _ c.lesser.ensures refl c.marked.ensures c.is_lt.ensures)
