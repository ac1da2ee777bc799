-- `candidate` meets its contract: the row at position t is brought to k, and the blocks are sorted by it.
use mathlib.Core.Path.{refl, sym}
use Rattle.permutations.proofs.SwapLaws.{swapped_same}
use Rattle.general_search.proofs.SearchLaws.{candidate-of}
use Rattle.general_search.proofs.state.Search.candidate.Goals as goal

pub returns-then-t-branch : goal.returns-then-t-branch
returns-then-t-branch c =
    let s = c.requires.searching in
    let p = c.requires.unplaced in
    candidate-of _ _ _ _ _ _ _ s.0 _ s.1 p.0 p.1 (record { numbers = sym (swapped_same _ _ _ (sym c.if-t-branch.true)); size = refl }) _
    c.number.ensures c.sorted-columns.ensures

pub returns : goal.returns
returns c =
    let s = c.requires.searching in
    let p = c.requires.unplaced in
    candidate-of _ _ _ _ _ _ _ s.0 _ s.1 p.0 p.1 c.swapped-rows.ensures _ c.number.ensures c.sorted-columns.ensures
