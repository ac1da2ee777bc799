-- `deeper` meets its contract.
use Rattle.std.proofs.Common.{refl, add-one}
use Rattle.search.proofs.NodeLaws.{after_is, row_small, rest-without}
use Rattle.search.proofs.node.deeper.Goals as goal

pub refined_by-requires : goal.refined_by-requires
refined_by-requires c =
    let p = c.requires in
    (row_small p.0 _ _ p.3 p.4, after_is p.0, p.1.refined)

pub returns : goal.returns
returns c =
    let p = c.requires in
    let w = c.without.ensures in
    record {
      rows = c.exchanged.ensures;
      placed = add-one _;
      refined = rw p.4 at c.refined_by.ensures;
      rest = rest-without p.0 _ p.2 p.3 _ c.without.result.is_set (rw p.4 at w);
      same-fresh = refl;
    }
