-- `by_keys` meets its contract: the rows with the least key give the least next row.
use Rattle.std.proofs.Common.{refl, arith}
use Rattle.search.proofs.NodeLaws.{keys-next, powers-within, rows-within}
use Rattle.search.proofs.node.by_keys.Goals as goal

pub row_keys-keys-requires : goal.row_keys-keys-requires
row_keys-keys-requires c =
    let p = c.requires in
    ((p.0.tables.by_bits p.1).bits, powers-within p.0)

pub lowest-least-requires : goal.lowest-least-requires
lowest-least-requires c =
    let s = c.requires.0 in
    (s.placed-fits, s.tables.rows_fit, rows-within s)

pub with_key-requires : goal.with_key-requires
with_key-requires c =
    let s = c.requires.0 in
    (omega (arith, s.placed-fits), s.tables.rows_fit, rows-within s)

pub returns : goal.returns
returns c =
    let p = c.requires in
    keys-next p.0 p.1 _ c.row_keys-keys.ensures _ c.lowest-least.ensures _ c.with_key.ensures _ refl c.from.ensures refl
