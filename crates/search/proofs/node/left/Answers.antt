-- `left` meets its contract: where one row is left it is the least, and else the rows are sifted.
use Rattle.search.proofs.NodeLaws.{rest_some, leaves-lone, list-ends, leaves-sifted, columns-after, columns-first}
use Rattle.search.proofs.node.left.Goals as goal

pub returns-then-tables-node-eq1 : goal.returns-then-tables-node-eq1
returns-then-tables-node-eq1 c = leaves-lone c.requires c.if-tables-node-eq1.true

pub columns_at-columns-requires : goal.columns_at-columns-requires
columns_at-columns-requires c =
    let s = c.requires in
    (s.tables.columns-fit, columns-after s, columns-first s)

pub sifted-requires : goal.sifted-requires
sifted-requires c =
    let s = c.requires in
    (list-ends s _ c.columns_at-columns.ensures, rest_some s)

pub returns : goal.returns
returns c =
    let e = c.sifted.ensures in
    leaves-sifted c.requires _ c.columns_at-columns.ensures _ c.sifted.result.is_set e.some e.sifts
