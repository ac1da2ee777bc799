-- `searched` meets its contract: the search begins with no row placed, and the columns are sorted by the best row order that it finds.
use Rattle.std.proofs.Common.{refl}
use Rattle.permutations.specs.Columns.{column_numbers}
use Rattle.branches.proofs.RefinedLaws.{places-after}
use Rattle.search.proofs.OrdersLaws.{starting, rows-first, listed-columns, listed-sorts, searched-least}
use Rattle.search.proofs.orders.searched.Goals as goal

pub begun-found-requires : goal.begun-found-requires
begun-found-requires c =
    let e = c.own_rows-rows.ensures in
    let r = c.first_rows.ensures in
    (starting _ _ c.args.tables.now.are_tables e c.first-after.ensures (rows-first _ _ _ c.args.tables.now.are_tables.rows_fit e c.first_rows.result.is_set r) refl refl c.first_keys-keys.ensures.0 c.first_keys-keys.ensures.1 refl refl refl refl, refl)

pub listed-list-requires : goal.listed-list-requires
listed-list-requires c =
    let n16 = c.args.tables.now.are_tables.columns-fit in
    (n16, places-after _ _ _ _ _ n16 c.begun-found.ensures.known.places)

pub returns : goal.returns
returns c =
    let p = c.args.tables.now.are_tables in
    let o = c.begun-found.ensures in
    let lists = c.listed-list.ensures in
    let r = c.rows_as.ensures in
    let h = c.columns_of.ensures in
    record {
      orders = record { rows = record { whole = rw r.numbers o.known.rows; size = r.size }; columns = listed-columns _ _ _ p.columns-fit lists _ h };
      gives = rw r.numbers (searched-least _ _ p.columns-fit p.size o (column_numbers c.columns_of.result) (listed-sorts _ _ _ p.columns-fit lists _ h));
    }
