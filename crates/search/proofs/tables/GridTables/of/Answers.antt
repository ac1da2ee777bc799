-- `GridTables::of` makes the tables: the lower of two values is a cell, and so at most 15.
use Rattle.search.proofs.ValueLaws.{small-cell}
use Rattle.search.proofs.tables.GridTables.of.Goals as goal

pub by_bits-bits-requires : goal.by_bits-bits-requires
by_bits-bits-requires c =
    (c.requires.0, c.requires.1, c.requires.2, c.requires.3, small-cell _ _ c.requires.3 c.in-Some.ensures.1, c.by_rows-levels.ensures)
