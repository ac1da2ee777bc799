-- Two rows held against each other. Between functions: no answer of a call is defined here.
--
--   pair_differences r  ==  in how many columns the two rows of r differ
--   PairSides r s       ==  s says which of them the other covers
use Rattle.std.specs.Prelude.{ℕ, Option}
use Rattle.search.specs.declared.pairs.Covered.{Covered}
use Rattle.search.specs.declared.pairs.RowPair.{RowPair}
use Rattle.search.specs.RowSets.{HasRow}
use Rattle.search.specs.Domination.{differences, Sides}

abbrev pub pair_differences : RowPair → ℕ
pair_differences r = differences r.tables.now.levels r.first.0 r.second.0

abbrev pub PairSides : RowPair → Option Covered → Type 0
PairSides r s = Sides r.tables.now.levels r.tables.now.words r.after.now (HasRow r.others.bytes) r.first.0 r.second.0 s
