-- What holds at a node of the search of a grid. Between functions: no answer of a call is defined here.
--
--   Stands g x f         ==  the search of the grid g stands so at the node x: f holds the best
--   Finds g x before f   ==  the search of the node's branch found f, where `before` was the best
--   GoesOn g x           ==  x is a node of g, and rows are left to place
--   DropsAt g x a b      ==  b marks positions that a marks, and for each that a marks one whose branch is as good
--   LeftAt g x keys least b  ==  for each position with the least number there is one that b leaves, whose branch is as good
--   Keeps g k            ==  k keeps symmetries of g
--   SpreadsAt g x a b    ==  what covers the rows that a marks covers those that b marks
use Rattle.std.specs.Prelude.{List, Bool, ℕ, ◌<◌}
use Rattle.permutations.specs.Rows.{row_numbers, IsRowPermutation}
use Rattle.two_values.specs.declared.tables.TwoValuedGrid.{TwoValuedGrid}
use Rattle.two_values.specs.declared.nodes.Node.{Node}
use Rattle.two_values.specs.declared.symmetries.Kept.{Kept}
use Rattle.two_values.specs.declared.search.Found.{Found}
use Rattle.two_values.specs.Search.{PlacesBy, Drops, Left, Symmetries, Spreads, Standing, Outcome}

abbrev pub Stands : TwoValuedGrid → Node → Found → Type 0
Stands g x f = Standing g.m g.n g.cells.now g.low g.columns g.rows x.k x.rows x.after x.fresh f

abbrev pub Finds : TwoValuedGrid → Node → Found → Found → Type 0
Finds g x before f = Outcome g.m g.n g.cells.now g.low x.k (row_numbers x.rows) x.fresh before f

abbrev pub GoesOn : TwoValuedGrid → Node → Type 0
GoesOn g x = IsRowPermutation g.m x.rows × (x.k < g.m) × PlacesBy x.k g.n g.cells.now (row_numbers x.rows) x.after

abbrev pub DropsAt : TwoValuedGrid → Node → List Bool → List Bool → Type 0
DropsAt g x a b = Drops g.m g.n g.cells.now x.k (row_numbers x.rows) a b

abbrev pub LeftAt : TwoValuedGrid → Node → List ℕ → ℕ → List Bool → Type 0
LeftAt g x keys least b = Left g.m g.n g.cells.now x.k (row_numbers x.rows) keys least b

abbrev pub Keeps : TwoValuedGrid → Kept → Type 0
Keeps g k = Symmetries g.m g.n g.cells.now k.maps k.count

abbrev pub SpreadsAt : TwoValuedGrid → Node → List Bool → List Bool → Type 0
SpreadsAt g x a b = Spreads g.m g.n g.cells.now x.k (row_numbers x.rows) a b
