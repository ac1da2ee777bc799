-- What a contest of rows tells. Between functions: no answer of a call is defined here.
--
--   SidesIn c a b i     ==  where i is the first, row a is over row b; where it is the second, b is over a
--   LosesIn c l s t i   ==  where i is a position, it is t or s, l marks both, and the row at the other one is over its row
use Rattle.std.specs.Prelude.{List, Bool, Option, ℕ}
use Rattle.permutations.specs.Rows.{row_numbers}
use Rattle.two_values.specs.declared.contests.Contest.{Contest}
use Rattle.two_values.specs.declared.pairs.Side.{Side}
use Rattle.two_values.specs.Domination.{Sides, Loses}

abbrev pub SidesIn : Contest → ℕ → ℕ → Option Side → Type 0
SidesIn c a b i = Sides c.grid.now.rows c.words c.lows c.node.now.after c.grid.now.n a b i

abbrev pub LosesIn : Contest → List Bool → ℕ → ℕ → Option ℕ → Type 0
LosesIn c l s t i = Loses c.grid.now.rows c.words c.lows c.node.now.after c.grid.now.n (row_numbers c.node.now.rows) l s t i
