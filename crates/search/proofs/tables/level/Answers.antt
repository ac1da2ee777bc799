-- `level` meets its contract.
use Rattle.std.proofs.Common.{ℕ, ◌%◌, ap, ◌∙◌}
use lib.Bits.{and_mask}
use Rattle.branches.specs.Keys.{level}
use Rattle.search.proofs.tables.level.Goals as goal

pub returns : goal.returns
unfolding level
returns c = and_mask _ 4 ∙ ap (λ (x : ℕ). x % 16) c.rank.ensures
