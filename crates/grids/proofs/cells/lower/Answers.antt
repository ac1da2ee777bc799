use mathlib.Core.Path.{◌∙◌}
use borrow.Author.Rules.{rules}
use Rattle.std.proofs.lemmas.List.Sorted.{answers_always}
use Rattle.grids.specs.Order.{rank}
use Rattle.grids.proofs.HigherLaws.{min-lower}
use Rattle.grids.proofs.cells.lower.Goals as goal

pub returns : goal.returns
returns c = c.min_by_key.ensures rank (answers_always _ _ _ (λ f a r g k. search rules)) ∙ min-lower c.args.a c.args.b
