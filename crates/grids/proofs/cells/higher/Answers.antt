use mathlib.Core.Path.{◌∙◌}
use borrow.Author.Rules.{rules}
use Rattle.std.proofs.lemmas.List.Sorted.{answers_always}
use Rattle.grids.specs.Order.{rank}
use Rattle.grids.proofs.HigherLaws.{max-higher}
use Rattle.grids.proofs.cells.higher.Goals as goal

pub returns : goal.returns
returns c = c.max_by_key.ensures rank (answers_always _ _ _ (λ f a r g k. search rules)) ∙ max-higher c.args.a c.args.b
