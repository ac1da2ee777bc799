-- `none_higher` meets its contract.
use Rattle.std.proofs.Common.{arith, eqb-true}
use Rattle.search.proofs.HigherLaws.{level-word-most, none-higher}
use Rattle.search.proofs.TallyLaws.{level-words}
use Rattle.search.proofs.pairs.RowPair.none_higher.Goals as goal

pub overflow_add-result : goal.overflow_add-result
overflow_add-result c = record { fits = omega (arith, level-word-most _ (level-words _ _ c.args.self.now.tables.now.are_tables.by_rows.small c.args.self.now.tables.now.are_tables.by-columns) _ c.requires.0) }

pub overflow_sub-result : goal.overflow_sub-result
overflow_sub-result c = omega (arith, level-word-most _ (level-words _ _ c.args.self.now.tables.now.are_tables.by_rows.small c.args.self.now.tables.now.are_tables.by-columns) _ c.requires.1)

pub returns : goal.returns
returns c e = none-higher _ _ _ _ (level-words _ _ c.args.self.now.tables.now.are_tables.by_rows.small c.args.self.now.tables.now.are_tables.by-columns) c.requires.0 c.requires.1 (eqb-true _ _ e)
