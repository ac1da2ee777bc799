-- `Tables::new` meets its contract: each table is filled with what its place and the top ask for.
use borrow.Author.Rules.{rules}
use mathlib.Core.Path.{◌∙◌}
use Rattle.scan.proofs.tables.Tables.new.Goals as goal

pub invariant_of-tables-clause-bases : goal.invariant_of-tables-clause-bases
invariant_of-tables-clause-bases c = λ k l. let h = c.fill.ensures k l in (h.0, h.1, search rules)

pub invariant_of-tables-clause-teens : goal.invariant_of-tables-clause-teens
invariant_of-tables-clause-teens c = λ k l. let h = c.fill-2.ensures k l in (h.0, h.1 ∙ c.teen_of.ensures, search rules)

pub invariant_of-tables-clause-spans : goal.invariant_of-tables-clause-spans
invariant_of-tables-clause-spans c = λ k l. let h = c.fill-3.ensures k l in (h.0, h.1, search rules)
