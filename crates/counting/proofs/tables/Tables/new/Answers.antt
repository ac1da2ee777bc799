-- `Tables::new` meets its contract: each table is filled with what the bounds ask for in its place.
use borrow.Author.Rules.{rules}
use Rattle.counting.proofs.tables.Tables.new.Goals as goal

pub returns : goal.returns
returns c = record {
  low-ranks = λ k l. let h = c.fill.ensures k l in (h.0, h.1, search rules);
  high-spans = λ k l. let h = c.fill-2.ensures k l in (h.0, h.1, search rules);
  ranked = λ k l. let h = c.fill-2.ensures k l in search rules;
}
