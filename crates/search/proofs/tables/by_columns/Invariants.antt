-- `by_columns` meets its contract. The loops' invariant: each word has the bytes of the rows from r on, those before column c of a row more.
use Rattle.std.proofs.Common.{◌-◌}
use Rattle.search.proofs.LoopLaws.{TurnedTo}
use Rattle.search.proofs.TableLaws.{word_to}
use Rattle.search.proofs.tables.by_columns.Given as goal

abbrev pub invariant-loop-c : goal.invariant-loop-c
invariant-loop-c l = TurnedTo 16 (word_to l.levels) (7 - l.r) l.c l.out

abbrev pub invariant-loop-r : goal.invariant-loop-r
invariant-loop-r l = TurnedTo 16 (word_to l.levels) (8 - l.r) 0 l.out
