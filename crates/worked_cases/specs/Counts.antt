-- Counts of bounds as sent and of what prune leaves of them, as one table.
--
--   CountCase    ==  a register's bytes, bounds, prune's number and the bounds that it leaves, the count of the bounds as sent, and of those left
--   CountsSo c   ==  what the definitions say of it; prune is asked with the rows, columns and top that the register states
--   count_cases  ==  the table
--   CountsHold   ==  the statement: every case is so
use Rattle.std.specs.Prelude.{◌≡◌, List, [], ◌∷◌, ℕ}
use Prim.Native.String.{String}
use Rattle.permutations.specs.Lists.{All}
use Rattle.layout.specs.Layout.{decode_shape}
use Rattle.calls.specs.Calls.{counted}
use Rattle.machine.specs.Demand3.{pruned_for}
use Rattle.worked_cases.specs.Text.{text}

pub record CountCase : Type 0 where
  pub lines : List String
  pub low : List ℕ
  pub high : List ℕ
  pub number : ℕ
  pub pruned_low : List ℕ
  pub pruned_high : List ℕ
  pub sent : ℕ
  pub left : ℕ

pub record CountsSo (c : CountCase) : Type 0 where
  pub number : (pruned_for (decode_shape (text c.lines)) c.low c.high).number ≡ c.number
  pub pruned_low : (pruned_for (decode_shape (text c.lines)) c.low c.high).low ≡ c.pruned_low
  pub pruned_high : (pruned_for (decode_shape (text c.lines)) c.low c.high).high ≡ c.pruned_high
  pub sent : counted (text c.lines) c.low c.high ≡ record { number = 0; place = c.sent; bytes = text c.lines }
  pub left : counted (text c.lines) c.pruned_low c.pruned_high ≡ record { number = 0; place = c.left; bytes = text c.lines }

unfoldable pub count_cases : List CountCase
count_cases =
    -- the register that the printed run leaves: narrower bounds, and one number; then 102, and no entry; an entry counts once, whatever is held
    record {
      lines = "     2     2     1     2     2\n" ∷ "  0  0  1  1  1  0  0  0  0  0  0  0\n" ∷ "  0  1  1  0  2  0  0  0  0  0  0  0\n" ∷ [];
      low = 0 ∷ 0 ∷ 1 ∷ 0 ∷ [];
      high = 1 ∷ 1 ∷ 1 ∷ 0 ∷ [];
      number = 0;
      pruned_low = 0 ∷ 0 ∷ 1 ∷ 0 ∷ [];
      pruned_high = 0 ∷ 1 ∷ 1 ∷ 0 ∷ [];
      sent = 1;
      left = 1;
    }
    ∷ record {
      lines = "     2     2     1     2     2\n" ∷ "  0  0  1  1  1  0  0  0  0  0  0  0\n" ∷ "  0  1  1  0  2  0  0  0  0  0  0  0\n" ∷ [];
      low = 1 ∷ 0 ∷ 0 ∷ 0 ∷ [];
      high = 1 ∷ 1 ∷ 0 ∷ 1 ∷ [];
      number = 102;
      pruned_low = 1 ∷ 0 ∷ 0 ∷ 0 ∷ [];
      pruned_high = 1 ∷ 1 ∷ 0 ∷ 1 ∷ [];
      sent = 0;
      left = 0;
    }
    -- the same bounds where no call can have written the last two entries: the counts differ, and with 102 there is an entry
    ∷ record {
      lines = "     2     2     1     3     3\n" ∷ "  0  1  1  0999  0  0  0  0  0  0  0\n" ∷ "  1  0  0  1  0  1  0  0  0  0  0  0\n" ∷ "  1  0  1  0  0  0  0  0  0  0  0  1\n" ∷ [];
      low = 0 ∷ 0 ∷ 1 ∷ 0 ∷ [];
      high = 1 ∷ 1 ∷ 1 ∷ 0 ∷ [];
      number = 0;
      pruned_low = 0 ∷ 0 ∷ 1 ∷ 0 ∷ [];
      pruned_high = 0 ∷ 1 ∷ 1 ∷ 0 ∷ [];
      sent = 2;
      left = 1;
    }
    ∷ record {
      lines = "     2     2     1     3     3\n" ∷ "  0  1  1  0999  0  0  0  0  0  0  0\n" ∷ "  1  0  0  1  0  1  0  0  0  0  0  0\n" ∷ "  1  0  1  0  0  0  0  0  0  0  0  1\n" ∷ [];
      low = 1 ∷ 0 ∷ 0 ∷ 0 ∷ [];
      high = 1 ∷ 1 ∷ 0 ∷ 1 ∷ [];
      number = 102;
      pruned_low = 1 ∷ 0 ∷ 0 ∷ 0 ∷ [];
      pruned_high = 1 ∷ 1 ∷ 0 ∷ 1 ∷ [];
      sent = 1;
      left = 1;
    }
    -- two rows and one column: the upper high falls to the lower
    ∷ record {
      lines = "     2     1     1     1     1\n" ∷ "  0  0  1  0  0  0  0  0  0  0\n" ∷ [];
      low = 0 ∷ 0 ∷ [];
      high = 1 ∷ 0 ∷ [];
      number = 0;
      pruned_low = 0 ∷ 0 ∷ [];
      pruned_high = 0 ∷ 0 ∷ [];
      sent = 1;
      left = 1;
    }
    -- the bounds of M9, on a register of representatives
    ∷ record {
      lines = "     2     2     3     5     4\n" ∷ "  0  1  1  0  1  0  0  0  0  0  0  0\n" ∷ "  1  1  1  2  1  0  4  0  0  0  0  0\n" ∷ "  1  2  1  2  0  0  0  0 12  0  0  0\n" ∷ "  1  2  2  1  0  0  0  0  0  0  0  1\n" ∷ "                                    \n" ∷ [];
      low = 1 ∷ 0 ∷ 0 ∷ 0 ∷ [];
      high = 3 ∷ 3 ∷ 1 ∷ 2 ∷ [];
      number = 0;
      pruned_low = 1 ∷ 0 ∷ 1 ∷ 1 ∷ [];
      pruned_high = 1 ∷ 2 ∷ 1 ∷ 2 ∷ [];
      sent = 2;
      left = 2;
    }
    ∷ []

unfoldable pub CountsHold : Type 0
CountsHold = All CountsSo count_cases
