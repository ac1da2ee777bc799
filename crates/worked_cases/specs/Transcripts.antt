-- Whole runs of planbook, as one table: the input and what is printed for it, as text.
--
--   Run          ==  the lines of an input, and the lines printed for it
--   runs         ==  the table
--   TranscriptsHold  ==  the statement: planbook prints so
--   line_feeds n  ==  n line feeds
--   InputLimit   ==  the statement: an input of 65,536 bytes is read, and one byte more is too many
use Rattle.std.specs.Prelude.{◌≡◌, List, [], ◌∷◌, ◌++◌, ℕ, replicate}
use Prim.Native.String.{String}
use Rattle.permutations.specs.Lists.{All}
use Rattle.protocol.specs.Transcript.{transcript}
use Rattle.worked_cases.specs.Text.{text}

pub record Run : Type 0 where
  pub input : List String
  pub output : List String

unfoldable pub runs : List Run
runs =
    -- document 01's printed run, with client 1 and the holdings
    record {
      input = "     2     2     1     2\n"
          ∷ "     1     1  1  0  0  1\n"
          ∷ "     1     1  0  1  1  0\n"
          ∷ "     2     1  0  0  1  1\n"
          ∷ "     3  0  0  0  1  0  1  0  1\n"
          ∷ "     1     1  0  0  1  1\n"
          ∷ "     1     1  0  1  0  1\n"
          ∷ [];
      output = "     1     0     1\n"
          ∷ "     1   101     1\n"
          ∷ "     2    10     0\n"
          ∷ "     3     0     1\n"
          ∷ "     1     0     1\n"
          ∷ "     1     9     0\n"
          ∷ "     2     2     1     2     2\n"
          ∷ "  0  0  1  1  1  0  0  0  0  0  0  0\n"
          ∷ "  0  1  1  0  2  0  0  0  0  0  0  0\n"
          ∷ [];
    }
    -- 223/231 and 123/322 are one plan, and so are 10/01 and 01/10
    ∷ record {
      input = "     2     3     3     2\n" ∷ "     1     1  2  2  3  2  3  1\n" ∷ "     1     1  1  2  3  3  2  2\n" ∷ [];
      output = "     1     0     1\n"
          ∷ "     1   101     1\n"
          ∷ "     2     3     3     2     1\n"
          ∷ "  1  2  3  3  2  2  2  0  0  0  0  0  0  0\n"
          ∷ "                                          \n"
          ∷ [];
    }
    ∷ record {
      input = "     2     2     1     2\n" ∷ "     1     1  1  0  0  1\n" ∷ "     1     1  0  1  1  0\n" ∷ [];
      output = "     1     0     1\n" ∷ "     1   101     1\n" ∷ "     2     2     1     2     1\n" ∷ "  0  1  1  0  2  0  0  0  0  0  0  0\n" ∷ "                                    \n" ∷ [];
    }
    -- no command: the register all the same, with all its lines
    ∷ record { input = "     1     2     1     3\n" ∷ []; output = "     1     2     1     3     0\n" ∷ "                              \n" ∷ "                              \n" ∷ "                              \n" ∷ [] }
    -- line 1 not laid: nothing at all, no line feed, a fifth field, three fields
    ∷ record { input = []; output = "     0    12     0\n" ∷ [] }
    ∷ record { input = "     2     2     1     2" ∷ []; output = "     0    12     0\n" ∷ [] }
    ∷ record { input = "     2     2     1     2     0\n" ∷ "     1     1  1  0  0  1\n" ∷ []; output = "     0    12     0\n" ∷ [] }
    ∷ record { input = "     2     2     1\n" ∷ "     1     1  1  0  0  1\n" ∷ []; output = "     0    12     0\n" ∷ [] }
    -- in line 1 a leading zero, a tab, a carriage return, a blank field, a sign
    ∷ record { input = "     2     2     1    02\n" ∷ "     1     1  1  0  0  1\n" ∷ []; output = "     0    12     0\n" ∷ [] }
    ∷ record { input = "     2     2     1    \t2\n" ∷ "     1     1  1  0  0  1\n" ∷ []; output = "     0    12     0\n" ∷ [] }
    ∷ record { input = "     2     2     1     2\r\n" ∷ "     1     1  1  0  0  1\n" ∷ []; output = "     0    12     0\n" ∷ [] }
    ∷ record { input = "     2     2     1      \n" ∷ "     1     1  1  0  0  1\n" ∷ []; output = "     0    12     0\n" ∷ [] }
    ∷ record { input = "     2     2     1    +2\n" ∷ "     1     1  1  0  0  1\n" ∷ []; output = "     0    12     0\n" ∷ [] }
    -- line 1 a byte short, a byte long, behind an empty line, in two lines
    ∷ record { input = "    2     2     1     2\n" ∷ "     1     1  1  0  0  1\n" ∷ []; output = "     0    12     0\n" ∷ [] }
    ∷ record { input = "     2     2     1     2 \n" ∷ "     1     1  1  0  0  1\n" ∷ []; output = "     0    12     0\n" ∷ [] }
    ∷ record { input = "\n" ∷ "     2     2     1     2\n" ∷ "     1     1  1  0  0  1\n" ∷ []; output = "     0    12     0\n" ∷ [] }
    ∷ record { input = "     2     2     1\n" ∷ "     2\n" ∷ "     1     1  1  0  0  1\n" ∷ []; output = "     0    12     0\n" ∷ [] }
    -- rows 0 and 9; columns 0 and 17; top 16; capacity 0, 501 and 999999
    ∷ record { input = "     0     2     1     2\n" ∷ "     1     1  1  0  0  1\n" ∷ "\n" ∷ []; output = "     0     1     0\n" ∷ [] }
    ∷ record { input = "     9     2     1     2\n" ∷ "     1     1  1  0  0  1\n" ∷ "\n" ∷ []; output = "     0     1     0\n" ∷ [] }
    ∷ record { input = "     2     0     1     2\n" ∷ "     1     1  1  0  0  1\n" ∷ "\n" ∷ []; output = "     0     2     0\n" ∷ [] }
    ∷ record { input = "     2    17     1     2\n" ∷ "     1     1  1  0  0  1\n" ∷ "\n" ∷ []; output = "     0     2     0\n" ∷ [] }
    ∷ record { input = "     2     2    16     2\n" ∷ "     1     1  1  0  0  1\n" ∷ "\n" ∷ []; output = "     0     3     0\n" ∷ [] }
    ∷ record { input = "     2     2     1     0\n" ∷ "     1     1  1  0  0  1\n" ∷ "\n" ∷ []; output = "     0     4     0\n" ∷ [] }
    ∷ record { input = "     2     2     1   501\n" ∷ "     1     1  1  0  0  1\n" ∷ "\n" ∷ []; output = "     0     4     0\n" ∷ [] }
    ∷ record { input = "     2     2     1999999\n" ∷ "     1     1  1  0  0  1\n" ∷ "\n" ∷ []; output = "     0     4     0\n" ∷ [] }
    -- a register of 65553 bytes, the smallest that is too large
    ∷ record { input = "     4    13     1   362\n" ∷ "     1     1  1  0  0  1\n" ∷ "\n" ∷ []; output = "     0    13     0\n" ∷ [] }
    -- one of 65500 bytes passes, and with a line more it has 65657
    ∷ record {
      input = "     4    11     0   417\n" ∷ [];
      output = "     4    11     0   417     0\n" ∷ replicate 417 "                                                                                                                                                            \n";
    }
    ∷ record { input = "     4    11     0   418\n" ∷ "     1     1  1  0  0  1\n" ∷ "\n" ∷ []; output = "     0    13     0\n" ∷ [] }
    -- one that would have 65467 bytes without holdings
    ∷ record { input = "     4    11     0   492\n" ∷ "     1     1  1  0  0  1\n" ∷ "\n" ∷ []; output = "     0    13     0\n" ∷ [] }
    -- several faults, one fewer in each case: 12, 1, 2, 3, 4, 13; then none
    ∷ record { input = "    09    17    16   501\n" ∷ "     1     1  1  0  0  1\n" ∷ "\n" ∷ []; output = "     0    12     0\n" ∷ [] }
    ∷ record { input = "     9    17    16   501\n" ∷ "     1     1  1  0  0  1\n" ∷ "\n" ∷ []; output = "     0     1     0\n" ∷ [] }
    ∷ record { input = "     8    17    16   501\n" ∷ "     1     1  1  0  0  1\n" ∷ "\n" ∷ []; output = "     0     2     0\n" ∷ [] }
    ∷ record { input = "     8    16    16   501\n" ∷ "     1     1  1  0  0  1\n" ∷ "\n" ∷ []; output = "     0     3     0\n" ∷ [] }
    ∷ record { input = "     8    16    15   501\n" ∷ "     1     1  1  0  0  1\n" ∷ "\n" ∷ []; output = "     0     4     0\n" ∷ [] }
    ∷ record { input = "     8    16    15   500\n" ∷ "     1     1  1  0  0  1\n" ∷ "\n" ∷ []; output = "     0    13     0\n" ∷ [] }
    ∷ record { input = "     8    16    15     1\n" ∷ []; output = "     8    16    15     1     0\n" ∷ (replicate 136 "   " ++ ("\n" ∷ [])) }
    -- command lines that are not laid, and then one that is
    ∷ record {
      input = "     2     2     1     2\n"
          -- an empty line, spaces, command 0, command 4, command 10
          ∷ "\n"
          ∷ "                        \n"
          ∷ "     0     1  0  0  1  1\n"
          ∷ "     4     1  0  0  1  1\n"
          ∷ "    10     1  0  0  1  1\n"
          -- no client, no cells, too few, too many, a byte more, a byte fewer
          ∷ "     1\n"
          ∷ "     1     1\n"
          ∷ "     1     1  0  0  1\n"
          ∷ "     1     1  0  0  1  1  1\n"
          ∷ "     1     1  0  0  1  1 \n"
          ∷ "    1     1  0  0  1  1\n"
          -- a cell of 256, one of 999, also with command 3
          ∷ "     1     1  0  0  1256\n"
          ∷ "     2     1  0  0  1999\n"
          ∷ "     3  0  1  0  1  0  1  0256\n"
          -- a leading zero, in a cell and in the command; a cell or the command left-justified; a blank cell
          ∷ "     1     1  0  0  1 01\n"
          ∷ "    01     1  0  0  1  1\n"
          ∷ "     1     1  0  0  11  \n"
          ∷ "1          1  0  0  1  1\n"
          ∷ "     1     1  0  0  1   \n"
          -- a carriage return, a tab, a sign, a letter
          ∷ "     1     1  0  0  1  1\r\n"
          ∷ "     1     1  0  0  1\t 1\n"
          ∷ "     1     1  0  0  1 +1\n"
          ∷ "     1     1  0  0  1  x\n"
          -- command 3 with half the cells, an enter and a strike with twice as many
          ∷ "     3  0  1  0  1\n"
          ∷ "     1     1  0  0  0  0  0  0  0  0\n"
          ∷ "     2     1  0  0  0  0  0  0  0  0\n"
          -- a client with a leading zero, left-justified, blank, with a tab, a sign, a letter, seven wide
          ∷ "     1    01  0  0  1  1\n"
          ∷ "     11       0  0  1  1\n"
          ∷ "     1        0  0  1  1\n"
          ∷ "     1    \t1  0  0  1  1\n"
          ∷ "     2    +1  0  0  1  1\n"
          ∷ "     2     x  0  0  1  1\n"
          ∷ "     21000000  0  0  1  1\n"
          -- an enter and a strike without a client, and a command 3 with one
          ∷ "     1  0  0  1  1\n"
          ∷ "     2  0  0  1  1\n"
          ∷ "     3     1  0  1  0  1  0  1  0  1\n"
          -- and laid
          ∷ "     1     1  1  0  0  1\n"
          ∷ [];
      output = replicate 36 "     0    12     0\n" ++ ("     1     0     1\n" ∷ "     2     2     1     2     1\n" ∷ "  0  1  1  0  1  0  0  0  0  0  0  0\n" ∷ "                                    \n" ∷ []);
    }
    -- a last line without its line feed: not laid besides, and laid but for that
    ∷ record {
      input = "     2     2     1     2\n" ∷ "     1     1  1  0  0  1\n" ∷ "     1" ∷ [];
      output = "     1     0     1\n" ∷ "     0    12     0\n" ∷ "     2     2     1     2     1\n" ∷ "  0  1  1  0  1  0  0  0  0  0  0  0\n" ∷ "                                    \n" ∷ [];
    }
    ∷ record {
      input = "     2     2     1     2\n" ∷ "     1     1  1  0  0  1\n" ∷ "     1     1  0  0  1  1" ∷ [];
      output = "     1     0     1\n" ∷ "     0    12     0\n" ∷ "     2     2     1     2     1\n" ∷ "  0  1  1  0  1  0  0  0  0  0  0  0\n" ∷ "                                    \n" ∷ [];
    }
    -- a cell of 2 and one of 255 with top 1, a low above its high, and both: 7 comes first
    ∷ record {
      input = "     2     2     1     2\n"
          ∷ "     1     1  2  0  0  1\n"
          ∷ "     1     1  1  0  0255\n"
          ∷ "     2     1  0  0  0  2\n"
          ∷ "     3  0  1  0  1  0  1  0255\n"
          ∷ "     3  1  0  0  1  0  1  0  1\n"
          ∷ "     3  1  0  0  1  0  1  0  2\n"
          ∷ [];
      output = "     1     7     0\n"
          ∷ "     1     7     0\n"
          ∷ "     2     7     0\n"
          ∷ "     3     7     0\n"
          ∷ "     3     8     0\n"
          ∷ "     3     7     0\n"
          ∷ "     2     2     1     2     0\n"
          ∷ "                                    \n"
          ∷ "                                    \n"
          ∷ [];
    }
    -- 0, 102, 101 in a full register, 9, 10, and 10 again after as many strikes as enters
    ∷ record {
      input = "     2     2     1     1\n"
          ∷ "     1     1  1  0  0  1\n"
          ∷ "     3  1  1  1  1  0  0  0  0\n"
          ∷ "     1     1  0  1  1  0\n"
          ∷ "     1     1  0  0  0  0\n"
          ∷ "     2     1  1  1  1  1\n"
          ∷ "     2     1  0  1  1  0\n"
          ∷ "     2     1  0  1  1  0\n"
          ∷ "     2     1  0  1  1  0\n"
          ∷ [];
      output = "     1     0     1\n"
          ∷ "     3   102     0\n"
          ∷ "     1   101     1\n"
          ∷ "     1     9     0\n"
          ∷ "     2    10     0\n"
          ∷ "     2     0     1\n"
          ∷ "     2     0     1\n"
          ∷ "     2    10     0\n"
          ∷ "     2     2     1     1     0\n"
          ∷ "                                    \n"
          ∷ [];
    }
    -- low and high in turn: with all lows first the answers would be 8 and 0
    ∷ record {
      input = "     1     2     1     1\n" ∷ "     3  1  1  0  0\n" ∷ "     3  1  0  1  1\n" ∷ [];
      output = "     3     0     0\n" ∷ "     3     8     0\n" ∷ "     1     2     1     1     0\n" ∷ "                              \n" ∷ [];
    }
    -- places, counts, and a strike of the first of two entries
    ∷ record {
      input = "     1     3     3     3\n"
          ∷ "     1     1  3  0  2\n"
          ∷ "     1     1  0  1  0\n"
          ∷ "     1     1  2  3  0\n"
          ∷ "     3  0  0  0  3  0  3\n"
          ∷ "     2     1  1  0  0\n"
          ∷ "     3  0  0  0  1  0  3\n"
          ∷ [];
      output = "     1     0     1\n"
          ∷ "     1     0     1\n"
          ∷ "     1   101     2\n"
          ∷ "     3     0     2\n"
          ∷ "     2     0     1\n"
          ∷ "     3     0     0\n"
          ∷ "     1     3     3     3     1\n"
          ∷ "  0  2  3  2  0  0  0  0  0  0  0\n"
          ∷ "                                 \n"
          ∷ "                                 \n"
          ∷ [];
    }
    -- clients that are not 1 to 8, laid as they should be: 15 under their command, with 7 asked first, and 9 and 10 after; then client 8
    ∷ record {
      input = "     1     1     1     1\n"
          ∷ "     1     1  0\n"
          ∷ "     1     0  0\n"
          ∷ "     1     9  0\n"
          ∷ "     1   257  0\n"
          ∷ "     1999999  0\n"
          ∷ "     1     9  2\n"
          ∷ "     1     0  1\n"
          ∷ "     1     8  1\n"
          ∷ "     2     0  0\n"
          ∷ "     2     9  0\n"
          ∷ "     2   257  0\n"
          ∷ "     2999999  0\n"
          ∷ "     2     9  2\n"
          ∷ "     2     0  1\n"
          ∷ "     2     8  0\n"
          ∷ "     1     8  0\n"
          ∷ [];
      output = "     1     0     1\n"
          ∷ "     1    15     0\n"
          ∷ "     1    15     0\n"
          ∷ "     1    15     0\n"
          ∷ "     1    15     0\n"
          ∷ "     1     7     0\n"
          ∷ "     1    15     0\n"
          ∷ "     1     9     0\n"
          ∷ "     2    15     0\n"
          ∷ "     2    15     0\n"
          ∷ "     2    15     0\n"
          ∷ "     2    15     0\n"
          ∷ "     2     7     0\n"
          ∷ "     2    15     0\n"
          ∷ "     2    10     0\n"
          ∷ "     1   101     1\n"
          ∷ "     1     1     1     1     1\n"
          ∷ "  0  1  0  0  0  0  0  0  1\n"
          ∷ [];
    }
    -- several clients: a strike leaves the others' holdings, and the line goes with the last one
    ∷ record {
      input = "     2     1     1     2\n"
          ∷ "     1     1  1  0\n"
          ∷ "     1     2  0  1\n"
          ∷ "     1     2  1  0\n"
          ∷ "     1     8  1  1\n"
          ∷ "     2     1  0  1\n"
          ∷ "     2     1  0  1\n"
          ∷ "     2     8  0  1\n"
          ∷ "     3  0  1  0  1\n"
          ∷ "     2     2  1  0\n"
          ∷ "     3  0  1  0  1\n"
          ∷ "     2     8  1  1\n"
          ∷ [];
      output = "     1     0     1\n"
          ∷ "     1   101     1\n"
          ∷ "     1   101     1\n"
          ∷ "     1     0     2\n"
          ∷ "     2     0     1\n"
          ∷ "     2    10     0\n"
          ∷ "     2    10     0\n"
          ∷ "     3     0     2\n"
          ∷ "     2     0     1\n"
          ∷ "     3     0     2\n"
          ∷ "     2     0     2\n"
          ∷ "     2     1     1     2     1\n"
          ∷ "  0  1  0  1  0  0  0  0  0  0\n"
          ∷ "                              \n"
          ∷ [];
    }
    -- a register of 65,531 bytes is printed; one line more is too large
    ∷ record { input = "     5    15     0   262\n" ∷ []; output = "     5    15     0   262     0\n" ∷ replicate 262 "                                                                                                                                                                                                                                                         \n" }
    ∷ record { input = "     5    15     0   263\n" ∷ []; output = "     0    13     0\n" ∷ [] }
    -- a thousand enters by one client: the last is refused by 16, and another client's is accepted
    ∷ record {
      input = "     1     1     0     1\n" ∷ (replicate 1000 "     1     3  0\n" ++ ("     1     4  0\n" ∷ []));
      output = "     1     0     1\n"
          ∷ (replicate 998 "     1   101     1\n" ++ ("     1    16     0\n" ∷ "     1   101     1\n" ∷ "     1     1     0     1     1\n" ∷ "  0  0  0999  1  0  0  0  0\n" ∷ []));
    }
    ∷ []

unfoldable pub TranscriptsHold : Type 0
TranscriptsHold = All (λ r. transcript (text r.input) ≡ text r.output) runs

unfoldable pub line_feeds : ℕ → List ℕ
line_feeds n = replicate n 10

-- line 1 is not laid in either
pub record InputLimit : Type 0 where
  pub longest : transcript (line_feeds 65536) ≡ text ("     0    12     0\n" ∷ [])
  pub too_long : transcript (line_feeds 65537) ≡ text ("     0    11     0\n" ∷ [])
