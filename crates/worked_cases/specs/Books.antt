-- Books, whole: opens, and lists of calls on a register's bytes, with every number, every place or count, and all bytes left.
--
--   OpenCase    ==  the four numbers of an open, the slice lent to it, the number, and the bytes that it leaves
--   Opens o     ==  what the definitions say of it
--   openings    ==  the table of opens
--   Book        ==  a register's bytes, calls on it, their numbers, their places or counts, and the bytes that they leave
--   KeptBook k  ==  what the definitions say of it
--   books       ==  the table of books
--   BooksKept   ==  the statement: every open and every book is kept so
use Rattle.std.specs.Prelude.{◌≡◌, List, [], ◌∷◌, map, ℕ, replicate}
use Prim.Native.String.{String}
use Rattle.permutations.specs.Lists.{All}
use Rattle.layout.specs.Layout.{Shape}
use Rattle.calls.specs.Calls.{Outcome, opened}
use Rattle.machine.specs.CallLists.{Call, enter, strike, count_in, terminal_enter, register_calls, run, left}
use Rattle.worked_cases.specs.Text.{text}

pub record OpenCase : Type 0 where
  pub shape : Shape
  pub slice : List String
  pub number : ℕ
  pub leaves : List String

abbrev pub Opens : OpenCase → Type 0
Opens o = opened o.shape (text o.slice) ≡ record { number = o.number; place = 0; bytes = text o.leaves }

pub record Book : Type 0 where
  pub before : List String
  pub calls : List Call
  pub numbers : List ℕ
  pub places : List ℕ
  pub leaves : List String

pub record KeptBook (k : Book) : Type 0 where
  pub numbers : map (λ (o : Outcome). o.number) (run register_calls (text k.before) k.calls) ≡ k.numbers
  pub places : map (λ (o : Outcome). o.place) (run register_calls (text k.before) k.calls) ≡ k.places
  pub leaves : left register_calls (text k.before) k.calls ≡ text k.leaves

unfoldable pub openings : List OpenCase
openings =
    -- the slices that the first two books begin with
    record {
      shape = record { rows = 2; columns = 2; top = 1; capacity = 2 };
      slice = replicate 105 "x";
      number = 0;
      leaves = "     2     2     1     2     0\n" ∷ "                                    \n" ∷ "                                    \n" ∷ [];
    }
    ∷ record {
      shape = record { rows = 2; columns = 1; top = 1; capacity = 3 };
      slice = replicate 124 "x";
      number = 0;
      leaves = "     2     1     1     3     0\n" ∷ "                              \n" ∷ "                              \n" ∷ "                              \n" ∷ [];
    }
    -- a slice that is too long, one that is too short, and one without room for the holdings keep their bytes
    ∷ record { shape = record { rows = 1; columns = 1; top = 0; capacity = 1 }; slice = replicate 60 "x"; number = 6; leaves = replicate 60 "x" }
    ∷ record { shape = record { rows = 1; columns = 1; top = 0; capacity = 1 }; slice = replicate 58 "x"; number = 6; leaves = replicate 58 "x" }
    ∷ record { shape = record { rows = 1; columns = 1; top = 0; capacity = 1 }; slice = replicate 35 "x"; number = 6; leaves = replicate 35 "x" }
    ∷ []

unfoldable pub books : List Book
books =
    -- the printed run of planbook
    record {
      before = "     2     2     1     2     0\n" ∷ "                                    \n" ∷ "                                    \n" ∷ [];
      calls = enter 1 (1 ∷ 0 ∷ 0 ∷ 1 ∷ [])
          ∷ enter 1 (0 ∷ 1 ∷ 1 ∷ 0 ∷ [])
          ∷ strike 1 (0 ∷ 0 ∷ 1 ∷ 1 ∷ [])
          ∷ count_in (0 ∷ 0 ∷ 0 ∷ 0 ∷ []) (0 ∷ 1 ∷ 1 ∷ 1 ∷ [])
          ∷ enter 1 (0 ∷ 0 ∷ 1 ∷ 1 ∷ [])
          ∷ enter 1 (0 ∷ 1 ∷ 0 ∷ 1 ∷ [])
          ∷ [];
      numbers = 0 ∷ 101 ∷ 10 ∷ 0 ∷ 0 ∷ 9 ∷ [];
      places = 1 ∷ 1 ∷ 0 ∷ 1 ∷ 1 ∷ 0 ∷ [];
      leaves = "     2     2     1     2     2\n" ∷ "  0  0  1  1  1  0  0  0  0  0  0  0\n" ∷ "  0  1  1  0  2  0  0  0  0  0  0  0\n" ∷ [];
    }
    -- the other numbers, a strike that leaves another client's holding, and the strike of the last one, before the last entry, which leaves a blank line
    ∷ record {
      before = "     2     1     1     3     0\n" ∷ "                              \n" ∷ "                              \n" ∷ "                              \n" ∷ [];
      calls = enter 1 (1 ∷ 0 ∷ [])
          ∷ enter 1 (1 ∷ 1 ∷ [])
          ∷ enter 1 (0 ∷ 0 ∷ [])
          ∷ enter 2 (0 ∷ 1 ∷ [])
          ∷ strike 1 (1 ∷ 0 ∷ [])
          ∷ strike 1 (0 ∷ 1 ∷ [])
          ∷ strike 2 (0 ∷ 1 ∷ [])
          ∷ strike 2 (0 ∷ 1 ∷ [])
          ∷ count_in (1 ∷ 0 ∷ []) (1 ∷ 0 ∷ [])
          ∷ count_in (0 ∷ 1 ∷ []) (1 ∷ 1 ∷ [])
          ∷ enter 1 (2 ∷ 2 ∷ 2 ∷ [])
          ∷ enter 1 (2 ∷ 0 ∷ [])
          ∷ count_in (1 ∷ 1 ∷ []) (0 ∷ 0 ∷ [])
          ∷ [];
      numbers = 0 ∷ 0 ∷ 0 ∷ 101 ∷ 0 ∷ 10 ∷ 0 ∷ 10 ∷ 0 ∷ 0 ∷ 6 ∷ 7 ∷ 8 ∷ [];
      places = 1 ∷ 2 ∷ 1 ∷ 2 ∷ 2 ∷ 0 ∷ 2 ∷ 0 ∷ 0 ∷ 1 ∷ 0 ∷ 0 ∷ 0 ∷ [];
      leaves = "     2     1     1     3     2\n" ∷ "  0  0  1  0  0  0  0  0  0  0\n" ∷ "  1  1  1  0  0  0  0  0  0  0\n" ∷ "                              \n" ∷ [];
    }
    -- the marked plans M1, in three arrangements by three clients, and M3
    ∷ record {
      before = "     2     3     3     2     0\n" ∷ "                                          \n" ∷ "                                          \n" ∷ [];
      calls = enter 1 (2 ∷ 2 ∷ 3 ∷ 2 ∷ 3 ∷ 1 ∷ [])
          ∷ enter 2 (1 ∷ 2 ∷ 3 ∷ 3 ∷ 2 ∷ 2 ∷ [])
          ∷ enter 1 (1 ∷ 1 ∷ 2 ∷ 0 ∷ 1 ∷ 0 ∷ [])
          ∷ enter 8 (2 ∷ 2 ∷ 3 ∷ 2 ∷ 3 ∷ 1 ∷ [])
          ∷ enter 1 (0 ∷ 0 ∷ 0 ∷ 0 ∷ 0 ∷ 0 ∷ [])
          ∷ strike 2 (2 ∷ 3 ∷ 1 ∷ 2 ∷ 2 ∷ 3 ∷ [])
          ∷ [];
      numbers = 0 ∷ 101 ∷ 0 ∷ 101 ∷ 9 ∷ 0 ∷ [];
      places = 1 ∷ 1 ∷ 1 ∷ 2 ∷ 0 ∷ 2 ∷ [];
      leaves = "     2     3     3     2     2\n" ∷ "  0  0  1  1  2  1  1  0  0  0  0  0  0  0\n" ∷ "  1  2  3  3  2  2  1  0  0  0  0  0  0  1\n" ∷ [];
    }
    -- an entry that is no representative, 1/0: its class is not held, and count counts it in bounds as sent, 0 to 1 over 0, not in what prune leaves of
    -- them, 0 over 0, and also in bounds that prune answers with 102, 1 over 0
    ∷ record {
      before = "     2     1     1     3     1\n" ∷ "  1  0  0  0  5  0  0  0  0  0\n" ∷ "                              \n" ∷ "                              \n" ∷ [];
      calls = strike 3 (1 ∷ 0 ∷ [])
          ∷ enter 3 (1 ∷ 0 ∷ [])
          ∷ count_in (0 ∷ 0 ∷ []) (1 ∷ 1 ∷ [])
          ∷ count_in (0 ∷ 0 ∷ []) (1 ∷ 0 ∷ [])
          ∷ count_in (0 ∷ 0 ∷ []) (0 ∷ 0 ∷ [])
          ∷ count_in (1 ∷ 0 ∷ []) (1 ∷ 0 ∷ [])
          ∷ enter 1 (1 ∷ 1 ∷ [])
          ∷ enter 1 (0 ∷ 0 ∷ [])
          ∷ enter 3 (0 ∷ 1 ∷ [])
          ∷ strike 3 (0 ∷ 1 ∷ [])
          ∷ strike 3 (0 ∷ 1 ∷ [])
          ∷ strike 3 (0 ∷ 1 ∷ [])
          ∷ [];
      numbers = 10 ∷ 0 ∷ 0 ∷ 0 ∷ 0 ∷ 0 ∷ 0 ∷ 9 ∷ 101 ∷ 0 ∷ 0 ∷ 10 ∷ [];
      places = 0 ∷ 1 ∷ 2 ∷ 1 ∷ 0 ∷ 1 ∷ 3 ∷ 0 ∷ 1 ∷ 1 ∷ 1 ∷ 0 ∷ [];
      leaves = "     2     1     1     3     2\n" ∷ "  1  0  0  0  5  0  0  0  0  0\n" ∷ "  1  1  1  0  0  0  0  0  0  0\n" ∷ "                              \n" ∷ [];
    }
    -- a register one byte short, and one without holdings
    ∷ record {
      before = "     1     1     1     1     0\n" ∷ "                           " ∷ [];
      calls = enter 9 (0 ∷ [])
          ∷ strike 9 (0 ∷ [])
          ∷ count_in (0 ∷ []) (1 ∷ [])
          ∷ terminal_enter 9 (0 ∷ [])
          ∷ [];
      numbers = 5 ∷ 5 ∷ 5 ∷ 5 ∷ [];
      places = 0 ∷ 0 ∷ 0 ∷ 0 ∷ [];
      leaves = "     1     1     1     1     0\n" ∷ "                           " ∷ [];
    }
    ∷ record {
      before = "     1     1     1     1     1\n" ∷ "  0\n" ∷ [];
      calls = strike 1 (0 ∷ [])
          ∷ count_in (0 ∷ []) (1 ∷ [])
          ∷ enter 1 (0 ∷ [])
          ∷ [];
      numbers = 5 ∷ 5 ∷ 5 ∷ [];
      places = 0 ∷ 0 ∷ 0 ∷ [];
      leaves = "     1     1     1     1     1\n" ∷ "  0\n" ∷ [];
    }
    -- both sets of calls on one register
    ∷ record {
      before = "     2     2     1     2     0\n" ∷ "                                    \n" ∷ "                                    \n" ∷ [];
      calls = terminal_enter 1 (1 ∷ 0 ∷ 0 ∷ 1 ∷ [])
          ∷ enter 2 (0 ∷ 1 ∷ 1 ∷ 0 ∷ [])
          ∷ terminal_enter 3 (1 ∷ 1 ∷ 0 ∷ 0 ∷ [])
          ∷ terminal_enter 1 (0 ∷ 1 ∷ 0 ∷ 1 ∷ [])
          ∷ strike 3 (1 ∷ 1 ∷ 0 ∷ 0 ∷ [])
          ∷ enter 1 (0 ∷ 1 ∷ 0 ∷ 1 ∷ [])
          ∷ terminal_enter 8 (1 ∷ 0 ∷ 1 ∷ 0 ∷ [])
          ∷ count_in (0 ∷ 0 ∷ 0 ∷ 0 ∷ []) (1 ∷ 1 ∷ 1 ∷ 1 ∷ [])
          ∷ terminal_enter 1 (2 ∷ 0 ∷ 0 ∷ 0 ∷ [])
          ∷ terminal_enter 1 (2 ∷ [])
          ∷ [];
      numbers = 0 ∷ 101 ∷ 0 ∷ 9 ∷ 0 ∷ 0 ∷ 101 ∷ 0 ∷ 7 ∷ 6 ∷ [];
      places = 1 ∷ 1 ∷ 1 ∷ 0 ∷ 1 ∷ 1 ∷ 1 ∷ 2 ∷ 0 ∷ 0 ∷ [];
      leaves = "     2     2     1     2     2\n" ∷ "  0  1  0  1  1  0  0  0  0  0  0  1\n" ∷ "  0  1  1  0  1  1  0  0  0  0  0  0\n" ∷ [];
    }
    -- 6 rows are refused at a terminal, whatever the grid and the client are
    ∷ record {
      before = "     6     1     1     1     0\n" ∷ "                                          \n" ∷ [];
      calls = terminal_enter 1 (0 ∷ 0 ∷ 0 ∷ 0 ∷ 0 ∷ 0 ∷ [])
          ∷ terminal_enter 9 (0 ∷ 0 ∷ 0 ∷ 0 ∷ 0 ∷ 0 ∷ [])
          ∷ terminal_enter 1 (2 ∷ [])
          ∷ [];
      numbers = 14 ∷ 14 ∷ 14 ∷ [];
      places = 0 ∷ 0 ∷ 0 ∷ [];
      leaves = "     6     1     1     1     0\n" ∷ "                                          \n" ∷ [];
    }
    -- clients that are not 1 to 8: asked after 7, and before 9 and 10
    ∷ record {
      before = "     1     1     1     1     1\n" ∷ "  0  1  0  0  0  0  0  0  0\n" ∷ [];
      calls = enter 0 (0 ∷ [])
          ∷ enter 9 (0 ∷ [])
          ∷ enter 257 (0 ∷ [])
          ∷ enter 9 (2 ∷ [])
          ∷ enter 9 (1 ∷ [])
          ∷ enter 1 (1 ∷ [])
          ∷ strike 0 (0 ∷ [])
          ∷ strike 9 (0 ∷ [])
          ∷ strike 257 (0 ∷ [])
          ∷ strike 9 (2 ∷ [])
          ∷ strike 9 (1 ∷ [])
          ∷ strike 2 (0 ∷ [])
          ∷ [];
      numbers = 15 ∷ 15 ∷ 15 ∷ 7 ∷ 15 ∷ 9 ∷ 15 ∷ 15 ∷ 15 ∷ 7 ∷ 15 ∷ 10 ∷ [];
      places = 0 ∷ 0 ∷ 0 ∷ 0 ∷ 0 ∷ 0 ∷ 0 ∷ 0 ∷ 0 ∷ 0 ∷ 0 ∷ 0 ∷ [];
      leaves = "     1     1     1     1     1\n" ∷ "  0  1  0  0  0  0  0  0  0\n" ∷ [];
    }
    -- the same at a terminal
    ∷ record {
      before = "     1     1     1     1     1\n" ∷ "  0  1  0  0  0  0  0  0  0\n" ∷ [];
      calls = terminal_enter 0 (0 ∷ [])
          ∷ terminal_enter 9 (0 ∷ [])
          ∷ terminal_enter 257 (0 ∷ [])
          ∷ terminal_enter 9 (2 ∷ [])
          ∷ terminal_enter 9 (1 ∷ [])
          ∷ terminal_enter 1 (1 ∷ [])
          ∷ [];
      numbers = 15 ∷ 15 ∷ 15 ∷ 7 ∷ 15 ∷ 9 ∷ [];
      places = 0 ∷ 0 ∷ 0 ∷ 0 ∷ 0 ∷ 0 ∷ [];
      leaves = "     1     1     1     1     1\n" ∷ "  0  1  0  0  0  0  0  0  0\n" ∷ [];
    }
    -- 999 is the most that a client holds of a class, whatever the others hold; a class that anyone holds passes 9 in a full register
    ∷ record {
      before = "     1     1     1     1     1\n" ∷ "  0999998  0  0  0  0  0  0\n" ∷ [];
      calls = enter 1 (0 ∷ [])
          ∷ enter 2 (0 ∷ [])
          ∷ enter 2 (0 ∷ [])
          ∷ enter 9 (0 ∷ [])
          ∷ enter 1 (1 ∷ [])
          ∷ strike 1 (0 ∷ [])
          ∷ enter 8 (0 ∷ [])
          ∷ enter 1 (0 ∷ [])
          ∷ enter 1 (0 ∷ [])
          ∷ [];
      numbers = 16 ∷ 101 ∷ 16 ∷ 15 ∷ 9 ∷ 0 ∷ 101 ∷ 101 ∷ 16 ∷ [];
      places = 0 ∷ 1 ∷ 0 ∷ 0 ∷ 0 ∷ 1 ∷ 1 ∷ 1 ∷ 0 ∷ [];
      leaves = "     1     1     1     1     1\n" ∷ "  0999999  0  0  0  0  0  1\n" ∷ [];
    }
    -- 16 leaves the bytes: enter's, and a terminal's
    ∷ record {
      before = "     1     1     1     1     1\n" ∷ "  0  0  0  0  0  0  0  0999\n" ∷ [];
      calls = enter 8 (0 ∷ []) ∷ [];
      numbers = 16 ∷ [];
      places = 0 ∷ [];
      leaves = "     1     1     1     1     1\n" ∷ "  0  0  0  0  0  0  0  0999\n" ∷ [];
    }
    ∷ record {
      before = "     1     1     1     1     1\n" ∷ "  0  0  0  0  0  0  0  0999\n" ∷ [];
      calls = terminal_enter 8 (0 ∷ []) ∷ [];
      numbers = 16 ∷ [];
      places = 0 ∷ [];
      leaves = "     1     1     1     1     1\n" ∷ "  0  0  0  0  0  0  0  0999\n" ∷ [];
    }
    -- a terminal's enters up to 999
    ∷ record {
      before = "     1     1     1     1     1\n" ∷ "  0  0  0  0  0  0  0  0999\n" ∷ [];
      calls = terminal_enter 7 (0 ∷ [])
          ∷ strike 8 (0 ∷ [])
          ∷ terminal_enter 8 (0 ∷ [])
          ∷ terminal_enter 8 (0 ∷ [])
          ∷ [];
      numbers = 101 ∷ 0 ∷ 101 ∷ 16 ∷ [];
      places = 1 ∷ 1 ∷ 1 ∷ 0 ∷ [];
      leaves = "     1     1     1     1     1\n" ∷ "  0  0  0  0  0  0  0  1999\n" ∷ [];
    }
    -- a book of several clients, call by call: a line goes with its last holding
    ∷ record {
      before = "     1     1     1     2     0\n" ∷ "                           \n" ∷ "                           \n" ∷ [];
      calls = enter 8 (1 ∷ []) ∷ [];
      numbers = 0 ∷ [];
      places = 1 ∷ [];
      leaves = "     1     1     1     2     1\n" ∷ "  1  0  0  0  0  0  0  0  1\n" ∷ "                           \n" ∷ [];
    }
    ∷ record {
      before = "     1     1     1     2     1\n" ∷ "  1  0  0  0  0  0  0  0  1\n" ∷ "                           \n" ∷ [];
      calls = enter 1 (0 ∷ []) ∷ [];
      numbers = 0 ∷ [];
      places = 1 ∷ [];
      leaves = "     1     1     1     2     2\n" ∷ "  0  1  0  0  0  0  0  0  0\n" ∷ "  1  0  0  0  0  0  0  0  1\n" ∷ [];
    }
    ∷ record {
      before = "     1     1     1     2     2\n" ∷ "  0  1  0  0  0  0  0  0  0\n" ∷ "  1  0  0  0  0  0  0  0  1\n" ∷ [];
      calls = enter 1 (1 ∷ []) ∷ [];
      numbers = 101 ∷ [];
      places = 2 ∷ [];
      leaves = "     1     1     1     2     2\n" ∷ "  0  1  0  0  0  0  0  0  0\n" ∷ "  1  1  0  0  0  0  0  0  1\n" ∷ [];
    }
    ∷ record {
      before = "     1     1     1     2     2\n" ∷ "  0  1  0  0  0  0  0  0  0\n" ∷ "  1  1  0  0  0  0  0  0  1\n" ∷ [];
      calls = terminal_enter 4 (1 ∷ []) ∷ [];
      numbers = 101 ∷ [];
      places = 2 ∷ [];
      leaves = "     1     1     1     2     2\n" ∷ "  0  1  0  0  0  0  0  0  0\n" ∷ "  1  1  0  0  1  0  0  0  1\n" ∷ [];
    }
    ∷ record {
      before = "     1     1     1     2     2\n" ∷ "  0  1  0  0  0  0  0  0  0\n" ∷ "  1  1  0  0  1  0  0  0  1\n" ∷ [];
      calls = strike 8 (1 ∷ []) ∷ [];
      numbers = 0 ∷ [];
      places = 2 ∷ [];
      leaves = "     1     1     1     2     2\n" ∷ "  0  1  0  0  0  0  0  0  0\n" ∷ "  1  1  0  0  1  0  0  0  0\n" ∷ [];
    }
    ∷ record {
      before = "     1     1     1     2     2\n" ∷ "  0  1  0  0  0  0  0  0  0\n" ∷ "  1  1  0  0  1  0  0  0  0\n" ∷ [];
      calls = enter 4 (1 ∷ []) ∷ [];
      numbers = 101 ∷ [];
      places = 2 ∷ [];
      leaves = "     1     1     1     2     2\n" ∷ "  0  1  0  0  0  0  0  0  0\n" ∷ "  1  1  0  0  2  0  0  0  0\n" ∷ [];
    }
    ∷ record {
      before = "     1     1     1     2     2\n" ∷ "  0  1  0  0  0  0  0  0  0\n" ∷ "  1  1  0  0  2  0  0  0  0\n" ∷ [];
      calls = strike 1 (0 ∷ []) ∷ [];
      numbers = 0 ∷ [];
      places = 1 ∷ [];
      leaves = "     1     1     1     2     1\n" ∷ "  1  1  0  0  2  0  0  0  0\n" ∷ "                           \n" ∷ [];
    }
    ∷ record {
      before = "     1     1     1     2     1\n" ∷ "  1  1  0  0  2  0  0  0  0\n" ∷ "                           \n" ∷ [];
      calls = strike 1 (1 ∷ []) ∷ [];
      numbers = 0 ∷ [];
      places = 1 ∷ [];
      leaves = "     1     1     1     2     1\n" ∷ "  1  0  0  0  2  0  0  0  0\n" ∷ "                           \n" ∷ [];
    }
    ∷ record {
      before = "     1     1     1     2     1\n" ∷ "  1  0  0  0  2  0  0  0  0\n" ∷ "                           \n" ∷ [];
      calls = strike 4 (1 ∷ []) ∷ [];
      numbers = 0 ∷ [];
      places = 1 ∷ [];
      leaves = "     1     1     1     2     1\n" ∷ "  1  0  0  0  1  0  0  0  0\n" ∷ "                           \n" ∷ [];
    }
    ∷ record {
      before = "     1     1     1     2     1\n" ∷ "  1  0  0  0  1  0  0  0  0\n" ∷ "                           \n" ∷ [];
      calls = strike 4 (1 ∷ []) ∷ [];
      numbers = 0 ∷ [];
      places = 1 ∷ [];
      leaves = "     1     1     1     2     0\n" ∷ "                           \n" ∷ "                           \n" ∷ [];
    }
    -- every client's own holding, each changed by another number
    ∷ record {
      before = "     1     1     0     1     1\n" ∷ "  0  1  2  3  4  5  6  7  8\n" ∷ [];
      calls = enter 1 (0 ∷ []) ∷ strike 2 (0 ∷ []) ∷ enter 3 (0 ∷ []) ∷ enter 3 (0 ∷ []) ∷ strike 4 (0 ∷ []) ∷ strike 4 (0 ∷ []) ∷ enter 5 (0 ∷ []) ∷ enter 5 (0 ∷ []) ∷ enter 5 (0 ∷ []) ∷ strike 6 (0 ∷ []) ∷ strike 6 (0 ∷ []) ∷ strike 6 (0 ∷ []) ∷ enter 7 (0 ∷ []) ∷ enter 7 (0 ∷ []) ∷ enter 7 (0 ∷ []) ∷ enter 7 (0 ∷ []) ∷ strike 8 (0 ∷ []) ∷ strike 8 (0 ∷ []) ∷ strike 8 (0 ∷ []) ∷ strike 8 (0 ∷ []) ∷ [];
      numbers = 101 ∷ 0 ∷ 101 ∷ 101 ∷ 0 ∷ 0 ∷ 101 ∷ 101 ∷ 101 ∷ 0 ∷ 0 ∷ 0 ∷ 101 ∷ 101 ∷ 101 ∷ 101 ∷ 0 ∷ 0 ∷ 0 ∷ 0 ∷ [];
      places = 1 ∷ 1 ∷ 1 ∷ 1 ∷ 1 ∷ 1 ∷ 1 ∷ 1 ∷ 1 ∷ 1 ∷ 1 ∷ 1 ∷ 1 ∷ 1 ∷ 1 ∷ 1 ∷ 1 ∷ 1 ∷ 1 ∷ 1 ∷ [];
      leaves = "     1     1     0     1     1\n" ∷ "  0  2  1  5  2  8  3 11  4\n" ∷ [];
    }
    -- a strike where another client holds the class
    ∷ record {
      before = "     1     1     1     2     2\n" ∷ "  0  1  0  0  0  0  0  0  0\n" ∷ "  1  1  0  0  1  0  0  0  0\n" ∷ [];
      calls = strike 8 (1 ∷ []) ∷ [];
      numbers = 10 ∷ [];
      places = 0 ∷ [];
      leaves = "     1     1     1     2     2\n" ∷ "  0  1  0  0  0  0  0  0  0\n" ∷ "  1  1  0  0  1  0  0  0  0\n" ∷ [];
    }
    ∷ []

unfoldable pub BooksKept : Type 0
BooksKept = All Opens openings × All KeptBook books
