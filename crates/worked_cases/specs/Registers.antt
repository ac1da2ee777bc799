-- Question 5 of some byte strings, as one table: which are registers.
--
--   RegisterCase   ==  bytes, as text, and the answer
--   registers      ==  the table
--   RegistersHold  ==  the statement: question 5 answers so
use Rattle.std.specs.Prelude.{◌≡◌, List, [], ◌∷◌, Bool, true, false, replicate}
use Prim.Native.String.{String}
use Rattle.permutations.specs.Lists.{All}
use Rattle.layout.specs.Layout.{laid_out}
use Rattle.worked_cases.specs.Text.{text}

pub record RegisterCase : Type 0 where
  pub lines : List String
  pub answer : Bool

unfoldable pub registers : List RegisterCase
registers =
    -- entries and a blank line; none; as many as the capacity
    record { lines = "     1     1     1     3     2\n" ∷ "  0  1  0  0  0  0  0  0  0\n" ∷ "  1  1  0  0  0  0  0  0  0\n" ∷ "                           \n" ∷ []; answer = true }
    ∷ record { lines = "     1     1     1     3     0\n" ∷ "                           \n" ∷ "                           \n" ∷ "                           \n" ∷ []; answer = true }
    ∷ record { lines = "     1     1     1     2     2\n" ∷ "  0  1  0  0  0  0  0  0  0\n" ∷ "  1  1  0  0  0  0  0  0  0\n" ∷ []; answer = true }
    -- cells row after row; an entry need not be a representative
    ∷ record { lines = "     2     2    15     2     2\n" ∷ "  0 10  0 15  1  0  0  0  0  0  0  0\n" ∷ "  0 15  0 10  1  0  0  0  0  0  0  0\n" ∷ []; answer = true }
    -- descending; twice the same; the second cell decides
    ∷ record { lines = "     1     1     1     3     2\n" ∷ "  1  1  0  0  0  0  0  0  0\n" ∷ "  0  1  0  0  0  0  0  0  0\n" ∷ "                           \n" ∷ []; answer = false }
    ∷ record { lines = "     1     1     1     3     2\n" ∷ "  0  1  0  0  0  0  0  0  0\n" ∷ "  0  1  0  0  0  0  0  0  0\n" ∷ "                           \n" ∷ []; answer = false }
    ∷ record { lines = "     1     2     1     2     2\n" ∷ "  0  1  1  0  0  0  0  0  0  0\n" ∷ "  0  0  1  0  0  0  0  0  0  0\n" ∷ []; answer = false }
    -- the first and the third ascend, the second does not
    ∷ record { lines = "     1     1     3     3     3\n" ∷ "  1  1  0  0  0  0  0  0  0\n" ∷ "  0  1  0  0  0  0  0  0  0\n" ∷ "  2  1  0  0  0  0  0  0  0\n" ∷ []; answer = false }
    -- a cell above top
    ∷ record { lines = "     1     1     1     3     2\n" ∷ "  0  1  0  0  0  0  0  0  0\n" ∷ "  2  1  0  0  0  0  0  0  0\n" ∷ "                           \n" ∷ []; answer = false }
    -- a leading zero, a cell left-justified, a cell that is blank, one that is no number
    ∷ record { lines = "     1     1     1     3     2\n" ∷ "  0  1  0  0  0  0  0  0  0\n" ∷ " 01  1  0  0  0  0  0  0  0\n" ∷ "                           \n" ∷ []; answer = false }
    ∷ record { lines = "     1     1     1     3     2\n" ∷ "0    1  0  0  0  0  0  0  0\n" ∷ "  1  1  0  0  0  0  0  0  0\n" ∷ "                           \n" ∷ []; answer = false }
    ∷ record { lines = "     1     1     1     3     2\n" ∷ "     1  0  0  0  0  0  0  0\n" ∷ "  1  1  0  0  0  0  0  0  0\n" ∷ "                           \n" ∷ []; answer = false }
    ∷ record { lines = "     1     1     1     3     2\n" ∷ "  0  1  0  0  0  0  0  0  0\n" ∷ " +1  1  0  0  0  0  0  0  0\n" ∷ "                           \n" ∷ []; answer = false }
    -- a rest that is not blank: an entry behind the count, zeros, dots
    ∷ record { lines = "     1     1     1     3     1\n" ∷ "  0  1  0  0  0  0  0  0  0\n" ∷ "  1  1  0  0  0  0  0  0  0\n" ∷ "                           \n" ∷ []; answer = false }
    ∷ record { lines = "     1     1     1     3     2\n" ∷ "  0  1  0  0  0  0  0  0  0\n" ∷ "  1  1  0  0  0  0  0  0  0\n" ∷ "000000000000000000000000000\n" ∷ []; answer = false }
    ∷ record { lines = "     1     1     1     3     2\n" ∷ "  0  1  0  0  0  0  0  0  0\n" ∷ "  1  1  0  0  0  0  0  0  0\n" ∷ "...........................\n" ∷ []; answer = false }
    -- a carriage return for a line feed, in each kind of line
    ∷ record { lines = "     1     1     1     3     2\r" ∷ "  0  1  0  0  0  0  0  0  0\n" ∷ "  1  1  0  0  0  0  0  0  0\n" ∷ "                           \n" ∷ []; answer = false }
    ∷ record { lines = "     1     1     1     3     2\n" ∷ "  0  1  0  0  0  0  0  0  0\n" ∷ "  1  1  0  0  0  0  0  0  0\r" ∷ "                           \n" ∷ []; answer = false }
    ∷ record { lines = "     1     1     1     3     2\n" ∷ "  0  1  0  0  0  0  0  0  0\n" ∷ "  1  1  0  0  0  0  0  0  0\n" ∷ "                           \r" ∷ []; answer = false }
    -- a byte more, a byte fewer, a line more, a line fewer, nothing
    ∷ record { lines = "     1     1     1     3     2\n" ∷ "  0  1  0  0  0  0  0  0  0\n" ∷ "  1  1  0  0  0  0  0  0  0\n" ∷ "                           \n" ∷ " " ∷ []; answer = false }
    ∷ record { lines = "     1     1     1     3     2\n" ∷ "  0  1  0  0  0  0  0  0  0\n" ∷ "  1  1  0  0  0  0  0  0  0\n" ∷ "                           " ∷ []; answer = false }
    ∷ record { lines = "     1     1     1     3     2\n" ∷ "  0  1  0  0  0  0  0  0  0\n" ∷ "  1  1  0  0  0  0  0  0  0\n" ∷ "                           \n" ∷ "                           \n" ∷ []; answer = false }
    ∷ record { lines = "     1     1     1     3     2\n" ∷ "  0  1  0  0  0  0  0  0  0\n" ∷ "  1  1  0  0  0  0  0  0  0\n" ∷ []; answer = false }
    ∷ record { lines = []; answer = false }
    -- the count above the capacity
    ∷ record { lines = "     1     1     1     1     2\n" ∷ "  0  1  0  0  0  0  0  0  0\n" ∷ "  1  1  0  0  0  0  0  0  0\n" ∷ []; answer = false }
    -- line 1: a leading zero, a number left-justified, a number that is blank
    ∷ record { lines = "    01     1     1     1     0\n" ∷ "                           \n" ∷ []; answer = false }
    ∷ record { lines = "1          1     1     1     0\n" ∷ "                           \n" ∷ []; answer = false }
    ∷ record { lines = "     1     1     1     1      \n" ∷ "                           \n" ∷ []; answer = false }
    -- the order of line 1: rows, columns, top, capacity, count
    ∷ record { lines = "     1     2     3     4     0\n" ∷ "                              \n" ∷ "                              \n" ∷ "                              \n" ∷ "                              \n" ∷ []; answer = true }
    ∷ record { lines = "     1     3     2     4     0\n" ∷ "                              \n" ∷ "                              \n" ∷ "                              \n" ∷ "                              \n" ∷ []; answer = false }
    ∷ record { lines = "     1     2     4     3     0\n" ∷ "                              \n" ∷ "                              \n" ∷ "                              \n" ∷ "                              \n" ∷ []; answer = false }
    -- the limits, each at its edge and past it
    ∷ record { lines = "     8     1     0     1     0\n" ∷ "                                                \n" ∷ []; answer = true }
    ∷ record { lines = "     9     1     0     1     0\n" ∷ "                                                   \n" ∷ []; answer = false }
    ∷ record { lines = "     0     1     0     1     0\n" ∷ "                        \n" ∷ []; answer = false }
    ∷ record { lines = "     1    16     0     1     0\n" ∷ "                                                                        \n" ∷ []; answer = true }
    ∷ record { lines = "     1    17     0     1     0\n" ∷ "                                                                           \n" ∷ []; answer = false }
    ∷ record { lines = "     1     0     0     1     0\n" ∷ "                        \n" ∷ []; answer = false }
    ∷ record { lines = "     1     1    15     1     1\n" ∷ " 15  1  0  0  0  0  0  0  0\n" ∷ []; answer = true }
    ∷ record { lines = "     1     1    16     1     1\n" ∷ " 15  1  0  0  0  0  0  0  0\n" ∷ []; answer = false }
    ∷ record { lines = "     1     1     0   500     0\n" ∷ replicate 500 "                           \n"; answer = true }
    ∷ record { lines = "     1     1     0   501     0\n" ∷ replicate 501 "                           \n"; answer = false }
    ∷ record { lines = "     1     1     0     0     0\n" ∷ []; answer = false }
    -- holdings: client 1 first and client 8 last, by several clients, 999 of each client, whatever top is
    ∷ record { lines = "     1     1     1     1     1\n" ∷ "  0  1  0  0  0  0  0  0  0\n" ∷ []; answer = true }
    ∷ record { lines = "     1     1     1     1     1\n" ∷ "  0  0  0  0  0  0  0  0  1\n" ∷ []; answer = true }
    ∷ record { lines = "     1     1     1     1     1\n" ∷ "  0  0 10999  0  0  0  1  0\n" ∷ []; answer = true }
    ∷ record { lines = "     1     1     0     1     1\n" ∷ "  0999999999999999999999999\n" ∷ []; answer = true }
    -- all eight 0, whatever the cells
    ∷ record { lines = "     1     1     1     1     1\n" ∷ "  0  0  0  0  0  0  0  0  0\n" ∷ []; answer = false }
    ∷ record { lines = "     1     1     1     2     2\n" ∷ "  0  1  0  0  0  0  0  0  0\n" ∷ "  1  0  0  0  0  0  0  0  0\n" ∷ []; answer = false }
    ∷ record { lines = "     2     1     1     1     1\n" ∷ "  1  0  0  0  0  0  0  0  0  0\n" ∷ []; answer = false }
    -- a holding with a leading zero, left-justified, blank, the last one blank, all blank
    ∷ record { lines = "     1     1     1     1     1\n" ∷ "  0 01  0  0  0  0  0  0  0\n" ∷ []; answer = false }
    ∷ record { lines = "     1     1     1     1     1\n" ∷ "  01    0  0  0  0  0  0  0\n" ∷ []; answer = false }
    ∷ record { lines = "     1     1     1     1     1\n" ∷ "  0     1  0  0  0  0  0  0\n" ∷ []; answer = false }
    ∷ record { lines = "     1     1     1     1     1\n" ∷ "  0  1  0  0  0  0  0  0   \n" ∷ []; answer = false }
    ∷ record { lines = "     1     1     1     1     1\n" ∷ "  0                        \n" ∷ []; answer = false }
    -- a letter, a sign, a point, the byte after 9
    ∷ record { lines = "     1     1     1     1     1\n" ∷ "  0  x  0  0  0  0  0  0  0\n" ∷ []; answer = false }
    ∷ record { lines = "     1     1     1     1     1\n" ∷ "  0 +1  0  0  0  0  0  0  0\n" ∷ []; answer = false }
    ∷ record { lines = "     1     1     1     1     1\n" ∷ "  01.0  0  0  0  0  0  0  0\n" ∷ []; answer = false }
    ∷ record { lines = "     1     1     1     1     1\n" ∷ "  0  :  0  0  0  0  0  0  0\n" ∷ []; answer = false }
    -- 1000 cannot be laid: with a byte more, or with the next holding narrower
    ∷ record { lines = "     1     1     1     1     1\n" ∷ "  01000  0  0  0  0  0  0  0\n" ∷ []; answer = false }
    ∷ record { lines = "     1     1     1     1     1\n" ∷ "  01000 0  0  0  0  0  0  0\n" ∷ []; answer = false }
    -- seven holdings, nine, and none: the layout without holdings
    ∷ record { lines = "     1     1     1     1     1\n" ∷ "  0  1  0  0  0  0  0  0\n" ∷ []; answer = false }
    ∷ record { lines = "     1     1     1     1     1\n" ∷ "  0  1  0  0  0  0  0  0  0  0\n" ∷ []; answer = false }
    ∷ record { lines = "     1     1     1     1     1\n" ∷ "  0\n" ∷ []; answer = false }
    ∷ record { lines = "     1     1     1     1     0\n" ∷ "   \n" ∷ []; answer = false }
    ∷ record { lines = "     2     2     1     2     2\n" ∷ "  0  0  1  1\n" ∷ "  0  1  1  0\n" ∷ []; answer = false }
    -- entries ascend by their cells alone: with holdings that descend; equal cells with other holdings; cells that descend with holdings that ascend
    ∷ record { lines = "     1     1     1     2     2\n" ∷ "  0  2  0  0  0  0  0  0  3\n" ∷ "  1  1  0  0  0  0  0  0  0\n" ∷ []; answer = true }
    ∷ record { lines = "     1     1     1     2     2\n" ∷ "  0  1  0  0  0  0  0  0  0\n" ∷ "  0  2  0  0  0  0  0  0  0\n" ∷ []; answer = false }
    ∷ record { lines = "     1     1     1     2     2\n" ∷ "  0  1  0  0  0  0  0  0  0\n" ∷ "  0  0  1  0  0  0  0  0  0\n" ∷ []; answer = false }
    ∷ record { lines = "     1     1     1     2     2\n" ∷ "  1  1  0  0  0  0  0  0  0\n" ∷ "  0  2  0  0  0  0  0  0  0\n" ∷ []; answer = false }
    -- holdings on a blank line, of nothing and of some
    ∷ record { lines = "     1     1     1     1     0\n" ∷ "     0  0  0  0  0  0  0  0\n" ∷ []; answer = false }
    ∷ record { lines = "     1     1     1     1     0\n" ∷ "     1  0  0  0  0  0  0  0\n" ∷ []; answer = false }
    ∷ []

unfoldable pub RegistersHold : Type 0
RegistersHold = All (λ c. laid_out (text c.lines) ≡ c.answer) registers
