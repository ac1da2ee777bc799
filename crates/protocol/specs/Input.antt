-- The lines of planbook's input. A line is laid as documents 01 and 02 say if laying out what it states gives it back.
--
--   lines s           ==  the lines of the bytes s, each with its line feed; the last may have none
--   onto b ls         ==  the byte b put in front of the first line
--   first_line s       ==  line 1; nothing where there is none
--   further_lines s    ==  the lines after it
--   shape_line s       ==  line 1 as it is laid: rows, columns, top and capacity, each 6 wide, and a line feed
--   leads k client    ==  the numbers before the cells of the command k: the command, and for 1 and 2 the client
--   lead_length k      ==  how many bytes they take, 6 wide each
--   command_line k client c  ==  a further line as it is laid: these numbers, the cells c, 3 wide, and a line feed
--   cell_count size k  ==  how many cells the command k has, of grids with so many: for 3 low and high of each, else one
--   command_in l       ==  the command that a line states
--   client_in l        ==  the client that it states; 0 for command 3, which names none
--   cells_in size l    ==  the cells that it states, as many as its command has
--   is_laid size l     ==  the line is laid so: the command is 1 to 3, and no cell is above 255; the client may be any number
use Rattle.std.specs.Prelude.{List, [], ◌∷◌, ◌++◌, Bool, true, false, ◌&&◌, ℕ, ◌*◌, get_or, drop, eqb}
use Rattle.grids.specs.Order.{equal}
use Rattle.grids.specs.Grids.{capped}
use Rattle.grids.specs.Questions.{in_range}
use Rattle.layout.specs.Layout.{Shape, fields, number_at, cells_of}

unfoldable pub onto : ℕ → List (List ℕ) → List (List ℕ)
onto b [] = (b ∷ []) ∷ []
onto b (l ∷ ls) = (b ∷ l) ∷ ls

unfoldable pub lines : List ℕ → List (List ℕ)
lines [] = []
lines (b ∷ s) = elim (eqb b 10) [ true ↦ (b ∷ []) ∷ lines s | false ↦ onto b (lines s) ]

unfoldable pub first_line : List ℕ → List ℕ
first_line s = get_or (lines s) 0 []

unfoldable pub further_lines : List ℕ → List (List ℕ)
further_lines s = drop 1 (lines s)

unfoldable pub shape_line : Shape → List ℕ
shape_line s = fields 6 (s.rows ∷ s.columns ∷ s.top ∷ s.capacity ∷ []) ++ (10 ∷ [])

unfoldable pub leads : ℕ → ℕ → List ℕ
leads k client = elim (eqb k 3) [ true ↦ k ∷ [] | false ↦ k ∷ client ∷ [] ]

unfoldable pub lead_length : ℕ → ℕ
lead_length k = elim (eqb k 3) [ true ↦ 6 | false ↦ 12 ]

unfoldable pub command_line : ℕ → ℕ → List ℕ → List ℕ
command_line k client c = fields 6 (leads k client) ++ (fields 3 c ++ (10 ∷ []))

unfoldable pub cell_count : ℕ → ℕ → ℕ
cell_count size k = elim (eqb k 3) [ true ↦ 2 * size | false ↦ size ]

unfoldable pub command_in : List ℕ → ℕ
command_in l = number_at 6 0 l

unfoldable pub client_in : List ℕ → ℕ
client_in l = elim (eqb (command_in l) 3) [ true ↦ 0 | false ↦ number_at 6 6 l ]

unfoldable pub cells_in : ℕ → List ℕ → List ℕ
cells_in size l = cells_of (cell_count size (command_in l)) (drop (lead_length (command_in l)) l)

unfoldable pub is_laid : ℕ → List ℕ → Bool
is_laid size l = in_range 1 3 (command_in l) && (equal (command_line (command_in l) (client_in l) (cells_in size l)) l && capped 255 (cells_in size l))
