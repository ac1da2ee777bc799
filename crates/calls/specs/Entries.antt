-- What the calls on bytes and the plain machine share: entries, which the machine keeps in its set too, their holdings and places, and the questions
-- that go by them.
--
--   more c h, fewer c h  ==  holdings with one more for client c, with one fewer
--   least_in s g          ==  the least grid of the class of g, a grid of the shape
--   Once l               ==  no grid stands twice in l
--   holds r l            ==  the grid r stands among the grids of l
--   holdings_in r l       ==  the holdings of the grid r among entries: eight 0 where it is none of them
--   held_by c r l         ==  client c's holding of it
--   place_in l r          ==  1 plus the number of grids of l that come before r
--   insert e l           ==  an entry put where it belongs in an ascending list
--   without r l          ==  the entries of l whose grid is not r
--   question9, question10, question15, question16  ==  the questions of documents 01 and 02 with these numbers
--   grid_questions s g    ==  questions 6 and 7 of a grid
--   client_questions s c g  ==  questions 6 and 7 of a grid, and 15 of a client
use mathlib.Core.List.{List, [], ◌∷◌, ◌++◌, Memᴰ}
use Rattle.std.specs.Prelude.{Bool, true, false, not, ◌||◌, ℕ, suc, ◌+◌, ◌-◌, length, ltb}
use Rattle.permutations.specs.Lists.{select, some}
use Rattle.grids.specs.Order.{leq, less, equal}
use Rattle.grids.specs.Least.{least}
use Rattle.grids.specs.Questions.{Question, in_range, question6, question7}
use Rattle.layout.specs.Layout.{Shape, Entry, Register, clients, no_holdings, most_held, grids_of, grid_size, holding, changed}

-- ---- holdings

unfoldable pub more : ℕ → List ℕ → List ℕ
more c h = changed c (holding c h + 1) h

unfoldable pub fewer : ℕ → List ℕ → List ℕ
fewer c h = changed c (holding c h - 1) h

-- ---- entries

abbrev pub least_in : Shape → List ℕ → List ℕ
least_in s g = least s.rows s.columns g

abbrev pub Once : List (List ℕ) → Type 0
Once [] = Unit {0}
Once (x ∷ l) = (Memᴰ x l → ⊥) × Once l

unfoldable pub holds : List ℕ → List (List ℕ) → Bool
holds r l = some (equal r) l

unfoldable pub holdings_in : List ℕ → List Entry → List ℕ
holdings_in r [] = no_holdings
holdings_in r (e ∷ l) = elim (equal r e.grid) [ true ↦ e.holdings | false ↦ holdings_in r l ]

unfoldable pub held_by : ℕ → List ℕ → List Entry → ℕ
held_by c r l = holding c (holdings_in r l)

unfoldable pub place_in : List (List ℕ) → List ℕ → ℕ
place_in l r = suc (length (select (λ x. less x r) l))

unfoldable pub insert : Entry → List Entry → List Entry
insert e [] = e ∷ []
insert e (x ∷ l) = elim (leq e.grid x.grid) [ true ↦ e ∷ x ∷ l | false ↦ x ∷ insert e l ]

unfoldable pub without : List ℕ → List Entry → List Entry
without r l = select (λ e. not (equal r e.grid)) l

-- ---- the questions

-- is the class held by anyone, or the count below capacity?
unfoldable pub question9 : Register → List ℕ → Question
question9 x r = record { number = 9; answer = holds r (grids_of x.entries) || ltb (length x.entries) x.shape.capacity }

-- does this client hold the class?
unfoldable pub question10 : Register → ℕ → List ℕ → Question
question10 x c r = record { number = 10; answer = ltb 0 (held_by c r x.entries) }

-- is the client 1 to 8?
unfoldable pub question15 : ℕ → Question
question15 c = record { number = 15; answer = in_range 1 clients c }

-- is this client's holding below 999?
unfoldable pub question16 : Register → ℕ → List ℕ → Question
question16 x c r = record { number = 16; answer = ltb (held_by c r x.entries) most_held }

unfoldable pub grid_questions : Shape → List ℕ → List Question
grid_questions s g = question6 (grid_size s) (g ∷ []) ∷ question7 s.top (g ∷ []) ∷ []

unfoldable pub client_questions : Shape → ℕ → List ℕ → List Question
client_questions s c g = grid_questions s g ++ (question15 c ∷ [])
