-- Lists of calls on a register, and what an implementation of the calls answers to them. A list may mix the calls of both sets.
--
--   Call                 ==  a client's enter and strike of a grid, count of the entries in bounds, a client's enter of a grid at a terminal
--   Implementation       ==  open, enter, strike, count and a terminal's enter, as functions of the numbers and slices that they are lent
--   register_calls        ==  the calls as calls/specs/Calls has them
--   LentShape s, LentCall c  ==  the numbers of an open are machine words; those of a call are, and its slices have bytes
--   Meets i              ==  the calls of i answer and leave what calls/specs/Calls says, on all machine words and slices of bytes
--   called i b c         ==  one call on the register's bytes
--   run i b calls        ==  the outcomes of the calls, each on the bytes that the one before left
--   left i b calls       ==  the bytes that the calls leave
--   questions_of b c      ==  the questions of a call on the register's bytes, in order
--   EnterAlike i         ==  on a register of up to 5 rows both enters of a grid answer alike and leave equal bytes
use Rattle.std.specs.Prelude.{◌≡◌, List, [], ◌∷◌, ℕ, ◌≤◌}
use Rattle.grids.specs.Questions.{Question}
use Rattle.grids.specs.Lent.{Bytes, IsWord}
use Rattle.layout.specs.Layout.{Shape, decode_shape, decode}
use Rattle.calls.specs.Entries.{least_in}
use Rattle.calls.specs.Calls.{Outcome, enter_questions, strike_questions, count_questions, terminal_enter_questions, opened, entered, struck, counted, terminal_entered}

pub data Call : Type 0 where
  enter : ℕ → List ℕ → Call
  strike : ℕ → List ℕ → Call
  count_in : List ℕ → List ℕ → Call
  terminal_enter : ℕ → List ℕ → Call

pub record Implementation : Type 0 where
  pub opens : Shape → List ℕ → Outcome
  pub enters : List ℕ → ℕ → List ℕ → Outcome
  pub strikes : List ℕ → ℕ → List ℕ → Outcome
  pub counts : List ℕ → List ℕ → List ℕ → Outcome
  pub terminal_enters : List ℕ → ℕ → List ℕ → Outcome

unfoldable pub register_calls : Implementation
register_calls = record { opens = opened; enters = entered; strikes = struck; counts = counted; terminal_enters = terminal_entered }

pub record LentShape (s : Shape) : Type 0 where
  pub rows-word : IsWord s.rows
  pub columns-word : IsWord s.columns
  pub top-word : IsWord s.top
  pub capacity-word : IsWord s.capacity

unfoldable pub LentCall : Call → Type 0
LentCall (enter c g) = IsWord c × Bytes g
LentCall (strike c g) = IsWord c × Bytes g
LentCall (count_in low high) = Bytes low × Bytes high
LentCall (terminal_enter c g) = IsWord c × Bytes g

pub record Meets (i : Implementation) : Type 0 where
  pub opens : (s : Shape) (b : List ℕ) → LentShape s → Bytes b → i.opens s b ≡ opened s b
  pub enters : (b : List ℕ) (c : ℕ) (g : List ℕ) → Bytes b → IsWord c → Bytes g → i.enters b c g ≡ entered b c g
  pub strikes : (b : List ℕ) (c : ℕ) (g : List ℕ) → Bytes b → IsWord c → Bytes g → i.strikes b c g ≡ struck b c g
  pub counts : (b low high : List ℕ) → Bytes b → Bytes low → Bytes high → i.counts b low high ≡ counted b low high
  pub terminal_enters : (b : List ℕ) (c : ℕ) (g : List ℕ) → Bytes b → IsWord c → Bytes g → i.terminal_enters b c g ≡ terminal_entered b c g

unfoldable pub called : Implementation → List ℕ → Call → Outcome
called i b (enter c g) = i.enters b c g
called i b (strike c g) = i.strikes b c g
called i b (count_in low high) = i.counts b low high
called i b (terminal_enter c g) = i.terminal_enters b c g

unfoldable pub run : Implementation → List ℕ → List Call → List Outcome
run i b [] = []
run i b (c ∷ calls) = called i b c ∷ run i (called i b c).bytes calls

unfoldable pub left : Implementation → List ℕ → List Call → List ℕ
left i b [] = b
left i b (c ∷ calls) = left i (called i b c).bytes calls

unfoldable pub questions_of : List ℕ → Call → List Question
questions_of b (enter c g) = enter_questions b (decode b) c g (least_in (decode b).shape g)
questions_of b (strike c g) = strike_questions b (decode b) c g (least_in (decode b).shape g)
questions_of b (count_in low high) = count_questions b (decode b) low high
questions_of b (terminal_enter c g) = terminal_enter_questions b (decode b) c g (least_in (decode b).shape g)

unfoldable pub EnterAlike : Implementation → Type 0
EnterAlike i = (b : List ℕ) (c : ℕ) (g : List ℕ) → Bytes b → IsWord c → Bytes g → (decode_shape b).rows ≤ 5 → i.terminal_enters b c g ≡ i.enters b c g
