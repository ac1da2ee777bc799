-- Demand 1 of open, enter, strike, count and a terminal's enter: a call that fails a check returns the number of the first one failed, place or count 0, and changes
-- no byte of the register. The other slices have no place in an outcome: they are lent to be read. Slices are of bytes, and numbers machine words.
--
--   Demand1 i  ==  the demand, of an implementation of the calls
use Rattle.std.specs.Prelude.{◌≡◌, List, ℕ, suc, length, eqb}
use Rattle.grids.specs.Questions.{first_no}
use Rattle.grids.specs.Lent.{Bytes}
use Rattle.layout.specs.Layout.{Shape}
use Rattle.calls.specs.Calls.{refusal, open_questions, accepted}
use Rattle.machine.specs.CallLists.{Call, count_in, Implementation, LentShape, LentCall, called, questions_of}

pub record Demand1 (i : Implementation) : Type 0 where
  -- where a question of the call gets a no
  pub open-refuses : (s : Shape) (b : List ℕ) → LentShape s → Bytes b → (k : ℕ) → first_no (open_questions s b) ≡ suc k → i.opens s b ≡ refusal (suc k) b
  pub refuses : (b : List ℕ) (c : Call) → Bytes b → LentCall c → (k : ℕ) → first_no (questions_of b c) ≡ suc k → called i b c ≡ refusal (suc k) b
  -- a call is accepted exactly where every question gets a yes
  pub open-accepts : (s : Shape) (b : List ℕ) → LentShape s → Bytes b → eqb (i.opens s b).number 0 ≡ eqb (first_no (open_questions s b)) 0
  pub accepts : (b : List ℕ) (c : Call) → Bytes b → LentCall c → accepted (called i b c).number ≡ eqb (first_no (questions_of b c)) 0
  -- a count changes no byte
  pub count-unchanged : (b low high : List ℕ) → Bytes b → Bytes low → Bytes high → (called i b (count_in low high)).bytes ≡ b
  -- no call changes the length of the slice
  pub open-length : (s : Shape) (b : List ℕ) → LentShape s → Bytes b → length (i.opens s b).bytes ≡ length b
  pub same_length : (b : List ℕ) (c : Call) → Bytes b → LentCall c → length (called i b c).bytes ≡ length b
