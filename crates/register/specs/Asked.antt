-- What enter and strike ask first. Between functions: no answer of a call is defined here.
--
--   client_no k c         ==  the first no k, or where it is 0 question 15's of a client
--   asked_by questions b c g  ==  the first no of questions 5, 6, 7 and 15, with what a caller asks besides after 5
--   entered_by questions b c g  ==  what enter then answers and leaves
--   Ready c b g least h   ==  b is a register with these numbers in line 1, c a client, and the slice begins with the least grid of the class of g
--   Asks k c b g least r  ==  r has the first no k, and where it is 0 the register is ready
use Rattle.std.specs.Prelude.{◌≡◌, List, [], ◌∷◌, ℕ, zero, suc, ◌*◌, ◌≤◌, length, take, Result, IfOk}
use Rattle.refusals.specs.declared.Refusal.{Refusal}
use Rattle.refusals.specs.Numbers.{asked_number}
use Rattle.grids.specs.Questions.{Question, first_no}
use Rattle.layout.specs.Layout.{clients, decode_shape, decode}
use Rattle.lines.specs.declared.head.Head.{Head}
use Rattle.calls.specs.Entries.{least_in, client_questions, question15}
use Rattle.calls.specs.Calls.{Outcome, answered, question5}
use Rattle.calls.specs.Valid.{Valid, entered_least}

unfoldable pub client_no : ℕ → ℕ → ℕ
client_no zero c = first_no (question15 c ∷ [])
client_no (suc k) c = suc k

abbrev pub asked_by : (ℕ → List Question → List Question) → List ℕ → ℕ → List ℕ → ℕ
asked_by questions b c g = first_no (questions (decode b).shape.rows (question5 b ∷ client_questions (decode b).shape c g))

abbrev pub entered_by : (ℕ → List Question → List Question) → List ℕ → ℕ → List ℕ → Outcome
entered_by questions b c g = answered (asked_by questions b c g) b (entered_least b c (least_in (decode b).shape g))

pub record Ready (c : ℕ) (b g least : List ℕ) (h : Head) : Type 0 where
  pub valid : Valid (h.rows * h.columns) h.count b
  pub client-is : (1 ≤ c) × (c ≤ clients)
  pub capacity-is : h.capacity ≡ (decode_shape b).capacity
  pub least-is : take (h.rows * h.columns) least ≡ least_in (decode b).shape g

pub record Asks (k c : ℕ) (b g least : List ℕ) (r : Result Head Refusal) : Type 0 where
  pub number_is : asked_number r ≡ k
  pub kept : length least ≡ 128
  pub ready : IfOk r (Ready c b g least)
