-- Where a question of a call gets a no, the call answers its number with place or count 0, and changes no byte; nor does any count.
--
--   answered-refused  ==  the refusal of a first no
--   opened-refused, entered-refused, struck-refused, counted-refused  ==  where a question of the call gets a no
--   ZeroOrRefused k, refused-number  ==  k is 0 or not accepted; so is the first no where it is each question's number
--   count-unchanged  ==  a count changes nothing
--   count-numbers    ==  its number is at most 8: never 102, whatever the bytes are
use mathlib.Core.Path.{◌≡◌, refl}
use mathlib.Core.List.{List}
use mathlib.Core.Bool.{false}
use Prim.Native.Nat.{ℕ, zero, suc, ◌≤◌}
use native.Mathlib.Omega.{arith}
use Rattle.grids.specs.Questions.{Question, first_no, question6, question7}
use Rattle.grids.proofs.QuestionLaws.{EachNumber, first_no-has}
use Rattle.bounds.specs.Prune.{bounds_questions, question8}
use Rattle.layout.specs.Layout.{Shape, decode}
use Rattle.calls.specs.Entries.{least_in}
use Rattle.calls.specs.Calls.{Outcome, refusal, answered, question5, open_questions, enter_questions, strike_questions, count_questions, enter_register, strike_register, entries_in, count_register, opened, entered, struck, counted, accepted}

abbrev pub ZeroOrRefused : ℕ → Type 0
ZeroOrRefused zero = Unit {0}
ZeroOrRefused (suc k) = accepted (suc k) ≡ false

pub refused-number : (l : List Question) → EachNumber ZeroOrRefused l → (k : ℕ) → first_no l ≡ suc k → accepted (suc k) ≡ false
refused-number l h k e = rw e at (first_no-has ZeroOrRefused l tt h)

pub answered-refused : (j k : ℕ) (b : List ℕ) (o : Outcome) → j ≡ suc k → answered j b o ≡ refusal (suc k) b
unfolding answered
answered-refused j k b o e = rw e

pub opened-refused : (s : Shape) (b : List ℕ) (k : ℕ) → first_no (open_questions s b) ≡ suc k → opened s b ≡ refusal (suc k) b
unfolding opened
opened-refused s b k e = answered-refused _ k b _ e

pub entered-refused : (b : List ℕ) (c : ℕ) (g : List ℕ) (k : ℕ) → first_no (enter_questions b (decode b) c g (least_in (decode b).shape g)) ≡ suc k → entered b c g ≡ refusal (suc k) b
unfolding entered enter_register
entered-refused b c g k e = answered-refused _ k b _ e

pub struck-refused : (b : List ℕ) (c : ℕ) (g : List ℕ) (k : ℕ) → first_no (strike_questions b (decode b) c g (least_in (decode b).shape g)) ≡ suc k → struck b c g ≡ refusal (suc k) b
unfolding struck strike_register
struck-refused b c g k e = answered-refused _ k b _ e

pub counted-refused : (b low high : List ℕ) (k : ℕ) → first_no (count_questions b (decode b) low high) ≡ suc k → counted b low high ≡ refusal (suc k) b
unfolding counted count_register
counted-refused b low high k e = answered-refused _ k b _ e

-- what the outcome after the questions leaves, the call leaves
answered-bytes : (k : ℕ) (b : List ℕ) (o : Outcome) → o.bytes ≡ b → (answered k b o).bytes ≡ b
unfolding answered
answered-bytes zero b o e = e
answered-bytes (suc k) b o e = refl

pub count-numbers : (b low high : List ℕ) → (counted b low high).number ≤ 8
unfolding answered counted count_register count_questions bounds_questions question5 question6 question7 question8
count-numbers b low high = go (first_no (count_questions b (decode b) low high)) (first_no-has (λ k. k ≤ 8) (count_questions b (decode b) low high) (omega arith) (omega arith, (omega arith, (omega arith, (omega arith, tt)))))
  where
    go : (k : ℕ) → k ≤ 8 → (answered k b (record { number = 0; place = entries_in (decode b) low high; bytes = b })).number ≤ 8
    go zero h = omega arith
    go (suc k) h = h

pub count-unchanged : (b low high : List ℕ) → (counted b low high).bytes ≡ b
unfolding counted count_register
count-unchanged b low high = answered-bytes _ b _ refl
