-- Demand 1 of open, enter, strike, count and a terminal's enter, proved of every implementation that meets their contracts.
--
--   call-refused    ==  where a question of a call gets a no, it answers the number, and nothing changes
--   accepted-asked  ==  a call's number is accepted exactly where every question of the call gets a yes
--   demand1         ==  the demand
use mathlib.Core.Path.{◌≡◌, refl, sym, ap, ◌∙◌}
use mathlib.Core.List.{List}
use mathlib.Core.Bool.{Bool, true, false}
use Prim.Native.Nat.{ℕ, zero, suc}
use native.Mathlib.Omega.{arith}
use lib.ListN.{length}
use lib.Dec.{eqb}
use borrow.Author.Tests.{ne_eqb}
use Rattle.grids.specs.Questions.{first_no, question6, question7, question14, after_first}
use Rattle.bounds.specs.Prune.{bounds_questions, question8}
use Rattle.layout.specs.Layout.{Shape, Register, grids_of, decode}
use Rattle.calls.specs.Entries.{question9, question10, question15, question16, grid_questions, client_questions, holds}
use Rattle.calls.specs.Calls.{Outcome, refusal, answered, question5, open_questions, enter_questions, strike_questions, count_questions, terminal_enter_questions, enter_into, strike_from, enter_register, strike_register, count_register, terminal_enter_register, opened, entered, struck, counted, terminal_entered, accepted}
use Rattle.machine.specs.CallLists.{Call, enter, strike, count_in, terminal_enter, Implementation, register_calls, LentCall, Meets, called, questions_of}
use Rattle.machine.specs.Demand1.{Demand1}
use Rattle.calls.proofs.RefusalLaws.{opened-refused, entered-refused, struck-refused, counted-refused, refused-number, count-unchanged}
use Rattle.calls.proofs.CallLaws.{opened-length}
use Rattle.calls.proofs.TerminalLaws.{terminal-entered-refused}
use Rattle.machine.proofs.CallListLaws.{call_length, meets_call}

pub call-refused : (b : List ℕ) (c : Call) (k : ℕ) → first_no (questions_of b c) ≡ suc k → called register_calls b c ≡ refusal (suc k) b
unfolding called register_calls questions_of
call-refused b (enter c g) = entered-refused b c g
call-refused b (strike c g) = struck-refused b c g
call-refused b (count_in low high) = counted-refused b low high
call-refused b (terminal_enter c g) = terminal-entered-refused b c g

-- ---- no question's number is accepted

question-refused : (b : List ℕ) (c : Call) (k : ℕ) → first_no (questions_of b c) ≡ suc k → accepted (suc k) ≡ false
unfolding questions_of enter_questions strike_questions count_questions terminal_enter_questions after_first client_questions grid_questions bounds_questions question5 question6 question7 question8 question9 question10 question14 question15 question16 accepted
question-refused b (enter c g) = refused-number (questions_of b (enter c g)) (refl, (refl, (refl, (refl, (refl, (refl, tt))))))
question-refused b (strike c g) = refused-number (questions_of b (strike c g)) (refl, (refl, (refl, (refl, (refl, tt)))))
question-refused b (count_in low high) = refused-number (questions_of b (count_in low high)) (refl, (refl, (refl, (refl, tt))))
question-refused b (terminal_enter c g) = refused-number (questions_of b (terminal_enter c g)) (refl, (refl, (refl, (refl, (refl, (refl, (refl, tt)))))))

-- ---- what passes the questions is accepted

zero-accepted : accepted 0 ≡ true
unfolding accepted
zero-accepted = refl

into-accepted : (x : Register) (c : ℕ) (r : List ℕ) → accepted (enter_into x c r).number ≡ true
unfolding enter_into accepted
into-accepted x c r = go (holds r (grids_of x.entries)) refl
  where
    go : (h : Bool) → holds r (grids_of x.entries) ≡ h → accepted (enter_into x c r).number ≡ true
    go true h = rw (h, enter_into)
    go false h = rw (h, enter_into)

answered-accepted : (k : ℕ) (b : List ℕ) (o : Outcome) → (k ≡ 0 → accepted o.number ≡ true) → ((j : ℕ) → k ≡ suc j → accepted (suc j) ≡ false) → accepted (answered k b o).number ≡ eqb k 0
unfolding answered
answered-accepted zero b o h f = h refl
answered-accepted (suc k) b o h f = f k refl ∙ sym (ne_eqb (suc k) 0 (omega arith))

pub accepted-asked : (b : List ℕ) (c : Call) → accepted (called register_calls b c).number ≡ eqb (first_no (questions_of b c)) 0
unfolding called register_calls entered struck counted terminal_entered enter_register strike_register count_register terminal_enter_register questions_of strike_from
accepted-asked b (enter c g) = answered-accepted _ b _ (λ e. into-accepted (decode b) c _) (question-refused b (enter c g))
accepted-asked b (strike c g) = answered-accepted _ b _ (λ e. zero-accepted) (question-refused b (strike c g))
accepted-asked b (count_in low high) = answered-accepted _ b _ (λ e. zero-accepted) (question-refused b (count_in low high))
accepted-asked b (terminal_enter c g) = answered-accepted _ b _ (λ e. into-accepted (decode b) c _) (question-refused b (terminal_enter c g))

answered-zero : (k : ℕ) (b : List ℕ) (o : Outcome) → o.number ≡ 0 → eqb (answered k b o).number 0 ≡ eqb k 0
unfolding answered
answered-zero zero b o e = ap (λ (x : ℕ). eqb x 0) e
answered-zero (suc k) b o e = refl

open-asked : (s : Shape) (b : List ℕ) → eqb (opened s b).number 0 ≡ eqb (first_no (open_questions s b)) 0
unfolding opened
open-asked s b = answered-zero (first_no (open_questions s b)) b _ refl

-- ---- what a call leaves

count_kept : (b low high : List ℕ) → (called register_calls b (count_in low high)).bytes ≡ b
unfolding called register_calls
count_kept b low high = count-unchanged b low high

pub demand1 : (i : Implementation) → Meets i → Demand1 i
unfolding LentCall
demand1 i h = record {
  open-refuses = λ s b w l k e. h.opens s b w l ∙ opened-refused s b k e;
  refuses = λ b c l m k e. meets_call i h b c l m ∙ call-refused b c k e;
  open-accepts = λ s b w l. ap (λ (o : Outcome). eqb o.number 0) (h.opens s b w l) ∙ open-asked s b;
  accepts = λ b c l m. ap (λ (o : Outcome). accepted o.number) (meets_call i h b c l m) ∙ accepted-asked b c;
  count-unchanged = λ b low high l m n. ap (λ (o : Outcome). o.bytes) (meets_call i h b (count_in low high) l (m, n)) ∙ count_kept b low high;
  open-length = λ s b w l. ap (λ (o : Outcome). length o.bytes) (h.opens s b w l) ∙ opened-length s b;
  same_length = λ b c l m. ap (λ (o : Outcome). length o.bytes) (meets_call i h b c l m) ∙ call_length b c;
}
