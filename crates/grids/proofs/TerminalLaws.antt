-- Question 14, and a question asked directly after the first one.
--
--   after-yes    ==  where it gets a yes, the first no is that of the other questions
--   after-no     ==  where it gets a no and the first question a yes, it is its number
--   after_stop   ==  where the first question gets a no, it is that question's number
--   other-rows, few-rows, many-rows  ==  question 14 gets a yes for rows other than 6 to 8, so for at most 5; a no for 6 to 8
--   no_rows      ==  rows that get a no are 6 to 8
--   rows_above   ==  from 6 rows on it asks whether they are more than 8
--   terminal-rows  ==  rows of at most 8 that get a yes are at most 5
--   terminal-no    ==  asked after question 1, a no gives 14
--   terminal-pass  ==  where no question gets a no, none of the others does, and question 14 gets a yes
use mathlib.Core.Path.{◌≡◌, sym, ap, ◌∙◌}
use mathlib.Core.List.{List, [], ◌∷◌}
use mathlib.Core.Bool.{true, false, true≢false, not}
use mathlib.Core.Logic.{◌⊎◌, inl, inr}
use Prim.Native.Nat.{ℕ, ◌≤◌, ◌<◌}
use native.Mathlib.Decide.{dec_le, dec_lt}
use native.Mathlib.Omega.{arith}
use lib.Dec.{ltb}
use borrow.Author.Tests.{lt-ltb, le-ltb}
use Rattle.permutations.proofs.BoolLaws.{yes_or_no}
use Rattle.grids.specs.Questions.{Question, first_no, question1, question14, after_first}
use Rattle.grids.proofs.QuestionLaws.{first_no-pass, first_no-stop, yes-range}
use Rattle.grids.proofs.QuestionSteps.{range-no}

-- ---- after the first question

pub after-yes : (q : Question) (l : List Question) → q.answer ≡ true → first_no (after_first q l) ≡ first_no l
unfolding after_first first_no
after-yes q [] e = first_no-pass q [] e
after-yes q (x ∷ l) e = ap (λ (k : ℕ). elim x.answer [ true ↦ k | false ↦ x.number ]) (first_no-pass q l e)

pub after-no : (q x : Question) (l : List Question) → x.answer ≡ true → q.answer ≡ false → first_no (after_first q (x ∷ l)) ≡ q.number
unfolding after_first
after-no q x l yes-first e = first_no-pass x (q ∷ l) yes-first ∙ first_no-stop q l e

pub after_stop : (q x : Question) (l : List Question) → x.answer ≡ false → first_no (after_first q (x ∷ l)) ≡ x.number
unfolding after_first
after_stop q x l e = first_no-stop x (q ∷ l) e

-- ---- question 14

pub other-rows : (m : ℕ) → ((6 ≤ m) × (m ≤ 8) → ⊥) → (question14 m).answer ≡ true
unfolding question14
other-rows m h = ap not (range-no 6 8 m h)

pub few-rows : (m : ℕ) → m ≤ 5 → (question14 m).answer ≡ true
few-rows m h = other-rows m (λ r. omega arith)

pub many-rows : (m : ℕ) → 6 ≤ m → m ≤ 8 → (question14 m).answer ≡ false
unfolding question14
many-rows m a b = ap not (yes-range 6 8 m (a, b))

pub rows_above : (m : ℕ) → 6 ≤ m → ltb 8 m ≡ (question14 m).answer
rows_above m h = go (dec_lt 8 m)
  where
    go : Dec (8 < m) → ltb 8 m ≡ (question14 m).answer
    go (yes k) = lt-ltb 8 m k ∙ sym (other-rows m (λ r. omega arith))
    go (no k) = le-ltb 8 m (omega arith) ∙ sym (many-rows m h (omega arith))

pub terminal-rows : (m : ℕ) → m ≤ 8 → (question14 m).answer ≡ true → m ≤ 5
terminal-rows m h e = go (dec_le m 5)
  where
    go : Dec (m ≤ 5) → m ≤ 5
    go (yes k) = k
    go (no k) = absurd (true≢false (sym e ∙ many-rows m (omega arith) h))

-- ---- after question 1

-- rows that get a no are within question 1's limits
pub no_rows : (m : ℕ) → (question14 m).answer ≡ false → (6 ≤ m) × (m ≤ 8)
no_rows m e = (go6 (dec_le 6 m), go8 (dec_le m 8))
  where
    other : ((6 ≤ m) × (m ≤ 8) → ⊥) → ⊥
    other h = true≢false (sym (other-rows m h) ∙ e)

    go6 : Dec (6 ≤ m) → 6 ≤ m
    go6 (yes h) = h
    go6 (no h) = absurd (other (λ r. h r.0))

    go8 : Dec (m ≤ 8) → m ≤ 8
    go8 (yes h) = h
    go8 (no h) = absurd (other (λ r. h r.1))

pub terminal-no : (m : ℕ) (l : List Question) → (question14 m).answer ≡ false → first_no (after_first (question14 m) (question1 m ∷ l)) ≡ 14
unfolding question14 question1
terminal-no m l e = let r = no_rows m e in after-no (question14 m) (question1 m) l (yes-range 1 8 m (omega (arith, r.0), r.1)) e

pub terminal-pass : (m : ℕ) (l : List Question) → first_no (after_first (question14 m) (question1 m ∷ l)) ≡ 0 → ((question14 m).answer ≡ true) × (first_no (question1 m ∷ l) ≡ 0)
terminal-pass m l z = go (yes_or_no (question14 m).answer)
  where
    go : ((question14 m).answer ≡ true) ⊎ ((question14 m).answer ≡ false) → ((question14 m).answer ≡ true) × (first_no (question1 m ∷ l) ≡ 0)
    go (inl e) = (e, sym (after-yes (question14 m) (question1 m ∷ l) e) ∙ z)
    go (inr e) = let d = terminal-no m l e in absurd (omega (arith, d, z))
