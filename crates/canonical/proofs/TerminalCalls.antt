-- What the answers of a terminal's represent and same mean: for up to 5 rows those of represent and same, for 6 to 8 the number 14.
--
--   terminal-represent-asked, terminal-same-asked  ==  for up to 5 rows the first no is that of represent, of same
--   terminal-represent-pass, terminal-same-pass    ==  what the questions get a yes for, exactly
--   represent-alike, same_alike         ==  for up to 5 rows both sets answer alike, the pair of orders excepted
--   terminal-represent-many, terminal-same-many    ==  6 to 8 rows are refused by 14, whatever the other arguments are
--   terminal-represent-14, terminal-same-14        ==  and no other rows are
--   terminal-represent-least            ==  demand 2's sentence on represent, of every program that meets the contract of a terminal's
--   terminal-represent-answers, terminal-same-answers  ==  on all arguments there is an answer
use mathlib.Core.Path.{◌≡◌, refl, ◌∙◌}
use mathlib.Core.List.{List}
use mathlib.Core.Bool.{true}
use mathlib.Core.Logic.{◌↔◌}
use Prim.Native.Nat.{ℕ, ◌*◌, ◌≤◌, ◌<◌}
use native.Mathlib.Decide.{dec_le}
use native.Mathlib.Omega.{arith}
use lib.ListN.{length}
use Rattle.grids.specs.Grids.{IsGrid}
use Rattle.grids.specs.Questions.{Question, first_no, Limits, question1, question2, question3, question6, question7, question14, after_first}
use Rattle.grids.proofs.LentLaws.{grid-bytes, limits-lent}
use Rattle.grids.proofs.QuestionLaws.{first_no-has}
use Rattle.grids.proofs.TerminalLaws.{after-yes, other-rows, few-rows, many-rows, terminal-rows, terminal-no, terminal-pass}
use Rattle.canonical.specs.Represent.{RepresentAnswer, represent_questions, terminal_represent_questions, TerminalRepresented}
use Rattle.canonical.specs.Same.{SameAnswer, same_questions, terminal_same_questions, TerminalCompared, class_number, class_agreed, terminal_same_number, terminal_same_agreed}
use Rattle.canonical.specs.Programs.{RepresentProgram, MeetsRepresent, SameProgram, MeetsSame, MeetsTerminalRepresent, MeetsTerminalSame, RepresentAlike, SameAlike}
use Rattle.canonical.specs.Demand2.{TerminalRepresentLeast}
use Rattle.canonical.proofs.CallLaws.{represent-pass, same-pass, represented-done, represented-least, represented-alike, compared-alike, represented-by, compared-by}

-- questions with numbers below 14, and question 14 among them
only-14 : (m : ℕ) (l : List Question) → first_no l < 14 → first_no (after_first (question14 m) l) ≡ 14 → (6 ≤ m) × (m ≤ 8)
only-14 m l small z = (go6 (dec_le 6 m), go8 (dec_le m 8))
  where
    other : ((6 ≤ m) × (m ≤ 8) → ⊥) → ⊥
    other h = omega (arith, after-yes (question14 m) l (other-rows m h), small, z)

    go6 : Dec (6 ≤ m) → 6 ≤ m
    go6 (yes h) = h
    go6 (no h) = absurd (other (λ r. h r.0))

    go8 : Dec (m ≤ 8) → m ≤ 8
    go8 (yes h) = h
    go8 (no h) = absurd (other (λ r. h r.1))

-- ---- represent

module _ (m n top : ℕ) (g out : List ℕ) where
  pub terminal-represent-asked : (question14 m).answer ≡ true → first_no (terminal_represent_questions m n top g out) ≡ first_no (represent_questions m n top g out)
  unfolding terminal_represent_questions
  terminal-represent-asked e = after-yes (question14 m) (represent_questions m n top g out) e

  pub terminal-represent-pass : (first_no (terminal_represent_questions m n top g out) ≡ 0) ↔ ((m ≤ 5) × Limits m n top × IsGrid m n top g × (length out ≡ m * n))
  unfolding terminal_represent_questions represent_questions
  terminal-represent-pass = (
    λ z. let t = terminal-pass m _ z in let h = (represent-pass m n top g out).0 t.1 in (terminal-rows m h.0.rows-limits.1 t.0, h.0, h.1, h.2),
    λ h. terminal-represent-asked (few-rows m h.0) ∙ (represent-pass m n top g out).1 (h.1, h.2, h.3),
  )

  pub terminal-represent-many : 6 ≤ m → m ≤ 8 → first_no (terminal_represent_questions m n top g out) ≡ 14
  unfolding terminal_represent_questions represent_questions
  terminal-represent-many a b = terminal-no m _ (many-rows m a b)

  pub terminal-represent-14 : first_no (terminal_represent_questions m n top g out) ≡ 14 → (6 ≤ m) × (m ≤ 8)
  unfolding terminal_represent_questions represent_questions question1 question2 question3 question6 question7
  terminal-represent-14 z =
      only-14 m (represent_questions m n top g out)
      (first_no-has (λ k. k < 14) (represent_questions m n top g out) (omega arith) (omega arith, (omega arith, (omega arith, (omega arith, (omega arith, tt)))))) z

  pub terminal-represent-answers : (r : RepresentAnswer) × TerminalRepresented m n top g out r
  terminal-represent-answers = represented-by 5 _ m n g out λ z. let h = terminal-represent-pass.0 z in (h.0, h.1.column-limits.1, h.2.sized)

pub represent-alike : (f t : RepresentProgram) → MeetsRepresent f → MeetsTerminalRepresent t → RepresentAlike f t
unfolding MeetsRepresent MeetsTerminalRepresent RepresentAlike
represent-alike f t x y m n top g out o h =
    represented-alike 5 8 _ m n g out _ _ (rw (terminal-represent-asked m n top g out (few-rows m h)) at (y m n top g out o)) (x m n top g out o)

pub terminal-represent-least : (f : RepresentProgram) → MeetsTerminalRepresent f → TerminalRepresentLeast f
unfolding TerminalRepresentLeast MeetsTerminalRepresent
terminal-represent-least f c m n top g out h l i o e =
    represented-least 5 m n g _ i.sized
    (represented-done 5 _ m n g out _ ((terminal-represent-pass m n top g out).1 (h, l, i, e)) (c m n top g out (limits-lent m n top g out l (grid-bytes m n top g l i) o)))

-- ---- same

module _ (m n top : ℕ) (a b : List ℕ) where
  pub terminal-same-asked : (question14 m).answer ≡ true → first_no (terminal_same_questions m n top a b) ≡ first_no (same_questions m n top a b)
  unfolding terminal_same_questions
  terminal-same-asked e = after-yes (question14 m) (same_questions m n top a b) e

  pub terminal-same-pass : (first_no (terminal_same_questions m n top a b) ≡ 0) ↔ ((m ≤ 5) × Limits m n top × IsGrid m n top a × IsGrid m n top b)
  unfolding terminal_same_questions same_questions
  terminal-same-pass = (
    λ z. let t = terminal-pass m _ z in let h = (same-pass m n top a b).0 t.1 in (terminal-rows m h.0.rows-limits.1 t.0, h.0, h.1, h.2),
    λ h. terminal-same-asked (few-rows m h.0) ∙ (same-pass m n top a b).1 (h.1, h.2, h.3),
  )

  pub terminal-same-many : 6 ≤ m → m ≤ 8 → (terminal_same_number m n top a b ≡ 14) × (terminal_same_agreed m n top a b ≡ 0)
  unfolding terminal_same_number terminal_same_agreed terminal_same_questions same_questions class_number class_agreed
  terminal-same-many x y = rw (terminal-no m _ (many-rows m x y)) (refl, refl)

  pub terminal-same-14 : first_no (terminal_same_questions m n top a b) ≡ 14 → (6 ≤ m) × (m ≤ 8)
  unfolding terminal_same_questions same_questions question1 question2 question3 question6 question7
  terminal-same-14 z =
      only-14 m (same_questions m n top a b)
      (first_no-has (λ k. k < 14) (same_questions m n top a b) (omega arith) (omega arith, (omega arith, (omega arith, (omega arith, (omega arith, tt)))))) z

  pub terminal-same-answers : (r : SameAnswer) × TerminalCompared m n top a b r
  terminal-same-answers = compared-by 5 _ _ m n a b (λ z. let h = terminal-same-pass.0 z in (h.0, h.1.column-limits.1)) refl

pub same_alike : (f t : SameProgram) → MeetsSame f → MeetsTerminalSame t → SameAlike f t
unfolding MeetsSame MeetsTerminalSame SameAlike
same_alike f t x y m n top a b o h = compared-alike 5 8 _ _ m n a b _ _ (rw (terminal-same-asked m n top a b (few-rows m h)) at (y m n top a b o)) (x m n top a b o)
