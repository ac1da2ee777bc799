-- What same answers, on all arguments. Only the pair of orders is the program's choice. A row order has `width` positions: 8, at a terminal 5.
--
--   SameAnswer                 ==  what same returns
--   SameRefused width k r      ==  r is the number k, no cell that agrees, and orders that move nothing
--   SameOneClass width m n a b r    ==  r is 0, m times n cells that agree, and orders that produce b from a
--   SameTwoClasses width m n a b r  ==  r is 103, how many leading cells of the representatives agree, and orders that move nothing
--   ComparedBy width k t m n a b r  ==  where k is the first no, or 0, and t tells whether the two grids are in one class, one may answer r
--   same_questions m n top a b  ==  the questions that same asks
--   Compared m n top a b r     ==  same may answer r
--   terminal_same_questions m n top a b, TerminalCompared m n top a b r  ==  the same of a terminal's same, which asks 14 directly after 1
--   class_number k t, class_agreed k t m n a b  ==  the number of each such answer, and how many cells agree
--   same_number m n top a b, same_agreed m n top a b, terminal_same_number m n top a b, terminal_same_agreed m n top a b  ==  those of same, and of a terminal's same
use Rattle.std.specs.Prelude.{◌≡◌, List, [], ◌∷◌, Bool, true, false, ℕ, zero, suc, ◌*◌}
use Rattle.grids.specs.CommonPrefix.{common_prefix_length}
use Rattle.grids.specs.Grids.{one_class}
use Rattle.grids.specs.Least.{least}
use Rattle.grids.specs.Questions.{Question, first_no, question1, question2, question3, question6, question7, question14, after_first}
use Rattle.canonical.specs.Represent.{Produces, Starting}

pub record SameAnswer : Type 0 where
  pub number : ℕ
  pub agreed : ℕ
  pub rows : List ℕ
  pub columns : List ℕ

pub record SameRefused (width k : ℕ) (r : SameAnswer) : Type 0 where
  pub number_is : r.number ≡ k
  pub agreed-is : r.agreed ≡ 0
  pub starting : Starting width r.rows r.columns

pub record SameOneClass (width m n : ℕ) (a b : List ℕ) (r : SameAnswer) : Type 0 where
  pub number_is : r.number ≡ 0
  pub agreed-is : r.agreed ≡ m * n
  pub produced : Produces width m n a b r.rows r.columns

pub record SameTwoClasses (width m n : ℕ) (a b : List ℕ) (r : SameAnswer) : Type 0 where
  pub number_is : r.number ≡ 103
  pub agreed-is : r.agreed ≡ common_prefix_length (least m n a) (least m n b)
  pub starting : Starting width r.rows r.columns

unfoldable pub ComparedBy : ℕ → ℕ → Bool → ℕ → ℕ → List ℕ → List ℕ → SameAnswer → Type 0
ComparedBy width zero true m n a b r = SameOneClass width m n a b r
ComparedBy width zero false m n a b r = SameTwoClasses width m n a b r
ComparedBy width (suc k) t m n a b r = SameRefused width (suc k) r

unfoldable pub same_questions : ℕ → ℕ → ℕ → List ℕ → List ℕ → List Question
same_questions m n top a b =
    question1 m ∷ question2 n ∷ question3 top ∷ question6 (m * n) (a ∷ b ∷ []) ∷ question7 top (a ∷ b ∷ []) ∷ []

abbrev pub Compared : ℕ → ℕ → ℕ → List ℕ → List ℕ → SameAnswer → Type 0
Compared m n top a b r = ComparedBy 8 (first_no (same_questions m n top a b)) (one_class m n a b) m n a b r

-- ---- at a terminal

unfoldable pub terminal_same_questions : ℕ → ℕ → ℕ → List ℕ → List ℕ → List Question
terminal_same_questions m n top a b = after_first (question14 m) (same_questions m n top a b)

abbrev pub TerminalCompared : ℕ → ℕ → ℕ → List ℕ → List ℕ → SameAnswer → Type 0
TerminalCompared m n top a b r = ComparedBy 5 (first_no (terminal_same_questions m n top a b)) (one_class m n a b) m n a b r

-- ---- what every such answer has

unfoldable pub class_number : ℕ → Bool → ℕ
class_number zero true = 0
class_number zero false = 103
class_number (suc k) t = suc k

unfoldable pub class_agreed : ℕ → Bool → ℕ → ℕ → List ℕ → List ℕ → ℕ
class_agreed zero true m n a b = m * n
class_agreed zero false m n a b = common_prefix_length (least m n a) (least m n b)
class_agreed (suc k) t m n a b = 0

unfoldable pub same_number : ℕ → ℕ → ℕ → List ℕ → List ℕ → ℕ
same_number m n top a b = class_number (first_no (same_questions m n top a b)) (one_class m n a b)

unfoldable pub same_agreed : ℕ → ℕ → ℕ → List ℕ → List ℕ → ℕ
same_agreed m n top a b = class_agreed (first_no (same_questions m n top a b)) (one_class m n a b) m n a b

unfoldable pub terminal_same_number : ℕ → ℕ → ℕ → List ℕ → List ℕ → ℕ
terminal_same_number m n top a b = class_number (first_no (terminal_same_questions m n top a b)) (one_class m n a b)

unfoldable pub terminal_same_agreed : ℕ → ℕ → ℕ → List ℕ → List ℕ → ℕ
terminal_same_agreed m n top a b = class_agreed (first_no (terminal_same_questions m n top a b)) (one_class m n a b) m n a b
