-- What represent answers and writes, on all arguments. Only the pair of orders is the program's choice. A row order has `width` positions: 8, at a terminal 5.
--
--   Produces width m n a b rows columns  ==  the orders returned produce b from a: permutations of m rows and n columns, and each position past them holds its own number
--   Starting width rows columns    ==  the orders returned move nothing
--   Sizes m n rows columns         ==  rows and columns, the sizes of two orders, are m and n
--   RepresentAnswer                ==  what represent returns, and its output slice afterwards
--   RepresentDone width m n g r    ==  r is 0, the least arrangement, and orders that produce it
--   RepresentRefused width k out r ==  r is the number k, the output slice as it was, and orders that move nothing
--   RepresentedBy width k m n g out r    ==  where k is the first no, or 0, one may answer r
--   represent_questions m n top g out     ==  the questions that represent asks
--   Represented m n top g out r    ==  represent may answer r
--   terminal_represent_questions m n top g out, TerminalRepresented m n top g out r  ==  the same of a terminal's represent, which asks 14 directly after 1
use Rattle.std.specs.Prelude.{◌≡◌, List, [], ◌∷◌, ℕ, zero, suc, ◌*◌, take}
use Rattle.permutations.specs.Permutations.{IsPermutation, identity}
use Rattle.permutations.specs.Padded.{padded}
use Rattle.grids.specs.Grids.{arrangement}
use Rattle.grids.specs.Least.{least}
use Rattle.grids.specs.Questions.{Question, first_no, question1, question2, question3, question6, question7, question14, after_first}

pub record Produces (width m n : ℕ) (a b rows columns : List ℕ) : Type 0 where
  pub row-permutation : IsPermutation m (take m rows)
  pub column-permutation : IsPermutation n (take n columns)
  pub gives : arrangement m n (take m rows) (take n columns) a ≡ b
  pub row-rest : rows ≡ padded width m (take m rows)
  pub column-rest : columns ≡ padded 16 n (take n columns)

pub record Starting (width : ℕ) (rows columns : List ℕ) : Type 0 where
  pub row-identity : rows ≡ identity width
  pub column-identity : columns ≡ identity 16

pub record Sizes (m n rows columns : ℕ) : Type 0 where
  pub row-size : rows ≡ m
  pub column-size : columns ≡ n

pub record RepresentAnswer : Type 0 where
  pub number : ℕ
  pub rows : List ℕ
  pub columns : List ℕ
  pub out : List ℕ

pub record RepresentDone (width m n : ℕ) (g : List ℕ) (r : RepresentAnswer) : Type 0 where
  pub number_is : r.number ≡ 0
  pub written : r.out ≡ least m n g
  pub produced : Produces width m n g (least m n g) r.rows r.columns

pub record RepresentRefused (width k : ℕ) (out : List ℕ) (r : RepresentAnswer) : Type 0 where
  pub number_is : r.number ≡ k
  pub unchanged : r.out ≡ out
  pub starting : Starting width r.rows r.columns

unfoldable pub RepresentedBy : ℕ → ℕ → ℕ → ℕ → List ℕ → List ℕ → RepresentAnswer → Type 0
RepresentedBy width zero m n g out r = RepresentDone width m n g r
RepresentedBy width (suc k) m n g out r = RepresentRefused width (suc k) out r

unfoldable pub represent_questions : ℕ → ℕ → ℕ → List ℕ → List ℕ → List Question
represent_questions m n top g out =
    question1 m ∷ question2 n ∷ question3 top ∷ question6 (m * n) (g ∷ out ∷ []) ∷ question7 top (g ∷ []) ∷ []

abbrev pub Represented : ℕ → ℕ → ℕ → List ℕ → List ℕ → RepresentAnswer → Type 0
Represented m n top g out r = RepresentedBy 8 (first_no (represent_questions m n top g out)) m n g out r

-- ---- at a terminal

unfoldable pub terminal_represent_questions : ℕ → ℕ → ℕ → List ℕ → List ℕ → List Question
terminal_represent_questions m n top g out = after_first (question14 m) (represent_questions m n top g out)

abbrev pub TerminalRepresented : ℕ → ℕ → ℕ → List ℕ → List ℕ → RepresentAnswer → Type 0
TerminalRepresented m n top g out r = RepresentedBy 5 (first_no (terminal_represent_questions m n top g out)) m n g out r
