-- Marked plans that serve as small cases, and calls of such cases.
--
--   m1, m1-least  ==  M1: 223/231, and its least arrangement 123/322; the rows and columns of both are sorted
--   m5, m5-least  ==  M5: 302, and its least arrangement 023
--   m5-back       ==  the column order by which m5 is the arrangement of m5-least
--   m6-a, m6-b    ==  M6: 00/11 and 01/01, in two classes
--   three         ==  three rows of one cell, 1/0/0
--   sending m n top x y  ==  the call of these numbers and slices
--   fitting most m n top g out  ==  the call of a grid within the limits
use mathlib.Core.Path.{◌≡◌}
use mathlib.Core.List.{List, [], ◌∷◌}
use mathlib.Core.Bool.{true}
use Prim.Native.Nat.{ℕ, ◌≤◌}
use Rattle.grids.specs.Questions.{first_no}
use Rattle.grids.proofs.LentLaws.{lent_test, tested-lent}
use Rattle.canonical.specs.Represent.{represent_questions}
use Rattle.canonical.proofs.CallLaws.{represent-pass}
use Rattle.turned_down.specs.RepresentFaults.{Sent, Fitting}

abbrev pub m1 : List ℕ
m1 = 2 ∷ 2 ∷ 3 ∷ 2 ∷ 3 ∷ 1 ∷ []

abbrev pub m1-least : List ℕ
m1-least = 1 ∷ 2 ∷ 3 ∷ 3 ∷ 2 ∷ 2 ∷ []

abbrev pub m5 : List ℕ
m5 = 3 ∷ 0 ∷ 2 ∷ []

abbrev pub m5-least : List ℕ
m5-least = 0 ∷ 2 ∷ 3 ∷ []

abbrev pub m5-back : List ℕ
m5-back = 2 ∷ 0 ∷ 1 ∷ []

abbrev pub m6-a : List ℕ
m6-a = 0 ∷ 0 ∷ 1 ∷ 1 ∷ []

abbrev pub m6-b : List ℕ
m6-b = 0 ∷ 1 ∷ 0 ∷ 1 ∷ []

abbrev pub three : List ℕ
three = 1 ∷ 0 ∷ 0 ∷ []

abbrev pub sending : (m n top : ℕ) → (x y : List ℕ) → lent_test m n top x y ≡ true → Sent
sending m n top x y t = record { rows = m; columns = n; top = top; first = x; second = y; lent = tested-lent m n top x y t }

abbrev pub fitting : (most m n top : ℕ) → (g out : List ℕ) → lent_test m n top g out ≡ true → m ≤ most → first_no (represent_questions m n top g out) ≡ 0 → Fitting most
fitting most m n top g out t h e =
    let p = (represent-pass m n top g out).0 e in record { sent = sending m n top g out t; few = h; limits = p.0; grid = p.1; out-sized = p.2 }
