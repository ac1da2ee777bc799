-- Laws of the questions.
--
--   AllYes l               ==  every question of l gets a yes
--   EachNumber P l, Numbered l  ==  P holds of every question's number; each is above 0
--   first_no-has            ==  what holds of 0 and of each question's number holds of the first no
--   first-no-zero          ==  no question gets a no exactly where every question gets a yes
--   first_no-pass, first_no-stop  ==  a question that gets a yes is passed over; one that gets a no gives its number
--   first-no-stays, first-no-next  ==  questions that follow a no, or follow yeses
--   range-yes, yes-range   ==  what the test of a range says
--   capped_at, at-capped, grid-of, grid-capped, grid-decides  ==  what the tests of cells and of a grid say
--   all_one, all_two       ==  what holds of each of one or two slices holds of every slice of the list
--   limits-asked           ==  questions 1 to 3 ask the limits
--   limits-decide, limits-refuse, limits-pass  ==  the first no of questions 1 to 3, and of those that follow
--   numbers-numbered, numbers-decide  ==  questions 1 to 4 have numbers; they get a yes exactly within the limits
--   lengths-asked, cells-asked  ==  what questions 6 and 7 ask of slices
--   slices-pass            ==  what questions 1, 2, 3, 6 and 7 together get a yes for
--   size_fits              ==  a grid within the limits has at most 128 cells
-- The first no of questions 1, 2, 3 and 6 of two slices, and of those that follow, as a call finds it:
--   shape_then m n top x y l  ==  questions 1, 2, 3 and 6 of the slices x and y, then those of l
--   shape-refuses, cells-refuse  ==  it is that of the shape, else that of the cells
--   cells-pass             ==  where neither gets a no, it is that of the questions after
--   one-capped, two-capped ==  question 7 gets a yes for one slice, for two
--   first-cells-no, second-cells-no  ==  it gets a no for the first slice, for the second
use mathlib.Core.Path.{◌≡◌, refl, sym, ◌∙◌}
use mathlib.Core.List.Memᴰ
use mathlib.Core.List.{List, [], ◌∷◌, ◌++◌, Memᴰ}
use mathlib.Core.Bool.{Bool, true, false, and-true}
use mathlib.Core.Logic.{◌⊎◌, inl, inr, ◌↔◌}
use Prim.Native.Nat.{ℕ, ◌*◌, ◌≤◌, ◌<◌}
use native.Mathlib.Nat.{mul-le-mul}
use native.Mathlib.Omega.{arith}
use lib.ListN.{length, get_or}
use lib.Dec.{leb, eqb}
use borrow.Author.Tests.{leb-true, le-leb, eqb-true, eq-eqb}
use Rattle.permutations.specs.Lists.{every, All}
use Rattle.permutations.proofs.BoolLaws.{and_yes, yes_and}
use Rattle.permutations.proofs.ListLaws.{every-at, at_every, mem-at, of_mem}
use Rattle.grids.specs.Grids.{IsGrid, capped, is_grid}
use Rattle.grids.specs.Asked.{limits_no, numbers_no, shape_no}
use Rattle.grids.specs.Questions.{Question, first_no, in_range, Limits, question1, question2, question3, question4, question6, question7}

abbrev pub AllYes : List Question → Type 0
AllYes l = All (λ q. q.answer ≡ true) l

abbrev pub EachNumber : (ℕ → Type 0) → List Question → Type 0
EachNumber P l = All (λ q. P q.number) l

abbrev pub Numbered : List Question → Type 0
Numbered l = EachNumber (λ k. 0 < k) l

pub first_no-pass : (q : Question) (l : List Question) → q.answer ≡ true → first_no (q ∷ l) ≡ first_no l
unfolding first_no
first_no-pass q l e = rw (e, first_no)

pub first_no-stop : (q : Question) (l : List Question) → q.answer ≡ false → first_no (q ∷ l) ≡ q.number
unfolding first_no
first_no-stop q l e = rw (e, first_no)

-- what holds of 0 and of each question's number holds of the first no
pub first_no-has : (P : ℕ → Type 0) (l : List Question) → P 0 → EachNumber P l → P (first_no l)
unfolding first_no
first_no-has P [] z h = z
first_no-has P (q ∷ l) z h = go (first_no-has P l z h.1) q.answer refl
  where
    go : P (first_no l) → (b : Bool) → q.answer ≡ b → P (first_no (q ∷ l))
    go ih true d = rw (first_no-pass q l d) ih
    go ih false d = rw (first_no-stop q l d) h.0

all-pass : (l : List Question) → AllYes l → first_no l ≡ 0
unfolding first_no
all-pass [] h = refl
all-pass (q ∷ l) h = first_no-pass q l h.0 ∙ all-pass l h.1

none-refused : (l : List Question) → Numbered l → first_no l ≡ 0 → AllYes l
none-refused [] p e = tt
none-refused (q ∷ l) p e = go (none-refused l p.1) q.answer refl
  where
    go : (first_no l ≡ 0 → AllYes l) → (b : Bool) → q.answer ≡ b → AllYes (q ∷ l)
    go ih true d = (d, ih (rw (first_no-pass q l d) at e))
    go ih false d = let z = first_no-stop q l d in absurd (omega (arith, p.0))

pub first-no-zero : (l : List Question) → Numbered l → (first_no l ≡ 0) ↔ AllYes l
first-no-zero l p = (none-refused l p, all-pass l)

-- questions that follow a no, or follow yeses
pub first-no-stays : (l r : List Question) → (first_no l ≡ 0 → ⊥) → first_no (l ++ r) ≡ first_no l
unfolding first_no
first-no-stays [] r h = absurd (h refl)
first-no-stays (q ∷ l) r h = go (first-no-stays l r) q.answer refl
  where
    go : ((first_no l ≡ 0 → ⊥) → first_no (l ++ r) ≡ first_no l) → (t : Bool) → q.answer ≡ t → first_no (q ∷ (l ++ r)) ≡ first_no (q ∷ l)
    go ih true e = first_no-pass q (l ++ r) e ∙ ih (λ z. h (first_no-pass q l e ∙ z)) ∙ sym (first_no-pass q l e)
    go ih false e = first_no-stop q (l ++ r) e ∙ sym (first_no-stop q l e)

pub first-no-next : (l r : List Question) → Numbered l → first_no l ≡ 0 → first_no (l ++ r) ≡ first_no r
first-no-next [] r p z = refl
first-no-next (q ∷ l) r p z = go (first-no-next l r p.1) q.answer refl
  where
    go : (first_no l ≡ 0 → first_no (l ++ r) ≡ first_no r) → (t : Bool) → q.answer ≡ t → first_no (q ∷ (l ++ r)) ≡ first_no r
    go ih true e = first_no-pass q (l ++ r) e ∙ ih (sym (first_no-pass q l e) ∙ z)
    go ih false e = let k = first_no-stop q l e in absurd (omega (arith, p.0))

-- ---- what the tests say

pub range-yes : (a b x : ℕ) → in_range a b x ≡ true → (a ≤ x) × (x ≤ b)
unfolding in_range
range-yes a b x e = let p = and_yes (leb a x) (leb x b) e in (leb-true a x p.0, leb-true x b p.1)

pub yes-range : (a b x : ℕ) → (a ≤ x) × (x ≤ b) → in_range a b x ≡ true
unfolding in_range
yes-range a b x h = yes_and (leb a x) (leb x b) (le-leb a x h.0) (le-leb x b h.1)

pub capped_at : (top : ℕ) (g : List ℕ) → capped top g ≡ true → (k : ℕ) → k < length g → get_or g k 0 ≤ top
unfolding capped
capped_at top g e k h = leb-true (get_or g k 0) top (every-at (λ x. leb x top) g e (get_or g k 0) (mem-at g 0 k h))

pub at-capped : (top : ℕ) (g : List ℕ) → ((k : ℕ) → k < length g → get_or g k 0 ≤ top) → capped top g ≡ true
unfolding capped
at-capped top g h = at_every (λ x. leb x top) g λ x m. let r = of_mem g 0 x m in le-leb x top (rw r.2 (h r.0 r.1))

-- a grid by its length and its test of cells
pub grid-of : (m n top : ℕ) (g : List ℕ) → length g ≡ m * n → capped top g ≡ true → IsGrid m n top g
grid-of m n top g z t = record { sized = z; capped = λ k h. capped_at top g t k (omega arith) }

pub grid-capped : (m n top : ℕ) (g : List ℕ) → IsGrid m n top g → capped top g ≡ true
grid-capped m n top g i = let z = i.sized in at-capped top g (λ k h. i.capped k (omega arith))

pub grid-decides : (m n top : ℕ) (g : List ℕ) → (is_grid m n top g ≡ true) ↔ IsGrid m n top g
unfolding is_grid
grid-decides m n top g = (
  λ e. let p = and_yes (eqb (length g) (m * n)) (capped top g) e in grid-of m n top g (eqb-true (length g) (m * n) p.0) p.1,
  λ i. yes_and (eqb (length g) (m * n)) (capped top g) (eq-eqb (length g) (m * n) i.sized) (grid-capped m n top g i),
)

-- ---- what the questions ask

pub all_one : {A : Type 0} (P : A → Type 0) (a : A) → P a → (x : A) → Memᴰ x (a ∷ []) → P x
all_one P a h x m = go (Memᴰ.cases_cons m)
  where
    go : (x ≡ a) ⊎ Memᴰ x [] → P x
    go (inl e) = rw e h
    go (inr k) = absurd (Memᴰ.not-nil k)

pub all_two : {A : Type 0} (P : A → Type 0) (a b : A) → P a → P b → (x : A) → Memᴰ x (a ∷ b ∷ []) → P x
all_two P a b h k x m = go (Memᴰ.cases_cons m)
  where
    go : (x ≡ a) ⊎ Memᴰ x (b ∷ []) → P x
    go (inl e) = rw e h
    go (inr n) = all_one P b k x n

pub limits-asked : (m n top : ℕ) (l : List Question) → AllYes (question1 m ∷ question2 n ∷ question3 top ∷ l) ↔ (Limits m n top × AllYes l)
unfolding question1 question2 question3
limits-asked m n top l = (
  λ h. (record { rows-limits = range-yes 1 8 m h.0; column-limits = range-yes 1 16 n h.1.0; top-limit = (range-yes 0 15 top h.1.1.0).1 }, h.1.1.1),
  λ h. (yes-range 1 8 m h.0.rows-limits, (yes-range 1 16 n h.0.column-limits, (yes-range 0 15 top (omega arith, h.0.top-limit), h.1))),
)

module _ (m n top : ℕ) where
  limits-numbered : Numbered (question1 m ∷ question2 n ∷ question3 top ∷ [])
  unfolding question1 question2 question3
  limits-numbered = (omega arith, (omega arith, (omega arith, tt)))

  pub limits-decide : (limits_no m n top ≡ 0) ↔ Limits m n top
  unfolding limits_no
  limits-decide =
      let z = first-no-zero (question1 m ∷ question2 n ∷ question3 top ∷ []) limits-numbered in
      let a = limits-asked m n top [] in
      (λ e. (a.0 (z.0 e)).0, λ l. z.1 (a.1 (l, tt)))

  pub limits-refuse : (l : List Question) → (limits_no m n top ≡ 0 → ⊥) → first_no (question1 m ∷ question2 n ∷ question3 top ∷ l) ≡ limits_no m n top
  unfolding limits_no
  limits-refuse l h = first-no-stays (question1 m ∷ question2 n ∷ question3 top ∷ []) l h

  pub limits-pass : (l : List Question) → Limits m n top → first_no (question1 m ∷ question2 n ∷ question3 top ∷ l) ≡ first_no l
  unfolding limits_no
  limits-pass l h = first-no-next (question1 m ∷ question2 n ∷ question3 top ∷ []) l limits-numbered (limits-decide.1 h)

module _ (m n top capacity : ℕ) where
  pub numbers-numbered : Numbered (question1 m ∷ question2 n ∷ question3 top ∷ question4 capacity ∷ [])
  unfolding question1 question2 question3 question4
  numbers-numbered = (omega arith, (omega arith, (omega arith, (omega arith, tt))))

  pub numbers-decide : (numbers_no m n top capacity ≡ 0) ↔ (Limits m n top × ((1 ≤ capacity) × (capacity ≤ 500)))
  unfolding numbers_no question4
  numbers-decide =
      let z = first-no-zero (question1 m ∷ question2 n ∷ question3 top ∷ question4 capacity ∷ []) numbers-numbered in
      let a = limits-asked m n top (question4 capacity ∷ []) in (
        λ e. let h = a.0 (z.0 e) in (h.0, range-yes 1 500 capacity h.1.0),
        λ i. z.1 (a.1 (i.0, (yes-range 1 500 capacity i.1, tt))),
      )

pub lengths-asked : (size : ℕ) (l : List (List ℕ)) → ((question6 size l).answer ≡ true) ↔ ((s : List ℕ) → Memᴰ s l → length s ≡ size)
unfolding question6
lengths-asked size l =
    (λ e s m. eqb-true (length s) size (every-at (λ s. eqb (length s) size) l e s m), λ h. at_every (λ s. eqb (length s) size) l (λ s m. eq-eqb (length s) size (h s m)))

pub cells-asked : (top : ℕ) (l : List (List ℕ)) → ((question7 top l).answer ≡ true) ↔ ((s : List ℕ) → Memᴰ s l → capped top s ≡ true)
unfolding question7
cells-asked top l = (every-at (capped top) l, at_every (capped top) l)

slices-numbered : (m n top : ℕ) (ls cs : List (List ℕ)) → Numbered (question1 m ∷ question2 n ∷ question3 top ∷ question6 (m * n) ls ∷ question7 top cs ∷ [])
unfolding question1 question2 question3 question6 question7
slices-numbered m n top ls cs = (omega arith, (omega arith, (omega arith, (omega arith, (omega arith, tt)))))

-- questions 1, 2, 3, 6 and 7, with 6 asked of some slices and 7 of some
pub slices-pass : (m n top : ℕ) (ls cs : List (List ℕ)) → (first_no (question1 m ∷ question2 n ∷ question3 top ∷ question6 (m * n) ls ∷ question7 top cs ∷ []) ≡ 0)
    ↔ (Limits m n top × ((s : List ℕ) → Memᴰ s ls → length s ≡ m * n) × ((s : List ℕ) → Memᴰ s cs → capped top s ≡ true))
slices-pass m n top ls cs = (
  λ e. let h = a.0 (z.0 e) in (h.0, (lengths-asked (m * n) ls).0 h.1.0, (cells-asked top cs).0 h.1.1.0),
  λ h. z.1 (a.1 (h.0, ((lengths-asked (m * n) ls).1 h.1, ((cells-asked top cs).1 h.2, tt)))),
)
  where
    rest : List Question
    rest = question6 (m * n) ls ∷ question7 top cs ∷ []

    a : AllYes (question1 m ∷ question2 n ∷ question3 top ∷ rest) ↔ (Limits m n top × AllYes rest)
    a = limits-asked m n top rest

    z : (first_no (question1 m ∷ question2 n ∷ question3 top ∷ rest) ≡ 0) ↔ AllYes (question1 m ∷ question2 n ∷ question3 top ∷ rest)
    z = first-no-zero (question1 m ∷ question2 n ∷ question3 top ∷ rest) (slices-numbered m n top ls cs)

pub size_fits : (m n : ℕ) → m ≤ 8 → n ≤ 16 → m * n ≤ 128
size_fits m n a b = mul-le-mul a b

-- ---- the first no, as a call finds it

module _ (m n top : ℕ) (x y : List ℕ) where
  abbrev pub shape_then : List Question → List Question
  shape_then l = question1 m ∷ question2 n ∷ question3 top ∷ question6 (m * n) (x ∷ y ∷ []) ∷ l

  shape-numbered : Numbered (shape_then [])
  unfolding question1 question2 question3 question6
  shape-numbered = (omega arith, (omega arith, (omega arith, (omega arith, tt))))

  shape_is : first_no (shape_then []) ≡ shape_no m n top (length x) (length y)
  unfolding shape_no question6 every
  shape_is = rw (and-true (eqb (length y) (m * n)))

  -- k is the first no of the shape
  module _ (k : ℕ) (found : k ≡ shape_no m n top (length x) (length y)) where
    pub shape-refuses : (l : List Question) → (k ≡ 0 → ⊥) → first_no (shape_then l) ≡ k
    shape-refuses l h = first-no-stays (shape_then []) l (λ z. h (found ∙ sym shape_is ∙ z)) ∙ shape_is ∙ sym found

    module _ (z : k ≡ 0) where
      no-no : first_no (shape_then []) ≡ 0
      no-no = shape_is ∙ sym found ∙ z

      module _ (cs : List (List ℕ)) (l : List Question) where
        shape-passes : first_no (shape_then (question7 top cs ∷ l)) ≡ first_no (question7 top cs ∷ l)
        shape-passes = first-no-next (shape_then []) (question7 top cs ∷ l) shape-numbered no-no

        pub cells-refuse : (question7 top cs).answer ≡ false → first_no (shape_then (question7 top cs ∷ l)) ≡ 7
        unfolding question7
        cells-refuse e = shape-passes ∙ first_no-stop (question7 top cs) l e

        pub cells-pass : (question7 top cs).answer ≡ true → first_no (shape_then (question7 top cs ∷ l)) ≡ first_no l
        cells-pass e = shape-passes ∙ first_no-pass (question7 top cs) l e

module _ (top : ℕ) (x : List ℕ) where
  pub one-capped : capped top x ≡ true → (question7 top (x ∷ [])).answer ≡ true
  unfolding question7 every
  one-capped e = rw e

  pub two-capped : (y : List ℕ) → capped top x ≡ true → capped top y ≡ true → (question7 top (x ∷ y ∷ [])).answer ≡ true
  unfolding question7 every
  two-capped y d e = rw (d, e)

  pub first-cells-no : (l : List (List ℕ)) → capped top x ≡ false → (question7 top (x ∷ l)).answer ≡ false
  unfolding question7 every
  first-cells-no l e = rw e

  pub second-cells-no : (y : List ℕ) (l : List (List ℕ)) → capped top x ≡ true → capped top y ≡ false → (question7 top (x ∷ y ∷ l)).answer ≡ false
  unfolding question7 every
  second-cells-no y l d e = rw (d, e)
