-- What the answers of represent and same mean.
--
--   represent-pass, same-pass  ==  what the questions get a yes for, exactly
--   represented-done, represented-refused, represented-number  ==  an answer of represent: where no question gets a no, in a refusal, and its number
--   represented-least    ==  an answer where no question gets a no is the least arrangement, with orders that produce it
--   represent-least      ==  so demand 2's sentence on represent holds of every program that meets the contract
--   represented-alike    ==  two answers after the same first no have one number and one output slice, whatever the widths of their row orders
--   represent-determined ==  so two answers of represent to the same arguments do
--   represent-refused    ==  a refusal by represent
--   compared-one, compared-starts, compared-refused  ==  an answer of same: with 0, with any other number, and in a refusal
--   compared-number      ==  its number, and the cells that agree, are those of the definitions
--   compared-alike       ==  so two answers to the same arguments have one number, and as many cells agree, whatever the widths of their row orders
--   same-refused         ==  with 103, or in a refusal, same's orders move nothing
--   same-zero, same-103  ==  where every question gets a yes: 0 exactly for grids in one class, 103 exactly for grids in two
--   same-leasts          ==  and 0 exactly for grids with one least grid
--   same-first-no, number-asked, same_asked  ==  a refusal has its question's number; 0 is no refusal
--   represented-by, compared-by  ==  there is an answer where the rows fit the width
--   represent-answers, same-answers  ==  so on all arguments represent and same have one
--   produces-past        ==  orders that produce a grid have `width` and 16 positions, and those past the rows and columns hold their own number
--   same-orders          ==  orders by which B is the arrangement of A, from those that produce the least grid from each
use mathlib.Core.Path.{◌≡◌, refl, sym, ap, ◌∙◌}
use mathlib.Core.List.{List, [], ◌∷◌, Memᴰ}
use mathlib.Core.Bool.{Bool, true, false}
use mathlib.Core.Logic.{◌↔◌}
use Prim.Native.Nat.{ℕ, zero, suc, ◌*◌, ◌≤◌, ◌<◌}
use native.Mathlib.Omega.{arith}
use lib.ListN.{length, take, get_or}
use Rattle.permutations.specs.Permutations.{IsPermutation, identity, composed, inverse}
use Rattle.permutations.specs.Padded.{padded}
use Rattle.permutations.proofs.PermutationLaws.{inverse-permutation, composed-inverse}
use Rattle.permutations.proofs.PaddedLaws.{length-padded, padded-from, padded-own}
use Rattle.grids.specs.CommonPrefix.{common_prefix_length}
use Rattle.grids.specs.Grids.{IsGrid, capped, arrangement, OneClass, one_class}
use Rattle.grids.specs.Least.{least}
use Rattle.grids.specs.Questions.{first_no, Limits}
use Rattle.grids.proofs.GridLaws.{arrangement-identity, arrangement-twice, class-passes, passes-class}
use Rattle.grids.proofs.LeastLaws.{least-is, least-in-class, one-class-one-least}
use Rattle.grids.proofs.LentLaws.{grid-bytes, limits-lent}
use Rattle.grids.proofs.QuestionLaws.{grid-of, grid-capped, all_one, all_two, slices-pass}
use Rattle.canonical.specs.Represent.{Produces, Starting, RepresentAnswer, RepresentDone, RepresentRefused, RepresentedBy, represent_questions, Represented}
use Rattle.canonical.specs.Same.{SameAnswer, SameRefused, SameOneClass, ComparedBy, same_questions, Compared, class_number, class_agreed, same_number}
use Rattle.canonical.specs.Programs.{RepresentProgram, MeetsRepresent}
use Rattle.canonical.specs.Demand2.{AnswersLeast, RepresentLeast}

-- ---- what the questions ask

-- represent's questions get a yes exactly for a grid within the limits and an output slice of its length
pub represent-pass : (m n top : ℕ) (g out : List ℕ) → (first_no (represent_questions m n top g out) ≡ 0) ↔ (Limits m n top × IsGrid m n top g × (length out ≡ m * n))
unfolding represent_questions
represent-pass m n top g out =
    let p = slices-pass m n top (g ∷ out ∷ []) (g ∷ []) in (
      λ e. let h = p.0 e in (h.0, grid-of m n top g (h.1 g (Memᴰ.head refl)) (h.2 g (Memᴰ.head refl)), h.1 out (Memᴰ.tail (Memᴰ.head refl))),
      λ h. p.1 (h.0, all_two (λ s. length s ≡ m * n) g out h.1.sized h.2, all_one (λ s. capped top s ≡ true) g (grid-capped m n top g h.1)),
    )

-- same's get a yes exactly for two grids within the limits
pub same-pass : (m n top : ℕ) (a b : List ℕ) → (first_no (same_questions m n top a b) ≡ 0) ↔ (Limits m n top × IsGrid m n top a × IsGrid m n top b)
unfolding same_questions
same-pass m n top a b = (to, back)
  where
    p : (first_no (same_questions m n top a b) ≡ 0)
        ↔ (Limits m n top × ((s : List ℕ) → Memᴰ s (a ∷ b ∷ []) → length s ≡ m * n) × ((s : List ℕ) → Memᴰ s (a ∷ b ∷ []) → capped top s ≡ true))
    p = slices-pass m n top (a ∷ b ∷ []) (a ∷ b ∷ [])

    to : first_no (same_questions m n top a b) ≡ 0 → Limits m n top × IsGrid m n top a × IsGrid m n top b
    to e =
        let h = p.0 e in
        let grid : (s : List ℕ) → Memᴰ s (a ∷ b ∷ []) → IsGrid m n top s = λ s k. grid-of m n top s (h.1 s k) (h.2 s k) in
        (h.0, grid a (Memᴰ.head refl), grid b (Memᴰ.tail (Memᴰ.head refl)))

    back : Limits m n top × IsGrid m n top a × IsGrid m n top b → first_no (same_questions m n top a b) ≡ 0
    back h =
        p.1 (
          h.0,
          all_two (λ s. length s ≡ m * n) a b h.1.sized h.2.sized,
          all_two (λ s. capped top s ≡ true) a b (grid-capped m n top a h.1) (grid-capped m n top b h.2),
        )

-- ---- represent

pub represented-done : (width k m n : ℕ) (g out : List ℕ) (r : RepresentAnswer) → k ≡ 0 → RepresentedBy width k m n g out r → RepresentDone width m n g r
unfolding RepresentedBy
represented-done width k m n g out r e h = rw e at h

pub represented-refused : (width k m n : ℕ) (g out : List ℕ) (r : RepresentAnswer) → (r.number ≡ 0 → ⊥) → RepresentedBy width k m n g out r → RepresentRefused width k out r
unfolding RepresentedBy
represented-refused width zero m n g out r e h = absurd (e h.number_is)
represented-refused width (suc k) m n g out r e h = h

pub represented-number : (width k m n : ℕ) (g out : List ℕ) (r : RepresentAnswer) → RepresentedBy width k m n g out r → r.number ≡ k
unfolding RepresentedBy
represented-number width zero m n g out r h = h.number_is
represented-number width (suc k) m n g out r h = h.number_is

pub represented-least : (width m n : ℕ) (g : List ℕ) (r : RepresentAnswer) → length g ≡ m * n → RepresentDone width m n g r → AnswersLeast width m n g r
represented-least width m n g r e h = record {
  number_is = h.number_is;
  is-least = rw h.written (least-is m n g e);
  produced = rw h.written h.produced;
}

pub represent-least : (f : RepresentProgram) → MeetsRepresent f → RepresentLeast f
unfolding RepresentLeast MeetsRepresent
represent-least f c m n top g out l i h e =
    represented-least 8 m n g _ i.sized
    (represented-done 8 _ m n g out _ ((represent-pass m n top g out).1 (l, i, e)) (c m n top g out (limits-lent m n top g out l (grid-bytes m n top g l i) h)))

pub represented-alike : (width w k m n : ℕ) (g out : List ℕ) (r s : RepresentAnswer) →
    RepresentedBy width k m n g out r → RepresentedBy w k m n g out s → (r.number ≡ s.number) × (r.out ≡ s.out)
unfolding RepresentedBy
represented-alike width w zero m n g out r s x y = (x.number_is ∙ sym y.number_is, x.written ∙ sym y.written)
represented-alike width w (suc k) m n g out r s x y = (x.number_is ∙ sym y.number_is, x.unchanged ∙ sym y.unchanged)

pub represent-determined : (m n top : ℕ) (g out : List ℕ) (r s : RepresentAnswer) → Represented m n top g out r → Represented m n top g out s →
    (r.number ≡ s.number) × (r.out ≡ s.out)
represent-determined m n top g out r s x y = represented-alike 8 8 _ m n g out r s x y

pub represent-refused : (m n top : ℕ) (g out : List ℕ) (r : RepresentAnswer) → (r.number ≡ 0 → ⊥) → Represented m n top g out r →
    RepresentRefused 8 (first_no (represent_questions m n top g out)) out r
represent-refused m n top g out r e h = represented-refused 8 _ m n g out r e h

-- ---- same

pub compared-one : (width k : ℕ) (t : Bool) (m n : ℕ) (a b : List ℕ) (r : SameAnswer) → r.number ≡ 0 → ComparedBy width k t m n a b r → SameOneClass width m n a b r
unfolding ComparedBy
compared-one width zero true m n a b r e h = h
compared-one width zero false m n a b r e h = absurd (omega (arith, h.number_is, e))
compared-one width (suc k) t m n a b r e h = absurd (omega (arith, h.number_is, e))

pub compared-starts : (width k : ℕ) (t : Bool) (m n : ℕ) (a b : List ℕ) (r : SameAnswer) → (r.number ≡ 0 → ⊥) → ComparedBy width k t m n a b r → Starting width r.rows r.columns
unfolding ComparedBy
compared-starts width zero true m n a b r e h = absurd (e h.number_is)
compared-starts width zero false m n a b r e h = h.starting
compared-starts width (suc k) t m n a b r e h = h.starting

pub compared-refused : (width k : ℕ) (t : Bool) (m n : ℕ) (a b : List ℕ) (r : SameAnswer) → (r.number ≡ 0 → ⊥) → (r.number ≡ 103 → ⊥) → ComparedBy width k t m n a b r → SameRefused width k r
unfolding ComparedBy
compared-refused width zero true m n a b r e f h = absurd (e h.number_is)
compared-refused width zero false m n a b r e f h = absurd (f h.number_is)
compared-refused width (suc k) t m n a b r e f h = h

pub compared-number : (width k : ℕ) (t : Bool) (m n : ℕ) (a b : List ℕ) (r : SameAnswer) → ComparedBy width k t m n a b r →
    (r.number ≡ class_number k t) × (r.agreed ≡ class_agreed k t m n a b)
unfolding ComparedBy class_number class_agreed
compared-number width zero true m n a b r h = (h.number_is, h.agreed-is)
compared-number width zero false m n a b r h = (h.number_is, h.agreed-is)
compared-number width (suc k) t m n a b r h = (h.number_is, h.agreed-is)

pub compared-alike : (width w k : ℕ) (t : Bool) (m n : ℕ) (a b : List ℕ) (r s : SameAnswer) → ComparedBy width k t m n a b r → ComparedBy w k t m n a b s →
    (r.number ≡ s.number) × (r.agreed ≡ s.agreed)
compared-alike width w k t m n a b r s x y =
    let p = compared-number width k t m n a b r x in
    let q = compared-number w k t m n a b s y in
    (p.0 ∙ sym q.0, p.1 ∙ sym q.1)

pub same-refused : (m n top : ℕ) (a b : List ℕ) (r : SameAnswer) → (r.number ≡ 0 → ⊥) → Compared m n top a b r → Starting 8 r.rows r.columns
same-refused m n top a b r e h = compared-starts 8 _ _ m n a b r e h

-- the number where every question gets a yes
same-number : (m n top : ℕ) (a b : List ℕ) (t : Bool) → first_no (same_questions m n top a b) ≡ 0 → one_class m n a b ≡ t → same_number m n top a b ≡ class_number 0 t
unfolding same_number
same-number m n top a b t e f = rw (e, f)

-- a refusal has its question's number
pub same-first-no : (m n top : ℕ) (a b : List ℕ) (k : ℕ) → first_no (same_questions m n top a b) ≡ suc k → same_number m n top a b ≡ suc k
unfolding same_number class_number
same-first-no m n top a b k e = rw e

-- 0 is no refusal
number-asked : (k : ℕ) (t : Bool) → class_number k t ≡ 0 → k ≡ 0
unfolding class_number
number-asked zero t z = refl
number-asked (suc k) t z = z

pub same_asked : (m n top : ℕ) (a b : List ℕ) → same_number m n top a b ≡ 0 → first_no (same_questions m n top a b) ≡ 0
unfolding same_number
same_asked m n top a b z = number-asked _ _ z

pub same-zero : (m n top : ℕ) (a b : List ℕ) → first_no (same_questions m n top a b) ≡ 0 → (same_number m n top a b ≡ 0) ↔ OneClass m n a b
unfolding class_number
same-zero m n top a b e = (λ z. go (one_class m n a b) refl z, λ c. same-number m n top a b true e (class-passes m n a b c))
  where
    go : (t : Bool) → one_class m n a b ≡ t → same_number m n top a b ≡ 0 → OneClass m n a b
    go true f z = passes-class m n a b f
    go false f z = let d = same-number m n top a b false e f in absurd (omega arith)

pub same-103 : (m n top : ℕ) (a b : List ℕ) → first_no (same_questions m n top a b) ≡ 0 → (same_number m n top a b ≡ 103) ↔ (OneClass m n a b → ⊥)
unfolding class_number
same-103 m n top a b e = (λ z c. let d = (same-zero m n top a b e).1 c in omega arith, go (one_class m n a b) refl)
  where
    go : (t : Bool) → one_class m n a b ≡ t → (OneClass m n a b → ⊥) → same_number m n top a b ≡ 103
    go true f no-class = absurd (no-class (passes-class m n a b f))
    go false f no-class = same-number m n top a b false e f

pub same-leasts : (m n top : ℕ) (a b : List ℕ) → first_no (same_questions m n top a b) ≡ 0 → (same_number m n top a b ≡ 0) ↔ (least m n a ≡ least m n b)
same-leasts m n top a b e =
    let z = (same-pass m n top a b).0 e in
    let i = one-class-one-least m n a b z.1.sized z.2.sized in
    let j = same-zero m n top a b e in
    (λ h. i.0 (j.0 h), λ h. j.1 (i.1 h))

-- P is A's row order followed by the inverse of B's, and Q likewise
pub same-orders : (m n : ℕ) (a b r p q p' q' : List ℕ) → length b ≡ m * n → IsPermutation m p' → IsPermutation n q' →
    arrangement m n p q a ≡ r → arrangement m n p' q' b ≡ r → arrangement m n (composed m p (inverse m p')) (composed n q (inverse n q')) a ≡ b
same-orders m n a b r p q p' q' e op oq f g =
    sym (arrangement-twice m n p q (inverse m p') (inverse n q') a (inverse-permutation m p' op) (inverse-permutation n q' oq))
    ∙ ap (arrangement m n (inverse m p') (inverse n q')) (f ∙ sym g)
    ∙ arrangement-twice m n p' q' (inverse m p') (inverse n q') b (inverse-permutation m p' op) (inverse-permutation n q' oq)
    ∙ rw (composed-inverse m p' op, composed-inverse n q' oq) (arrangement-identity m n b e)

-- ---- there is always an answer

-- permutations as the code holds them produce what they produce
padded-produce : (width m n : ℕ) (a b : List ℕ) → m ≤ width → n ≤ 16 → (c : OneClass m n a b) → Produces width m n a b (padded width m c.rows) (padded 16 n c.columns)
padded-produce width m n a b hm hn c =
    let e = padded-own width m c.rows hm c.row-permutation.size in
    let f = padded-own 16 n c.columns hn c.column-permutation.size in
    record {
      row-permutation = rw e c.row-permutation;
      column-permutation = rw f c.column-permutation;
      gives = rw (e, f) c.gives;
      row-rest = ap (padded width m) (sym e);
      column-rest = ap (padded 16 n) (sym f);
    }

pub represented-by : (width k m n : ℕ) (g out : List ℕ) → (k ≡ 0 → (m ≤ width) × (n ≤ 16) × (length g ≡ m * n)) → (r : RepresentAnswer) × RepresentedBy width k m n g out r
unfolding RepresentedBy
represented-by width zero m n g out fits =
    let h = fits refl in
    let c = least-in-class m n g h.2 in (
      record { number = 0; rows = padded width m c.rows; columns = padded 16 n c.columns; out = least m n g },
      record { number_is = refl; written = refl; produced = padded-produce width m n g (least m n g) h.0 h.1 c },
    )
represented-by width (suc k) m n g out fits = (
  record { number = suc k; rows = identity width; columns = identity 16; out = out },
  record { number_is = refl; unchanged = refl; starting = record { row-identity = refl; column-identity = refl } },
)

pub represent-answers : (m n top : ℕ) (g out : List ℕ) → (r : RepresentAnswer) × Represented m n top g out r
represent-answers m n top g out = represented-by 8 _ m n g out λ z.
    let h = (represent-pass m n top g out).0 z in (h.0.rows-limits.1, h.0.column-limits.1, h.1.sized)

pub compared-by : (width k : ℕ) (t : Bool) (m n : ℕ) (a b : List ℕ) → (k ≡ 0 → (m ≤ width) × (n ≤ 16)) → one_class m n a b ≡ t → (r : SameAnswer) × ComparedBy width k t m n a b r
unfolding ComparedBy
compared-by width zero true m n a b fits e =
    let h = fits refl in
    let c = passes-class m n a b e in (
      record { number = 0; agreed = m * n; rows = padded width m c.rows; columns = padded 16 n c.columns },
      record { number_is = refl; agreed-is = refl; produced = padded-produce width m n a b h.0 h.1 c },
    )
compared-by width zero false m n a b fits e = (
  record { number = 103; agreed = common_prefix_length (least m n a) (least m n b); rows = identity width; columns = identity 16 },
  record { number_is = refl; agreed-is = refl; starting = record { row-identity = refl; column-identity = refl } },
)
compared-by width (suc k) t m n a b fits e = (
  record { number = suc k; agreed = 0; rows = identity width; columns = identity 16 },
  record { number_is = refl; agreed-is = refl; starting = record { row-identity = refl; column-identity = refl } },
)

pub same-answers : (m n top : ℕ) (a b : List ℕ) → (r : SameAnswer) × Compared m n top a b r
same-answers m n top a b = compared-by 8 _ _ m n a b (λ z. let h = ((same-pass m n top a b).0 z).0 in (h.rows-limits.1, h.column-limits.1)) refl

-- ---- the orders returned

pub produces-past : (width m n : ℕ) (a b rows columns : List ℕ) → Produces width m n a b rows columns →
    (length rows ≡ width) × (length columns ≡ 16) × ((i : ℕ) → i < width → m ≤ i → get_or rows i 0 ≡ i) × ((j : ℕ) → j < 16 → n ≤ j → get_or columns j 0 ≡ j)
produces-past width m n a b rows columns p = (
  ap length p.row-rest ∙ length-padded width m (take m rows),
  ap length p.column-rest ∙ length-padded 16 n (take n columns),
  λ i h k. ap (λ (l : List ℕ). get_or l i 0) p.row-rest ∙ padded-from width m (take m rows) i h k,
  λ j h k. ap (λ (l : List ℕ). get_or l j 0) p.column-rest ∙ padded-from 16 n (take n columns) j h k,
)
