-- How many leading cells agree, as same answers it.
--
--   same-agreed       ==  where every question gets a yes, those of the two least grids
--   same-agreed-all   ==  with 0 it is all of them
--   same_parts        ==  with 103 it is below their number, and the two least grids part there
--   same-agreed-none  ==  in a refusal it is 0
--   asked-103         ==  103 is no refusal
--   same-of-classes   ==  it and the number are those of the two classes: arranging either grid anew changes neither
--   same-exchanged    ==  nor does exchanging the two, on all arguments
use mathlib.Core.Path.{◌≡◌, refl, sym, ap, ap₂, ◌∙◌}
use mathlib.Core.List.{List, [], ◌∷◌}
use mathlib.Core.Bool.{Bool, true, false, and-true, and_comm}
use mathlib.Core.Logic.{◌↔◌}
use Prim.Native.Nat.{ℕ, zero, suc, ◌*◌, ◌<◌}
use native.Mathlib.Decide.{ℕ_discrete}
use native.Mathlib.Omega.{arith}
use lib.ListN.{length}
use lib.Dec.{eqb}
use Rattle.permutations.specs.Lists.{every}
use Rattle.grids.specs.CommonPrefix.{common_prefix_length}
use Rattle.grids.specs.Grids.{IsGrid, capped, OneClass, one_class}
use Rattle.grids.specs.Least.{least}
use Rattle.grids.specs.Questions.{first_no, question1, question2, question3, question6, question7}
use Rattle.grids.proofs.CommonPrefixLaws.{prefix-sym, prefix-all, Decided, unequal-decided}
use Rattle.grids.proofs.GridLaws.{class-grid, class-passes, passes-class}
use Rattle.grids.proofs.LeastLaws.{length-least, class-least}
use Rattle.grids.proofs.QuestionLaws.{first_no-has}
use Rattle.canonical.specs.Same.{class_agreed, same_questions, same_number, same_agreed}
use Rattle.canonical.proofs.CallLaws.{same-pass, same-first-no, same_asked, same-leasts, same-zero, same-103}

-- ---- by the questions

pub same-agreed-none : (m n top : ℕ) (a b : List ℕ) (k : ℕ) → first_no (same_questions m n top a b) ≡ suc k → same_agreed m n top a b ≡ 0
unfolding same_agreed class_agreed
same-agreed-none m n top a b k e = rw e

pub asked-103 : (m n top : ℕ) (a b : List ℕ) → same_number m n top a b ≡ 103 → first_no (same_questions m n top a b) ≡ 0
unfolding same_questions question1 question2 question3 question6 question7
asked-103 m n top a b z = go (first_no (same_questions m n top a b)) refl small
  where
    small : first_no (same_questions m n top a b) < 103
    small = first_no-has (λ k. k < 103) (same_questions m n top a b) (omega arith) (omega arith, (omega arith, (omega arith, (omega arith, (omega arith, tt)))))

    go : (k : ℕ) → first_no (same_questions m n top a b) ≡ k → first_no (same_questions m n top a b) < 103 → k ≡ 0
    go zero e h = refl
    go (suc k) e h = let d = same-first-no m n top a b k e in absurd (omega arith)

-- ---- past the questions

module _ (m n top : ℕ) (a b : List ℕ) (e : first_no (same_questions m n top a b) ≡ 0) where
  sizes : (length (least m n a) ≡ m * n) × (length (least m n b) ≡ m * n)
  sizes = let h = (same-pass m n top a b).0 e in (length-least m n a h.1.sized, length-least m n b h.2.sized)

  pub same-agreed : same_agreed m n top a b ≡ common_prefix_length (least m n a) (least m n b)
  unfolding same_agreed class_agreed
  same-agreed = go (one_class m n a b) refl
    where
      go : (t : Bool) → one_class m n a b ≡ t → same_agreed m n top a b ≡ common_prefix_length (least m n a) (least m n b)
      go true f =
          let s = class-least m n a b ((same-pass m n top a b).0 e).1.sized (passes-class m n a b f) in
          rw (e, f) (sym ((prefix-all (least m n a) (least m n b) (sizes.0 ∙ sym sizes.1)).0 s ∙ sizes.0))
      go false f = rw (e, f)

pub same-agreed-all : (m n top : ℕ) (a b : List ℕ) → same_number m n top a b ≡ 0 → same_agreed m n top a b ≡ m * n
unfolding same_agreed class_agreed
same-agreed-all m n top a b z =
    let e = same_asked m n top a b z in
    rw (e, class-passes m n a b ((same-zero m n top a b e).0 z))

pub same_parts : (m n top : ℕ) (a b : List ℕ) → same_number m n top a b ≡ 103 →
    (same_agreed m n top a b < m * n) × Decided (same_agreed m n top a b) (least m n a) (least m n b)
same_parts m n top a b z =
    let e = asked-103 m n top a b z in
    let s = sizes m n top a b e in
    let d = unequal-decided (least m n a) (least m n b) (s.0 ∙ sym s.1) (λ q. let y = (same-leasts m n top a b e).1 q in omega arith) in
    rw (same-agreed m n top a b e) (rw s.0 at d.inside.0, d)

-- ---- of the classes

-- two pairs of grids get one number if both pairs, or neither, have one least grid
same-number-by : (m n top : ℕ) (a b a' b' : List ℕ) → first_no (same_questions m n top a b) ≡ 0 → first_no (same_questions m n top a' b') ≡ 0 →
    ((least m n a ≡ least m n b) ↔ (least m n a' ≡ least m n b')) → same_number m n top a b ≡ same_number m n top a' b'
same-number-by m n top a b a' b' e f h = go (ℕ_discrete (same_number m n top a b) 0)
  where
    x : (same_number m n top a b ≡ 0) ↔ (least m n a ≡ least m n b)
    x = same-leasts m n top a b e

    y : (same_number m n top a' b' ≡ 0) ↔ (least m n a' ≡ least m n b')
    y = same-leasts m n top a' b' f

    go : Dec (same_number m n top a b ≡ 0) → same_number m n top a b ≡ same_number m n top a' b'
    go (yes z) = z ∙ sym (y.1 (h.0 (x.0 z)))
    go (no z) =
        (same-103 m n top a b e).1 (λ c. z ((same-zero m n top a b e).1 c))
        ∙ sym ((same-103 m n top a' b' f).1 (λ c. z (x.1 (h.1 (y.0 ((same-zero m n top a' b' f).1 c))))))

pub same-of-classes : (m n top : ℕ) (a b a' b' : List ℕ) → first_no (same_questions m n top a b) ≡ 0 → OneClass m n a a' → OneClass m n b b' →
    (same_number m n top a b ≡ same_number m n top a' b') × (same_agreed m n top a b ≡ same_agreed m n top a' b')
same-of-classes m n top a b a' b' e c d = (
  same-number-by m n top a b a' b' e e' (λ q. sym p ∙ q ∙ r, λ q. p ∙ q ∙ sym r),
  same-agreed m n top a b e ∙ ap₂ common_prefix_length p r ∙ sym (same-agreed m n top a' b' e'),
)
  where
    g : IsGrid m n top a
    g = ((same-pass m n top a b).0 e).1

    h : IsGrid m n top b
    h = ((same-pass m n top a b).0 e).2

    e' : first_no (same_questions m n top a' b') ≡ 0
    e' = (same-pass m n top a' b').1 (((same-pass m n top a b).0 e).0, class-grid m n top a a' g c, class-grid m n top b b' h d)

    p : least m n a ≡ least m n a'
    p = class-least m n a a' g.sized c

    r : least m n b ≡ least m n b'
    r = class-least m n b b' h.sized d

-- ---- exchanged

both-exchanged : {A : Type 0} (t : A → Bool) (x y : A) → every t (x ∷ y ∷ []) ≡ every t (y ∷ x ∷ [])
unfolding every
both-exchanged t x y = rw (and-true (t x), and-true (t y)) (and_comm (t x) (t y))

questions-exchanged : (m n top : ℕ) (a b : List ℕ) → same_questions m n top a b ≡ same_questions m n top b a
unfolding same_questions question6 question7
questions-exchanged m n top a b =
    ap₂ (λ (p q : Bool). question1 m ∷ question2 n ∷ question3 top ∷ record { number = 6; answer = p } ∷ record { number = 7; answer = q } ∷ [])
    (both-exchanged (λ s. eqb (length s) (m * n)) a b)
    (both-exchanged (capped top) a b)

pub same-exchanged : (m n top : ℕ) (a b : List ℕ) → (same_number m n top a b ≡ same_number m n top b a) × (same_agreed m n top a b ≡ same_agreed m n top b a)
same-exchanged m n top a b = go (first_no (same_questions m n top a b)) refl
  where
    f : first_no (same_questions m n top a b) ≡ first_no (same_questions m n top b a)
    f = ap first_no (questions-exchanged m n top a b)

    go : (k : ℕ) → first_no (same_questions m n top a b) ≡ k → (same_number m n top a b ≡ same_number m n top b a) × (same_agreed m n top a b ≡ same_agreed m n top b a)
    go zero e = (
      same-number-by m n top a b b a e (sym f ∙ e) (λ q. sym q, λ q. sym q),
      same-agreed m n top a b e ∙ prefix-sym (least m n a) (least m n b) ∙ sym (same-agreed m n top b a (sym f ∙ e)),
    )
    go (suc k) e = (
      same-first-no m n top a b k e ∙ sym (same-first-no m n top b a k (sym f ∙ e)),
      same-agreed-none m n top a b k e ∙ sym (same-agreed-none m n top b a k (sym f ∙ e)),
    )
