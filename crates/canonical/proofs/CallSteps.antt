-- The joints of the calls represent and same, of both sets: what their code finds, and what they answer from it. A row order has `width` positions.
--
--   asked m n top x y cs     ==  questions 1, 2, 3, 6 and 7: of the lengths of two slices x and y, and of the cells of the slices cs
--   none-refuses             ==  none of them gets a no, as the code finds it
--   represent-no, second-next  ==  same's first no: that of represent's questions of both slices, else that of question 7 of the second
--   least-produces           ==  the orders of the least arrangement produce it
--   represent-refuses, represent-gives  ==  represent's answers: where a question gets a no, and past the questions
--   represent-refused-by, same-refused-by  ==  the same of the results that the code hands on
--   produces-narrower, narrowed-produces, narrowed-sized  ==  orders that produce a grid do so in fewer positions, if the rows fit
--   FollowedByInverse width n p q r, followed_of  ==  r is p followed by the inverse of q; as the code makes it
--   agreed-small             ==  the number of cells that agree is at most 128
--   Carried, carried-back    ==  a's orders followed by the inverses of b's, as the code makes them
--   same-refuses, same_differs, same_gives  ==  same's answers: where a question gets a no, and for grids in two classes and in one
use Rattle.std.proofs.Common.{Result, Ok, Err}
use Rattle.std.specs.Result.{IsErr, IsErrAnd}
use mathlib.Core.Path.{◌≡◌, refl, sym, ap, ap₂, ◌∙◌}
use mathlib.Core.List.{List, [], ◌∷◌, ◌++◌}
use mathlib.Core.Bool.{Bool, true, false}
use Prim.Native.Nat.{ℕ, zero, suc, ◌*◌, ◌≤◌}
use native.Mathlib.Omega.{arith}
use lib.ListN.{length, take}
use lib.Seq.{get_or-take, take-take}
use Rattle.permutations.specs.Lists.{every}
use Rattle.permutations.specs.Permutations.{composed, inverse}
use Rattle.permutations.specs.Padded.{padded, IsPadded, is_sound, composed_padded, inverse_padded}
use Rattle.permutations.specs.Rows.{row_numbers}
use Rattle.permutations.specs.Columns.{column_numbers}
use Rattle.permutations.specs.Numbered.{Lists}
use Rattle.permutations.proofs.PaddedLaws.{take-padded, is_sound-yes, is_sound-inverse, composed_padded-is, take-composed_padded, composed_padded-permutation, take-inverse_padded}
use Rattle.grids.specs.declared.comparisons.GridComparison.{GridComparison}
use Rattle.grids.specs.CommonPrefix.{common_prefix_length}
use Rattle.grids.specs.Grids.{IsGrid, capped, arrangement, one_class}
use Rattle.grids.specs.Least.{least}
use Rattle.grids.specs.Asked.{shape_no}
use Rattle.grids.specs.Questions.{Question, first_no, Limits, question1, question2, question3, question6, question7}
use Rattle.std.specs.Ordering.{is_eq}
use Rattle.grids.specs.Comparisons.{ComparesGrids}
use Rattle.grids.proofs.CommonPrefixLaws.{prefix-part, prefix-all}
use Rattle.grids.proofs.ComparisonLaws.{equal-yes, equal-no}
use Rattle.grids.proofs.GridLaws.{length-arrangement, class-passes, passes-class}
use Rattle.grids.proofs.LeastLaws.{length-least, class-least, one-class-one-least}
use Rattle.grids.proofs.QuestionLaws.{Numbered, first-no-stays, first-no-next, shape_then, cells-pass, size_fits}
use Rattle.permutations.specs.declared.orders.Orders.{Orders}
use Rattle.refusals.specs.declared.Refusal.{Refusal}
use Rattle.refusals.specs.Numbers.{refusal_number}
use Rattle.canonical.specs.declared.answers.Match.{Match}
use Rattle.canonical.specs.Answers.{represented, matched, IsSized}
use Rattle.canonical.specs.Represent.{represent_questions, Produces, Starting, RepresentAnswer, RepresentDone, RepresentRefused, RepresentedBy}
use Rattle.canonical.specs.Same.{same_questions, SameAnswer, SameRefused, ComparedBy}
use Rattle.general_search.specs.Search.{leading_rows, LeastOrders}
use Rattle.branches.proofs.LeadingRows.{leading-is}
use Rattle.canonical.proofs.CallLaws.{same-orders}

-- ---- the first no, as the code finds it

module _ (m n top : ℕ) (x y : List ℕ) (cs : List (List ℕ)) where
  abbrev pub asked : List Question
  asked = shape_then m n top x y (question7 top cs ∷ [])

  pub none-refuses : (k : ℕ) → k ≡ shape_no m n top (length x) (length y) → k ≡ 0 → (question7 top cs).answer ≡ true → first_no asked ≡ 0
  unfolding first_no
  none-refuses k found z e = cells-pass m n top x y k found z cs [] e

module _ (m n top : ℕ) (a b : List ℕ) where
  in-turn : first_no (same_questions m n top a b) ≡ first_no (represent_questions m n top a b ++ (question7 top (b ∷ []) ∷ []))
  unfolding same_questions represent_questions first_no question7 every
  in-turn = go (capped top a) refl
    where
      go : (c : Bool) → capped top a ≡ c → first_no (same_questions m n top a b) ≡ first_no (represent_questions m n top a b ++ (question7 top (b ∷ []) ∷ []))
      go true e = rw e
      go false e = rw e

  represent-numbered : Numbered (represent_questions m n top a b)
  unfolding represent_questions question1 question2 question3 question6 question7
  represent-numbered = (omega arith, (omega arith, (omega arith, (omega arith, (omega arith, tt)))))

  -- k is the first no of represent's questions
  module _ (k : ℕ) (found : k ≡ first_no (represent_questions m n top a b)) where
    pub represent-no : (k ≡ 0 → ⊥) → first_no (same_questions m n top a b) ≡ k
    represent-no h = in-turn ∙ first-no-stays (represent_questions m n top a b) _ (λ z. h (found ∙ z)) ∙ sym found

    pub second-next : k ≡ 0 → first_no (same_questions m n top a b) ≡ first_no (question7 top (b ∷ []) ∷ [])
    second-next z = in-turn ∙ first-no-next (represent_questions m n top a b) _ represent-numbered (sym found ∙ z)

-- ---- represent

arrangement-take : (m n : ℕ) (p q g : List ℕ) → arrangement m n (take m p) (take n q) g ≡ arrangement m n p q g
arrangement-take m n p q g = leading-is n g (take m p) (take n q) p q m (λ i j im jn. rw (get_or-take m p i 0 im, get_or-take n q j 0 jn))

pub least-produces : (m n : ℕ) (g : List ℕ) (o : Orders 8) → LeastOrders m n g o → Produces 8 m n g (least m n g) (row_numbers o.rows) (column_numbers o.columns)
least-produces m n g o l = record {
  row-permutation = l.orders.rows.whole.permutation;
  column-permutation = l.orders.columns.whole.permutation;
  gives = arrangement-take m n (row_numbers o.rows) (column_numbers o.columns) g ∙ l.gives;
  row-rest = l.orders.rows.whole.rest;
  column-rest = l.orders.columns.whole.rest;
}

pub represent-refuses : (width k m n : ℕ) (g out : List ℕ) (r : RepresentAnswer) → (k ≡ 0 → ⊥) → RepresentRefused width k out r → RepresentedBy width k m n g out r
unfolding RepresentedBy
represent-refuses width zero m n g out r h x = absurd (h refl)
represent-refuses width (suc k) m n g out r h x = x

pub represent-gives : (width k m n : ℕ) (g out : List ℕ) (r : RepresentAnswer) → k ≡ 0 → RepresentDone width m n g r → RepresentedBy width k m n g out r
unfolding RepresentedBy
represent-gives width k m n g out r e x = rw e x

pub represent-refused-by : (N k m n : ℕ) (g out : List ℕ) (r : Result (Orders N) Refusal) (x : Refusal) → IsErr r × IsErrAnd r (λ y. y ≡ x) → refusal_number x ≡ k → (k ≡ 0 → ⊥) →
    RepresentedBy N k m n g out (represented r out)
represent-refused-by N k m n g out (Ok o) x h e z = absurd h.1
represent-refused-by N k m n g out (Err y) x h e z =
    represent-refuses N k m n g out (represented {N = N} (Err y) out) z
    (record { number_is = ap refusal_number h.1 ∙ e; unchanged = refl; starting = record { row-identity = refl; column-identity = refl } })

-- in fewer positions, if the rows fit
pub produces-narrower : (width w m n : ℕ) (a b rows columns : List ℕ) → m ≤ w → w ≤ width → Produces width m n a b rows columns → Produces w m n a b (take w rows) columns
produces-narrower width w m n a b rows columns h k p = record {
  row-permutation = rw e p.row-permutation;
  column-permutation = p.column-permutation;
  gives = rw e p.gives;
  row-rest = ap (take w) p.row-rest ∙ take-padded w width m (take m rows) k ∙ ap (padded w m) (sym e);
  column-rest = p.column-rest;
}
  where
    e : take m (take w rows) ≡ take m rows
    e = take-take m w rows h

module _ {N m n : ℕ} {g : List ℕ} (o : Orders 8) (r : Orders N) (few : m ≤ N) (narrow : N ≤ 8) (l : LeastOrders m n g o)
    (rows : Lists (take N o.rows.at) o.rows.size r.rows) (columns : Lists o.columns.at o.columns.size r.columns) where
  pub narrowed-produces : Produces N m n g (least m n g) r.rows.at r.columns.at
  narrowed-produces =
      rw (rows.numbers, columns.numbers)
      (produces-narrower 8 N m n g (least m n g) o.rows.at o.columns.at few narrow (least-produces m n g o l))

  pub narrowed-sized : IsSized m n r
  narrowed-sized = record { row-size = rows.size ∙ l.orders.rows.size; column-size = columns.size ∙ l.orders.columns.size }

-- ---- same

-- p followed by the inverse of q
pub record FollowedByInverse (width n : ℕ) (p q r : List ℕ) : Type 0 where
  pub whole : IsPadded width n r
  pub own : take n r ≡ composed n (take n p) (inverse n (take n q))

followed : (width n : ℕ) (p q : List ℕ) → 1 ≤ n → n ≤ width → IsPadded width n p → IsPadded width n q →
    FollowedByInverse width n p q (composed_padded width n p n (inverse_padded width n q))
followed width n p q a b op oq = record {
  whole = record {
    permutation = composed_padded-permutation width n p i sp si;
    rest = composed_padded-is width n p i sp si ∙ ap (padded width n) (sym (take-composed_padded width n p i sp si));
  };
  own = take-composed_padded width n p i sp si ∙ ap (composed n (take n p)) (take-inverse_padded width n q sq);
}
  where
    i : List ℕ
    i = inverse_padded width n q

    sp : is_sound width n p ≡ true
    sp = is_sound-yes width n p (record { some = a; fits = b; permutation = op.permutation })

    sq : is_sound width n q ≡ true
    sq = is_sound-yes width n q (record { some = a; fits = b; permutation = oq.permutation })

    si : is_sound width n i ≡ true
    si = is_sound-inverse width n a b q

-- as the code makes it, of permutations that hold their size
pub followed_of : (width n j k l : ℕ) (p q i r : List ℕ) → 1 ≤ n → n ≤ width → IsPadded width n p → IsPadded width n q → j ≡ n → k ≡ n → l ≡ k →
    i ≡ inverse_padded width k q → r ≡ composed_padded width j p l i → FollowedByInverse width n p q r
followed_of width n j k l p q i r a b op oq ej ek el ei er = rw (er, ei, el, ek, ej) (followed width n p q a b op oq)

pub same-refuses : (width k : ℕ) (t : Bool) (m n : ℕ) (a b : List ℕ) (r : SameAnswer) → (k ≡ 0 → ⊥) → SameRefused width k r → ComparedBy width k t m n a b r
unfolding ComparedBy
same-refuses width zero t m n a b r h x = absurd (h refl)
same-refuses width (suc k) t m n a b r h x = x

pub same-refused-by : (N k : ℕ) (t : Bool) (m n : ℕ) (a b : List ℕ) (r : Result (Match N) Refusal) (x : Refusal) → IsErr r × IsErrAnd r (λ y. y ≡ x) → refusal_number x ≡ k → (k ≡ 0 → ⊥) →
    ComparedBy N k t m n a b (matched r)
same-refused-by N k t m n a b (Ok o) x h e z = absurd h.1
same-refused-by N k t m n a b (Err y) x h e z =
    same-refuses N k t m n a b (matched {N = N} (Err y)) z
    (record { number_is = ap refusal_number h.1 ∙ e; agreed-is = refl; starting = record { row-identity = refl; column-identity = refl } })

module _ (m n top : ℕ) (a b : List ℕ) (p q : Orders 8) (fits : Limits m n top × IsGrid m n top a × IsGrid m n top b) (lp : LeastOrders m n a p) (lq : LeastOrders m n b q)
    (c : GridComparison) (found : ComparesGrids (leading_rows m n a p) (leading_rows m n b q) c) where
  agreed-is : c.agreed ≡ common_prefix_length (least m n a) (least m n b)
  agreed-is = found.agreed-is ∙ ap₂ common_prefix_length lp.gives lq.gives

  pub agreed-small : c.agreed ≤ 128
  agreed-small =
      let w = (prefix-part (leading_rows m n a p) (leading_rows m n b q)).within.0 in
      let z : length (leading_rows m n a p) ≡ m * n = length-arrangement m n _ _ a in
      omega (arith, w, z, found.agreed-is, size_fits m n fits.0.rows-limits.1 fits.0.column-limits.1)

  module _ (t : Bool) (f : t ≡ is_eq c.found) where
    two-classes : t ≡ false → one_class m n a b ≡ false
    two-classes d = go (one_class m n a b) refl
      where
        go : (o : Bool) → one_class m n a b ≡ o → o ≡ false
        go true e =
            absurd (equal-no _ _ c.found t found.found-is f d (lp.gives ∙ class-least m n a b fits.1.sized (passes-class m n a b e) ∙ sym lq.gives))
        go false e = refl

    pub same_differs : t ≡ false → (width k : ℕ) (r : SameAnswer) → k ≡ 0 → r.number ≡ 103 → r.agreed ≡ c.agreed → Starting width r.rows r.columns →
        ComparedBy width k (one_class m n a b) m n a b r
    unfolding ComparedBy
    same_differs d width k r e g h s = rw (e, two-classes d) (record { number_is = g; agreed-is = h ∙ agreed-is; starting = s })

    one-least : t ≡ true → least m n a ≡ least m n b
    one-least d = sym lp.gives ∙ equal-yes _ _ c.found t found.found-is f d ∙ lq.gives

    all-agree : t ≡ true → c.agreed ≡ m * n
    all-agree d =
        let x = length-least m n a fits.1.sized in
        let y = length-least m n b fits.2.sized in
        agreed-is ∙ (prefix-all (least m n a) (least m n b) (x ∙ sym y)).0 (one-least d) ∙ x

    -- orders that produce a's least arrangement, followed by the inverses of those that produce b's
    pub same_gives : t ≡ true → (width k : ℕ) (pr pc qr qc : List ℕ) (r : SameAnswer) → k ≡ 0 → r.number ≡ 0 → r.agreed ≡ c.agreed →
        Produces width m n a (least m n a) pr pc → Produces width m n b (least m n b) qr qc →
        FollowedByInverse width m pr qr r.rows → FollowedByInverse 16 n pc qc r.columns → ComparedBy width k (one_class m n a b) m n a b r
    unfolding ComparedBy
    same_gives d width k pr pc qr qc r e g h x y fr fs =
        rw (e, class-passes m n a b ((one-class-one-least m n a b fits.1.sized fits.2.sized).1 (one-least d)))
        (record {
          number_is = g;
          agreed-is = h ∙ all-agree d;
          produced = record {
            row-permutation = fr.whole.permutation;
            column-permutation = fs.whole.permutation;
            gives = rw (fr.own, fs.own)
                (same-orders m n a b (least m n b) _ _ _ _ fits.2.sized y.row-permutation y.column-permutation (x.gives ∙ one-least d) y.gives);
            row-rest = fr.whole.rest;
            column-rest = fs.whole.rest;
          };
        })
