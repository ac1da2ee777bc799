-- Symmetries of a grid: maps of row numbers that carry a row order to another with the same arrangement.
--
--   row_at, row_below  ==  the number of a row of an array, and that it is below 8
--   symmetry-next   ==  a symmetry that moves none of the rows placed carries the branch of a row to that of its image
--   symmetry-of     ==  two row orders with the same sorted rows give a symmetry
--   symmetry-agree  ==  only the images of the rows matter
--   Carrying p r a kept i b  ==  b is a with the images of the first i rows of p, which r has, written as symmetry `kept`
--   carrying-next, carrying-all  ==  a symmetry written row by row
--   FixesUpTo l s p i  ==  the symmetry s of l moves none of the first i rows of p
--   fixes-next          ==  the rows placed compared with their images, one by one
--   reached-none, reached-next  ==  the images of the rows of a set put into it, row by row
--   spreads-refl, spreads-images  ==  what covers the rows of a set covers their images
--   spreads-with  ==  what covers the rows of a set, and one row more, covers their images
use Rattle.std.proofs.Common.{◌≡◌, ℕ, suc, ◌+◌, ◌*◌, ◌<◌, ◌≤◌, Bool, true, ◌⊎◌, ◌↔◌, List, length, get_or, take, set, sym, refl, ap, ◌∙◌, inl, inr, ⊎_elim, arith, length-set, get_or-set_other, get_or-take, get_or-set_same}
use native.Mathlib.Decide.{ℕ_discrete, dec_lt}
use lib.ListN.{get_or-map}
use Rattle.permutations.specs.declared.rows.RowNumber.{RowNumber}
use Rattle.permutations.specs.Rows.{row_number}
use Rattle.permutations.specs.Permutations.{IsPermutation, identity, composed, inverse, swapped}
use Rattle.permutations.specs.Padded.{IsPadded}
use Rattle.permutations.proofs.PermutationLaws.{listed, at-composed, identity-permutation, composed-permutation, inverse-permutation, through}
use Rattle.permutations.proofs.SwapLaws.{at-whole, swapped-whole}
use Rattle.grids.specs.Grids.{cell, arrangement}
use Rattle.grids.proofs.GridLaws.{arrangement-twice}
use Rattle.branches.specs.Branches.{Covers, Next}
use Rattle.branches.proofs.LeadingRows.{leading-is}
use Rattle.branches.proofs.BranchLaws.{covers-agree, placed-stay, placed-next}
use Rattle.branches.proofs.BranchSymmetry.{covers-alike}
use Rattle.branches.specs.SortedRows.{column_order, sorted_rows}
use Rattle.branches.proofs.SortedRows.{order-permutation}
use Rattle.search.specs.RowSets.{IsRowSet, HasRow}
use Rattle.search.specs.Search.{rows_of, IsSymmetry, Symmetries, CoveredRows, Spreads, SpreadsWith}
use Rattle.search.specs.Symmetries.{Fixes, Reached, reached-marked, reached-image, Images}

-- ---- the rows of an array

pub row_at : (l : List RowNumber) (i : ℕ) → row_number (get_or l i record { 0 = 0 }) ≡ get_or (rows_of l) i 0
row_at l i = sym (get_or-map row_number l i record { 0 = 0 })

pub row_below : (m : ℕ) (l : List RowNumber) (i : ℕ) → m ≤ 8 → i < m → IsPadded 8 m (rows_of l) → row_number (get_or l i record { 0 = 0 }) < 8
row_below m l i m8 im o = omega (arith, row_at l i, at-whole 8 m (rows_of l) o i im)

-- ---- the branches of a row and of its image

pub symmetry-next : (m n : ℕ) (g : List ℕ) (k : ℕ) (p : List ℕ) (f : ℕ → ℕ) (s t : ℕ) → m ≤ 8 → k < m → IsPadded 8 m p → IsSymmetry m n g f →
    ((i : ℕ) → i < k → f (get_or p i 0) ≡ get_or p i 0) → k ≤ s → s < m → k ≤ t → t < m → f (get_or p s 0) ≡ get_or p t 0 → Next m n g k p s t
unfolding Next
symmetry-next m n g k p f s t m8 km o y fixed ks sm kt tm image r c =
    covers-agree m n g (suc k) w (swapped p k t) r (λ i ik. sym (go i ik (ℕ_discrete i k)))
    (covers-alike m n g (suc k) (composed m y.rows u) (composed n y.columns e) w (composed n y.other-columns e) r km
    (composed-permutation m y.rows u y.row-permutation ou) (composed-permutation n y.columns e y.column-permutation oe)
    (composed-permutation m y.other-rows u y.other-row-permutation ou) (composed-permutation n y.other-columns e y.other-column-permutation oe) same
    (covers-agree m n g (suc k) (swapped p k s) (composed m y.rows u) r (λ i ik. at-z i (omega arith)) c))
  where
    z : List ℕ
    z = take m (swapped p k s)

    oz : IsPermutation m z
    oz = (swapped-whole 8 m p k s m8 km sm o).permutation

    u : List ℕ
    u = composed m (inverse m y.rows) z

    ou : IsPermutation m u
    ou = composed-permutation m (inverse m y.rows) z (inverse-permutation m y.rows y.row-permutation) oz

    e : List ℕ
    e = identity n

    oe : IsPermutation n e
    oe = identity-permutation n

    w : List ℕ
    w = composed m y.other-rows u

    same : arrangement m n (composed m y.rows u) (composed n y.columns e) g ≡ arrangement m n w (composed n y.other-columns e) g
    same =
        sym (arrangement-twice m n y.rows y.columns u e g ou oe)
        ∙ ap (arrangement m n u e) y.gives
        ∙ arrangement-twice m n y.other-rows y.other-columns u e g ou oe

    at-z : (i : ℕ) → i < m → get_or (composed m y.rows u) i 0 ≡ get_or (swapped p k s) i 0
    at-z i im = ap (λ (l : List ℕ). get_or l i 0) (through m y.rows y.row-permutation z oz) ∙ get_or-take m (swapped p k s) i 0 im

    at-w : (i : ℕ) → i < m → get_or w i 0 ≡ f (get_or (swapped p k s) i 0)
    at-w i im =
        at-composed m y.other-rows u i im
        ∙ sym (y.carries (get_or u i 0) (ou.within i im))
        ∙ ap f (sym (at-composed m y.rows u i im) ∙ at-z i im)

    go : (i : ℕ) → i < suc k → Dec (i ≡ k) → get_or w i 0 ≡ get_or (swapped p k t) i 0
    go i ik (yes x) =
        at-w i (omega arith)
        ∙ rw x (ap f (placed-next m n g k p m8 km o s sm) ∙ image ∙ sym (placed-next m n g k p m8 km o t tm))
    go i ik (no nx) =
        at-w i (omega arith)
        ∙ ap f (placed-stay m n g k p m8 km o s ks i (omega arith))
        ∙ fixed i (omega arith)
        ∙ sym (placed-stay m n g k p m8 km o t kt i (omega arith))

-- ---- a symmetry from two row orders

-- the order's own permutation gives the sorted rows
own : (m n : ℕ) (g p : List ℕ) → arrangement m n (take m p) (column_order m n g p) g ≡ sorted_rows m n g p
unfolding sorted_rows
own m n g p =
    leading-is n g (take m p) (column_order m n g p) p (column_order m n g p) m λ i j im jn.
    ap (λ (x : ℕ). cell n g x (get_or (column_order m n g p) j 0)) (get_or-take m p i 0 im)

pub symmetry-of : (m n : ℕ) (g p r : List ℕ) (f : ℕ → ℕ) → IsPadded 8 m p → IsPadded 8 m r → sorted_rows m n g p ≡ sorted_rows m n g r →
    ((i : ℕ) → i < m → f (get_or p i 0) ≡ get_or r i 0) → IsSymmetry m n g f
symmetry-of m n g p r f op or e h = record {
  rows = take m p;
  columns = column_order m n g p;
  other-rows = take m r;
  other-columns = column_order m n g r;
  row-permutation = op.permutation;
  column-permutation = order-permutation m n g p;
  other-row-permutation = or.permutation;
  other-column-permutation = order-permutation m n g r;
  gives = own m n g p ∙ e ∙ sym (own m n g r);
  carries = λ i im. ap f (get_or-take m p i 0 im) ∙ h i im ∙ sym (get_or-take m r i 0 im);
}

pub symmetry-agree : (m n : ℕ) (g : List ℕ) (f h : ℕ → ℕ) → ((x : ℕ) → x < m → h x ≡ f x) → IsSymmetry m n g f → IsSymmetry m n g h
symmetry-agree m n g f h same y = record {
  rows = y.rows;
  columns = y.columns;
  other-rows = y.other-rows;
  other-columns = y.other-columns;
  row-permutation = y.row-permutation;
  column-permutation = y.column-permutation;
  other-row-permutation = y.other-row-permutation;
  other-column-permutation = y.other-column-permutation;
  gives = y.gives;
  carries = λ i im. same (get_or y.rows i 0) (y.row-permutation.within i im) ∙ y.carries i im;
}

-- ---- a symmetry written row by row

-- of the symmetry `kept`, the images of the first i rows of p are written; the symmetries before it are as they were in a
pub record Carrying (p r a : List ℕ) (kept i : ℕ) (b : List ℕ) : Type 0 where
  pub size : length b ≡ 32
  pub earlier : (j : ℕ) → j < kept * 8 → get_or b j 0 ≡ get_or a j 0
  pub carried : (j : ℕ) → j < i → get_or b (kept * 8 + get_or p j 0) 0 ≡ get_or r j 0

pub carrying-next : (m : ℕ) (p r a : List ℕ) (kept i : ℕ) (b : List ℕ) (x v : ℕ) → m ≤ 8 → kept < 4 → i < m → IsPadded 8 m p →
    x ≡ get_or p i 0 → v ≡ get_or r i 0 → Carrying p r a kept i b → Carrying p r a kept (i + 1) (set b (kept * 8 + x) v)
carrying-next m p r a kept i b x v m8 k4 im o ex ev h = record {
  size = length-set b at v ∙ h.size;
  earlier = λ j jk. get_or-set_other b at j v 0 (omega arith) ∙ h.earlier j jk;
  carried = λ j ji. go j ji (ℕ_discrete j i);
}
  where
    at : ℕ
    at = kept * 8 + x

    go : (j : ℕ) → j < i + 1 → Dec (j ≡ i) → get_or (set b at v) (kept * 8 + get_or p j 0) 0 ≡ get_or r j 0
    go j ji (yes e) = rw (e, ← ex) (get_or-set_same b at v 0 (omega (arith, h.size, ex, at-whole 8 m p o i im)) ∙ ev)
    go j ji (no ne) =
        get_or-set_other b at (kept * 8 + get_or p j 0) v 0
        (λ e.
        let z : get_or p j 0 ≡ get_or p i 0 = omega (arith, ex, e) in
        ne (o.permutation.once j i (omega arith) im (get_or-take m p j 0 (omega arith) ∙ z ∙ sym (get_or-take m p i 0 im))))
        ∙ h.carried j (omega arith)

pub carrying-all : (m n : ℕ) (g p r a : List ℕ) (kept i : ℕ) (b : List ℕ) → m ≤ 8 → kept < 4 → m ≤ i → IsPadded 8 m p → IsPadded 8 m r →
    sorted_rows m n g p ≡ sorted_rows m n g r → Symmetries m n g a kept → Carrying p r a kept i b → Symmetries m n g b (kept + 1)
carrying-all m n g p r a kept i b m8 k4 mi op or e y h = record { few = omega arith; size = h.size; each = λ s sk. go s sk (ℕ_discrete s kept) }
  where
    go : (s : ℕ) → s < kept + 1 → Dec (s ≡ kept) → IsSymmetry m n g (λ x. get_or b (s * 8 + x) 0)
    go s sk (yes z) = rw z (symmetry-of m n g p r (λ x. get_or b (kept * 8 + x) 0) op or e (λ j jm. h.carried j (omega arith)))
    go s sk (no nz) =
        symmetry-agree m n g (λ x. get_or a (s * 8 + x) 0) (λ x. get_or b (s * 8 + x) 0) (λ x xm. h.earlier (s * 8 + x) (omega arith)) (y.each s (omega arith))

-- ---- whether a symmetry moves none of the rows placed

-- the symmetry s moves none of the first i rows of p
pub record FixesUpTo (l : List ℕ) (s : ℕ) (p : List ℕ) (i : ℕ) : Type 0 where
  pub fixed : (j : ℕ) → j < i → get_or l (s * 8 + get_or p j 0) 0 ≡ get_or p j 0

pub fixes-next : (l : List ℕ) (s : ℕ) (p : List ℕ) (i x : ℕ) → x ≡ get_or p i 0 → get_or l (s * 8 + x) 0 ≡ x → FixesUpTo l s p i → FixesUpTo l s p (i + 1)
fixes-next l s p i x e f h = record { fixed = λ j ji. go j ji (ℕ_discrete j i) }
  where
    go : (j : ℕ) → j < i + 1 → Dec (j ≡ i) → get_or l (s * 8 + get_or p j 0) 0 ≡ get_or p j 0
    go j ji (yes z) = rw (z, ← e) f
    go j ji (no nz) = h.fixed j (omega arith)

-- ---- the images of the rows of a set

pub reached-none : (m : ℕ) (l : List ℕ) (s a : ℕ) → IsRowSet a → Images m l s a a
reached-none m l s a e = record { set = e; reached = λ x h. reached-marked h }

pub reached-next : (m : ℕ) (l : List ℕ) (s a b x v c : ℕ) → x < m → HasRow b x → v ≡ get_or l (s * 8 + x) 0 →
    IsRowSet c → ((y : ℕ) → HasRow c y ↔ (HasRow b y ⊎ (y ≡ v))) → Images m l s a b → Images m l s a c
reached-next m l s a b x v c xm has e cs more h = record { set = cs; reached = λ y hy. go y ((more y).0 hy) }
  where
    go : (y : ℕ) → HasRow b y ⊎ (y ≡ v) → Reached m l s a y
    go y (inl q) = h.reached y q
    go y (inr q) = rw (q, e) (reached-image xm (h.reached x has))

-- ---- what covers the rows of a set covers their images

pub spreads-refl : (m n : ℕ) (g : List ℕ) (k : ℕ) (p : List ℕ) (a : ℕ) → IsRowSet a → Spreads m n g k p a a
spreads-refl m n g k p a e = record { set = e; covers = λ r c. c }

pub spreads-with : (m n : ℕ) (g : List ℕ) (k : ℕ) (p : List ℕ) (a row b c : ℕ) → ((x : ℕ) → HasRow b x ↔ (HasRow a x ⊎ (x ≡ row))) →
    Spreads m n g k p b c → SpreadsWith m n g k p a row c
unfolding CoveredRows
spreads-with m n g k p a row b c more h = record {
  set = h.set;
  covers = λ r old new. h.covers r λ t kt tm has. ⊎_elim (λ x. old t kt tm x) (λ x. new t kt tm x) ((more (get_or p t 0)).0 has);
}

module _ (m n : ℕ) (g : List ℕ) (k : ℕ) (p l : List ℕ) (s : ℕ) (m8 : m ≤ 8) (km : k < m) (o : IsPadded 8 m p) (y : IsSymmetry m n g (λ x. get_or l (s * 8 + x) 0))
    (fixed : (i : ℕ) → i < k → get_or l (s * 8 + get_or p i 0) 0 ≡ get_or p i 0) (r : List ℕ) (a : ℕ) (c : CoveredRows m n g k p r a) where
  -- the row x, placed next, is covered
  reached-covered : (x : ℕ) → Reached m l s a x → (t : ℕ) → k ≤ t → t < m → get_or p t 0 ≡ x → Covers m n g (suc k) (swapped p k t) r
  unfolding CoveredRows Next
  reached-covered x (reached-marked h) t kt tm e = c t kt tm (rw e h)
  reached-covered x (reached-image {x = v} vm h) t kt tm e =
      let q = listed m (take m p) o.permutation v vm in
      let f : get_or p q.0 0 ≡ v = sym (get_or-take m p q.0 0 q.1) ∙ q.2 in
      go q.0 q.1 f (dec_lt q.0 k) (λ i ki im d. reached-covered v h i ki im d)
    where
      go : (i : ℕ) → i < m → get_or p i 0 ≡ v → Dec (i < k) → ((t : ℕ) → k ≤ t → t < m → get_or p t 0 ≡ v → Covers m n g (suc k) (swapped p k t) r) →
          Covers m n g (suc k) (swapped p k t) r
      go i im f (yes ik) ih =
          let z : get_or p t 0 ≡ get_or p i 0 = e ∙ rw (← f) (fixed i ik) in
          let w : t ≡ i = o.permutation.once t i tm im (get_or-take m p t 0 tm ∙ z ∙ sym (get_or-take m p i 0 im)) in
          absurd (omega arith)
      go i im f (no ik) ih =
          symmetry-next m n g k p (λ x. get_or l (s * 8 + x) 0) i t m8 km o y fixed (omega arith) im kt tm (rw f (sym e)) r (ih i (omega arith) im f)

pub spreads-images : (m n : ℕ) (g : List ℕ) (k : ℕ) (p l : List ℕ) (s : ℕ) (test : Bool) (a b c : ℕ) → m ≤ 8 → k < m → IsPadded 8 m p → IsSymmetry m n g (λ x. get_or l (s * 8 + x) 0) →
    test ≡ true → Fixes l s p k test → Spreads m n g k p a b → Images m l s b c → Spreads m n g k p a c
unfolding CoveredRows
spreads-images m n g k p l s test a b c m8 km o y e f h i = record {
  set = i.set;
  covers = λ r cr t kt tm ne. reached-covered m n g k p l s m8 km o y (f.fixed e) r b (h.covers r cr) (get_or p t 0) (i.reached (get_or p t 0) ne) t kt tm refl;
}
