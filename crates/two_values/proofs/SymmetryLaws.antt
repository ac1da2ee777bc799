-- Symmetries of a grid: maps of row numbers that carry a row order to another with the same arrangement.
--
--   symmetry-next   ==  a symmetry that moves none of the rows placed carries the branch of a row to that of its image
--   symmetry-of     ==  two row orders with the same sorted rows give a symmetry
--   Carrying p r i l  ==  the map l has the images of the first i rows of p, which r has
--   symmetries-more, symmetries-each  ==  one symmetry more; each of the first maps is one
--   reached-none, reached-next  ==  the images of the marked rows marked, row by row
--   spreads-images  ==  what covers the rows marked covers their images
--   spreads-marked  ==  what covers the rows marked with one more covers those without it
use mathlib.Core.Path.{◌≡◌, refl, sym, ap, ◌∙◌}
use mathlib.Core.List.{List, []}
use mathlib.Core.Bool.{Bool, true, false}
use Prim.Native.Nat.{ℕ, suc, ◌+◌, ◌≤◌, ◌<◌}
use native.Mathlib.Decide.{ℕ_discrete, dec_lt}
use native.Mathlib.Omega.{arith}
use lib.ListN.{length, get_or, set, take, length-set}
use lib.Seq.{get_or-take, get_or-set_same, get_or-set_other}
use Rattle.permutations.specs.Permutations.{IsPermutation, identity, composed, inverse, swapped}
use Rattle.permutations.specs.Padded.{IsPadded}
use Rattle.permutations.proofs.PermutationLaws.{listed, at-composed, identity-permutation, composed-permutation, inverse-permutation, through}
use Rattle.permutations.proofs.SwapLaws.{swapped-whole}
use Rattle.grids.specs.Grids.{cell, arrangement}
use Rattle.grids.proofs.GridLaws.{arrangement-twice}
use Rattle.branches.specs.Branches.{Covers}
use Rattle.branches.proofs.LeadingRows.{leading-is}
use Rattle.branches.proofs.BranchLaws.{covers-agree, placed-stay, placed-next}
use Rattle.branches.proofs.BranchSymmetry.{covers-alike}
use Rattle.two_values.specs.TwoValues.{column_order, sorted_rows}
use Rattle.two_values.specs.Search.{Next, IsSymmetry, Symmetries, CoveredRows, Spreads}
use Rattle.two_values.specs.Symmetries.{Carries, Fixes, Reached, reached-marked, reached-image, Images}
use Rattle.std.proofs.lemmas.List.{length-take}
use Rattle.two_values.proofs.SortedRows.{order-permutation}

-- ---- the branches of a row and of its image

pub symmetry-next : (m n : ℕ) (g : List ℕ) (k : ℕ) (p : List ℕ) (f : ℕ → ℕ) (s t : ℕ) → m ≤ 8 → k < m → IsPadded 8 m p → IsSymmetry m n g f →
    ((i : ℕ) → i < k → f (get_or p i 0) ≡ get_or p i 0) → k ≤ s → s < m → k ≤ t → t < m → f (get_or p s 0) ≡ get_or p t 0 → Next m n g k p s t
unfolding Next
symmetry-next m n g k p f s t m8 km o y fixed ks sm kt tm image r c =
    covers-agree m n g (suc k) w (swapped p k t) r (λ i ik. sym (go i ik (ℕ_discrete i k)))
    (covers-alike m n g (suc k) (composed m y.rows u) (composed n y.columns e) w (composed n y.other-columns e) r km
    (composed-permutation m y.rows u y.row-permutation ou) (composed-permutation n y.columns e y.column-permutation oe)
    (composed-permutation m y.other-rows u y.other-row-permutation ou) (composed-permutation n y.other-columns e y.other-column-permutation oe) same
    (covers-agree m n g (suc k) (swapped p k s) (composed m y.rows u) r (λ i ik. at-z i (omega arith)) c))
  where
    z : List ℕ
    z = take m (swapped p k s)

    oz : IsPermutation m z
    oz = (swapped-whole 8 m p k s m8 km sm o).permutation

    u : List ℕ
    u = composed m (inverse m y.rows) z

    ou : IsPermutation m u
    ou = composed-permutation m (inverse m y.rows) z (inverse-permutation m y.rows y.row-permutation) oz

    e : List ℕ
    e = identity n

    oe : IsPermutation n e
    oe = identity-permutation n

    w : List ℕ
    w = composed m y.other-rows u

    same : arrangement m n (composed m y.rows u) (composed n y.columns e) g ≡ arrangement m n w (composed n y.other-columns e) g
    same =
        sym (arrangement-twice m n y.rows y.columns u e g ou oe)
        ∙ ap (arrangement m n u e) y.gives
        ∙ arrangement-twice m n y.other-rows y.other-columns u e g ou oe

    at-z : (i : ℕ) → i < m → get_or (composed m y.rows u) i 0 ≡ get_or (swapped p k s) i 0
    at-z i im = ap (λ (l : List ℕ). get_or l i 0) (through m y.rows y.row-permutation z oz) ∙ get_or-take m (swapped p k s) i 0 im

    at-w : (i : ℕ) → i < m → get_or w i 0 ≡ f (get_or (swapped p k s) i 0)
    at-w i im =
        at-composed m y.other-rows u i im
        ∙ sym (y.carries (get_or u i 0) (ou.within i im))
        ∙ ap f (sym (at-composed m y.rows u i im) ∙ at-z i im)

    go : (i : ℕ) → i < suc k → Dec (i ≡ k) → get_or w i 0 ≡ get_or (swapped p k t) i 0
    go i ik (yes x) =
        at-w i (omega arith)
        ∙ rw x (ap f (placed-next m n g k p m8 km o s sm) ∙ image ∙ sym (placed-next m n g k p m8 km o t tm))
    go i ik (no nx) =
        at-w i (omega arith)
        ∙ ap f (placed-stay m n g k p m8 km o s ks i (omega arith))
        ∙ fixed i (omega arith)
        ∙ sym (placed-stay m n g k p m8 km o t kt i (omega arith))

-- ---- a symmetry from two row orders

-- the order's own permutation gives the sorted rows
own : (m n : ℕ) (g p : List ℕ) → arrangement m n (take m p) (column_order m n g p) g ≡ sorted_rows m n g p
unfolding sorted_rows
own m n g p =
    leading-is n g (take m p) (column_order m n g p) p (column_order m n g p) m λ i j im jn.
    ap (λ (x : ℕ). cell n g x (get_or (column_order m n g p) j 0)) (get_or-take m p i 0 im)

pub symmetry-of : (m n : ℕ) (g p r : List ℕ) (f : ℕ → ℕ) → IsPadded 8 m p → IsPadded 8 m r → sorted_rows m n g p ≡ sorted_rows m n g r →
    ((i : ℕ) → i < m → f (get_or p i 0) ≡ get_or r i 0) → IsSymmetry m n g f
symmetry-of m n g p r f op or e h = record {
  rows = take m p;
  columns = column_order m n g p;
  other-rows = take m r;
  other-columns = column_order m n g r;
  row-permutation = op.permutation;
  column-permutation = order-permutation m n g p;
  other-row-permutation = or.permutation;
  other-column-permutation = order-permutation m n g r;
  gives = own m n g p ∙ e ∙ sym (own m n g r);
  carries = λ i im. ap f (get_or-take m p i 0 im) ∙ h i im ∙ sym (get_or-take m r i 0 im);
}

-- ---- a map written row by row

-- the images of the first i rows of p are written
pub record Carrying (p r : List ℕ) (i : ℕ) (l : List ℕ) : Type 0 where
  pub size : length l ≡ 8
  pub carried : (j : ℕ) → j < i → get_or l (get_or p j 0) 0 ≡ get_or r j 0

-- ---- one symmetry more

pub symmetries-more : (m n : ℕ) (g p r l : List ℕ) (a b : List (List ℕ)) (count more : ℕ) → IsPadded 8 m p → IsPadded 8 m r → sorted_rows m n g p ≡ sorted_rows m n g r →
    count < 4 → b ≡ set a count l → more ≡ count + 1 → Symmetries m n g a count → Carries m p r l → Symmetries m n g b more
symmetries-more m n g p r l a b count more op or e few eb em y h = rw (eb, em) (record { few = omega arith; size = length-set a count l ∙ y.size; each = λ s sc. go s sc (ℕ_discrete s count) })
  where
    go : (s : ℕ) → s < count + 1 → Dec (s ≡ count) → IsSymmetry m n g (λ x. get_or (get_or (set a count l) s []) x 0)
    go s sc (yes z) = rw (z, get_or-set_same a count l [] (omega (arith, y.size))) (symmetry-of m n g p r (λ x. get_or l x 0) op or e h.carries)
    go s sc (no nz) = rw (get_or-set_other a count s l [] nz) (y.each s (omega arith))

pub symmetries-each : (m n : ℕ) (g : List ℕ) (l : List (List ℕ)) (count s : ℕ) → Symmetries m n g l count → s < length (take count l) → IsSymmetry m n g (λ x. get_or (get_or (take count l) s []) x 0)
symmetries-each m n g l count s y sc =
    let b : s < count = omega (arith, length-take count l) in
    rw (get_or-take count l s [] b) (y.each s b)

-- ---- the images of the marked rows

pub reached-none : (m : ℕ) (l : List ℕ) (a : List Bool) → length a ≡ 8 → Images m l a a
reached-none m l a e = record { size = e; reached = λ x h. reached-marked h }

pub reached-next : (m : ℕ) (l : List ℕ) (a b : List Bool) (x v : ℕ) → x < m → get_or b x false ≡ true → v ≡ get_or l x 0 →
    Images m l a b → Images m l a (set b v true)
reached-next m l a b x v xm ne e h = record { size = length-set b v true ∙ h.size; reached = λ y hy. go y hy (ℕ_discrete y v) }
  where
    go : (y : ℕ) → get_or (set b v true) y false ≡ true → Dec (y ≡ v) → Reached m l a y
    go y hy (yes z) = rw (z, e) (reached-image xm (h.reached x ne))
    go y hy (no nz) = h.reached y (sym (get_or-set_other b v y true false nz) ∙ hy)

-- ---- what covers the rows marked covers their images

pub spreads-marked : (m n : ℕ) (g : List ℕ) (k : ℕ) (p : List ℕ) (a : List Bool) (x : ℕ) → x < 8 → length a ≡ 8 → Spreads m n g k p (set a x true) a
unfolding CoveredRows
spreads-marked m n g k p a x x8 e = record { size = e; covers = λ r c t kt tm h. c t kt tm (still (get_or p t 0) h (ℕ_discrete (get_or p t 0) x)) }
  where
    still : (y : ℕ) → get_or a y false ≡ true → Dec (y ≡ x) → get_or (set a x true) y false ≡ true
    still y h (yes f) = rw f (get_or-set_same a x true false (omega arith))
    still y h (no nf) = get_or-set_other a x y true false nf ∙ h

module _ (m n : ℕ) (g : List ℕ) (k : ℕ) (p l : List ℕ) (m8 : m ≤ 8) (km : k < m) (o : IsPadded 8 m p) (y : IsSymmetry m n g (λ x. get_or l x 0))
    (fixed : (i : ℕ) → i < k → get_or l (get_or p i 0) 0 ≡ get_or p i 0) (r : List ℕ) (a : List Bool) (c : CoveredRows m n g k p r a) where
  -- the row x, placed next, is covered
  reached-covered : (x : ℕ) → Reached m l a x → (t : ℕ) → k ≤ t → t < m → get_or p t 0 ≡ x → Covers m n g (suc k) (swapped p k t) r
  unfolding CoveredRows Next
  reached-covered x (reached-marked h) t kt tm e = c t kt tm (rw e h)
  reached-covered x (reached-image {x = v} vm h) t kt tm e =
      let q = listed m (take m p) o.permutation v vm in
      let f : get_or p q.0 0 ≡ v = sym (get_or-take m p q.0 0 q.1) ∙ q.2 in
      go q.0 q.1 f (dec_lt q.0 k) (λ i ki im d. reached-covered v h i ki im d)
    where
      go : (i : ℕ) → i < m → get_or p i 0 ≡ v → Dec (i < k) → ((t : ℕ) → k ≤ t → t < m → get_or p t 0 ≡ v → Covers m n g (suc k) (swapped p k t) r) →
          Covers m n g (suc k) (swapped p k t) r
      go i im f (yes ik) ih =
          let z : get_or p t 0 ≡ get_or p i 0 = e ∙ rw (← f) (fixed i ik) in
          let w : t ≡ i = o.permutation.once t i tm im (get_or-take m p t 0 tm ∙ z ∙ sym (get_or-take m p i 0 im)) in
          absurd (omega arith)
      go i im f (no ik) ih =
          symmetry-next m n g k p (λ x. get_or l x 0) i t m8 km o y fixed (omega arith) im kt tm (rw f (sym e)) r (ih i (omega arith) im f)

pub spreads-images : (m n : ℕ) (g : List ℕ) (k : ℕ) (p l : List ℕ) (test : Bool) (a b c : List Bool) → m ≤ 8 → k < m → IsPadded 8 m p → IsSymmetry m n g (λ x. get_or l x 0) →
    test ≡ true → Fixes l p k test → Spreads m n g k p a b → Images m l b c → Spreads m n g k p a c
unfolding CoveredRows
spreads-images m n g k p l test a b c m8 km o y e f h i = record {
  size = i.size;
  covers = λ r cr t kt tm ne. reached-covered m n g k p l m8 km o y (f.fixed e) r b (h.covers r cr) (get_or p t 0) (i.reached (get_or p t 0) ne) t kt tm refl;
}
