-- What covers a branch of the search over partial row orders, step by step.
--
--   placed-stay, placed-next  ==  the rows placed, and the row that is placed next
--   covers-next     ==  what covers every row that can be placed next covers the branch
--   covers-agree    ==  only the rows placed matter
--   covers-lower    ==  what comes no later covers as well
--   covers-placed   ==  all rows placed, and the columns sorted by them: their arrangement covers the branch
--   covers-cut      ==  a branch whose leading rows come after the best's cannot win
--   covers-equal    ==  of two equal rows only one need be placed next
--   covers-least    ==  what covers the branch with no row placed is least
use mathlib.Core.Path.{◌≡◌, sym, ap, ◌∙◌}
use mathlib.Core.List.{List}
use Prim.Native.Nat.{ℕ, suc, ◌≤◌, ◌<◌}
use native.Mathlib.Nat.{not-suc-le-zero}
use native.Mathlib.Decide.{ℕ_discrete, dec_lt}
use native.Mathlib.Omega.{arith}
use lib.ListN.{length, get_or, take}
use lib.Seq.{get_or-take}
use Rattle.permutations.specs.Permutations.{IsPermutation, composed, swapped}
use Rattle.permutations.specs.Padded.{IsPadded}
use Rattle.permutations.proofs.PermutationLaws.{listed, at-composed, composed-permutation}
use Rattle.permutations.proofs.SwapLaws.{at-swapped, swapped_other, length_whole, at-whole}
use Rattle.permutations.proofs.Transpositions.{exchange, exchange-first, exchange-second, exchange-other, transposition, at-transposition, transposition-permutation}
use Rattle.grids.specs.Order.{◌≼◌}
use Rattle.grids.specs.Grids.{cell, arrangement, OneClass}
use Rattle.grids.specs.Sorted.{Ascending}
use Rattle.grids.specs.Least.{IsLeast}
use Rattle.grids.proofs.OrderLaws.{≼_trans, ≼-antisymm}
use Rattle.branches.specs.Branches.{Begins, Covers}
use Rattle.branches.proofs.LeadingRows.{leading-is, leading-decides, best-whole}

-- row orders that list the same rows, cell by cell, give the same leading rows
same_rows : (k n : ℕ) (g p r q : List ℕ) → ((i : ℕ) → i < k → get_or p i 0 ≡ get_or r i 0) → arrangement k n p q g ≡ arrangement k n r q g
same_rows k n g p r q h = leading-is n g p q r q k (λ i j ik jn. ap (λ (x : ℕ). cell n g x (get_or q j 0)) (h i ik))

pub covers-agree : (m n : ℕ) (g : List ℕ) (k : ℕ) (placed other r : List ℕ) → ((i : ℕ) → i < k → get_or other i 0 ≡ get_or placed i 0) → Covers m n g k placed r → Covers m n g k other r
unfolding Covers Begins
covers-agree m n g k placed other r same c p op begins = c p op (λ i ik. begins i ik ∙ same i ik)

pub covers-lower : (m n : ℕ) (g : List ℕ) (k : ℕ) (placed r s : List ℕ) → s ≼ r → Covers m n g k placed r → Covers m n g k placed s
unfolding Covers
covers-lower m n g k placed r s h c p op b q oq = ≼_trans s r (arrangement m n p q g) h (c p op b q oq)

pub covers-least : (m n : ℕ) (g placed r : List ℕ) → OneClass m n g r → Covers m n g 0 placed r → IsLeast m n g r
unfolding Covers Begins
covers-least m n g placed r c h = record {
  arranged = c;
  no-later = λ s d. rw d.gives at (h d.rows d.row-permutation (λ i b. absurd (not-suc-le-zero b)) d.columns d.column-permutation);
}

-- ---- all rows placed

pub covers-placed : (m n : ℕ) (g placed q p' q' : List ℕ) → IsPadded 16 n q → Ascending m n g placed q → arrangement m n p' q' g ≡ arrangement m n placed q g →
    Covers m n g m placed (arrangement m n p' q' g)
unfolding Covers Begins
covers-placed m n g placed q p' q' o up e p op begins r or =
    rw (e, same_rows m n g p placed r begins) (best-whole m n g placed q o up r or)

-- ---- a branch that cannot win

-- Where the leading rows of the best come before the least that the rows placed allow, the best covers the branch.
pub covers-cut : (m n : ℕ) (g : List ℕ) (k : ℕ) (placed q p' q' : List ℕ) → k ≤ m → IsPadded 16 n q → Ascending k n g placed q →
    arrangement k n p' q' g ≼ arrangement k n placed q g → (arrangement k n p' q' g ≡ arrangement k n placed q g → ⊥) → Covers m n g k placed (arrangement m n p' q' g)
unfolding Covers Begins
covers-cut m n g k placed q p' q' km o up h ne p op begins s os = leading-decides n g p' q' p s m k km front strict
  where
    rows : arrangement k n p s g ≡ arrangement k n placed s g
    rows = same_rows k n g p placed s begins

    best : arrangement k n placed q g ≼ arrangement k n placed s g
    best = best-whole k n g placed q o up s os

    front : arrangement k n p' q' g ≼ arrangement k n p s g
    front = rw rows (≼_trans (arrangement k n p' q' g) (arrangement k n placed q g) (arrangement k n placed s g) h best)

    strict : arrangement k n p' q' g ≡ arrangement k n p s g → ⊥
    strict e = ne (≼-antisymm (arrangement k n p' q' g) (arrangement k n placed q g) h (rw (e ∙ rows) best))

-- ---- the row placed next: each row that is not placed, brought to position k

module _ (m n : ℕ) (g : List ℕ) (k : ℕ) (p : List ℕ) (m8 : m ≤ 8) (km : k < m) (o : IsPadded 8 m p) where
  size : length p ≡ 8
  size = length_whole 8 m p o

  once : (i j : ℕ) → i < m → j < m → get_or p i 0 ≡ get_or p j 0 → i ≡ j
  once i j im jm e = o.permutation.once i j im jm (get_or-take m p i 0 im ∙ e ∙ sym (get_or-take m p j 0 jm))

  -- the rows placed stay
  pub placed-stay : (t : ℕ) → k ≤ t → (i : ℕ) → i < k → get_or (swapped p k t) i 0 ≡ get_or p i 0
  placed-stay t kt i ik = swapped_other p k t i (omega arith) (omega arith)

  -- and the row at t comes next
  pub placed-next : (t : ℕ) → t < m → get_or (swapped p k t) k 0 ≡ get_or p t 0
  placed-next t tm = at-swapped p k t k (omega (arith, size)) (omega (arith, size)) ∙ ap (λ (x : ℕ). get_or p x 0) (exchange-first k t)

  pub covers-next : (r : List ℕ) → ((t : ℕ) → k ≤ t → t < m → Covers m n g (suc k) (swapped p k t) r) → Covers m n g k p r
  unfolding Covers Begins
  covers-next r h p' op begins q oq =
      let x = listed m (take m p) o.permutation (get_or p' k 0) (op.within k km) in
      let e : get_or p x.0 0 ≡ get_or p' k 0 = sym (get_or-take m p x.0 0 x.1) ∙ x.2 in
      go x.0 x.1 e (dec_lt x.0 k)
    where
      go : (t : ℕ) → t < m → get_or p t 0 ≡ get_or p' k 0 → Dec (t < k) → r ≼ arrangement m n p' q g
      go t tm e (yes tk) = let z : t ≡ k = op.once t k tm km (begins t tk ∙ e) in absurd (omega arith)
      go t tm e (no tk) = h t (omega arith) tm p' op (λ i ik. next i ik (ℕ_discrete i k)) q oq
        where
          next : (i : ℕ) → i < suc k → Dec (i ≡ k) → get_or p' i 0 ≡ get_or (swapped p k t) i 0
          next i ik (yes z) = rw z (sym e ∙ sym (placed-next t tm))
          next i ik (no nz) = begins i (omega arith) ∙ sym (placed-stay t (omega arith) i (omega arith))

  -- Where the rows at s and t are equal and neither is placed yet, what covers placing the one next covers placing the other.
  pub covers-equal : (s t : ℕ) (r : List ℕ) → k ≤ s → s < m → k ≤ t → t < m → ((j : ℕ) → j < n → cell n g (get_or p t 0) j ≡ cell n g (get_or p s 0) j) →
      Covers m n g (suc k) (swapped p k s) r → Covers m n g (suc k) (swapped p k t) r
  unfolding Covers Begins
  covers-equal s t r ks sm kt tm equal c p' op begins q oq =
      rw (leading-is n g p' q p'' q m (λ i j im jn. alike i im (get_or q j 0) (oq.within j jn))) (c p'' op'' begins'' q oq)
    where
      x : ℕ
      x = get_or p t 0

      y : ℕ
      y = get_or p s 0

      xm : x < m
      xm = at-whole 8 m p o t tm

      ym : y < m
      ym = at-whole 8 m p o s sm

      p'' : List ℕ
      p'' = composed m (transposition m x y) p'

      op'' : IsPermutation m p''
      op'' = composed-permutation m (transposition m x y) p' (transposition-permutation m x y xm ym) op

      at-p'' : (i : ℕ) → i < m → get_or p'' i 0 ≡ exchange x y (get_or p' i 0)
      at-p'' i im = at-composed m (transposition m x y) p' i im ∙ at-transposition m x y (get_or p' i 0) (op.within i im)

      -- a row and the one that takes its place have the same cells
      taken : (v j : ℕ) → j < n → Dec (v ≡ x) → Dec (v ≡ y) → cell n g v j ≡ cell n g (exchange x y v) j
      taken v j jn (yes e) d = rw (e, exchange-first x y) (equal j jn)
      taken v j jn (no ne) (yes e) = rw (e, exchange-second x y) (sym (equal j jn))
      taken v j jn (no ne) (no nf) = rw (exchange-other x y v ne nf)

      alike : (i : ℕ) → i < m → (j : ℕ) → j < n → cell n g (get_or p' i 0) j ≡ cell n g (get_or p'' i 0) j
      alike i im j jn = taken (get_or p' i 0) j jn (ℕ_discrete (get_or p' i 0) x) (ℕ_discrete (get_or p' i 0) y) ∙ ap (λ (v : ℕ). cell n g v j) (sym (at-p'' i im))

      begins'' : (i : ℕ) → i < suc k → get_or p'' i 0 ≡ get_or (swapped p k s) i 0
      begins'' i ik = at-p'' i (omega arith) ∙ go (ℕ_discrete i k)
        where
          go : Dec (i ≡ k) → exchange x y (get_or p' i 0) ≡ get_or (swapped p k s) i 0
          go (yes e) = rw (e, placed-next s sm, begins k (omega arith), placed-next t tm) (exchange-first x y)
          go (no ne) =
              let b : get_or p' i 0 ≡ get_or p i 0 = begins i ik ∙ placed-stay t kt i (omega arith) in
              let nx : get_or p i 0 ≡ x → ⊥ = λ z. let w : i ≡ t = once i t (omega arith) tm z in omega arith in
              let ny : get_or p i 0 ≡ y → ⊥ = λ z. let w : i ≡ s = once i s (omega arith) sm z in omega arith in
              rw (b, placed-stay s ks i (omega arith)) (exchange-other x y (get_or p i 0) nx ny)
