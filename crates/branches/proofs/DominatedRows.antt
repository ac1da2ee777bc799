-- Rows that another row dominates: exchanging the two rows, and columns in pairs, makes no row of an arrangement greater.
--
--   Sorts m n g       ==  for every row order there is a column order that sorts the columns by it
--   covers-dominated  ==  what covers placing a row next covers placing a row that it dominates
use mathlib.Core.Path.{◌≡◌, sym, ap, ◌∙◌}
use mathlib.Core.List.{List}
use mathlib.Core.Logic.{◌⊎◌, inl, inr}
use Prim.Native.Nat.{ℕ, suc, ◌+◌, ◌*◌, ◌/◌, ◌%◌, ◌≤◌, ◌<◌}
use native.Mathlib.Decide.{ℕ_discrete, dec_lt}
use native.Mathlib.Omega.{arith}
use lib.ListN.{get_or, take}
use lib.Seq.{get_or-take}
use Rattle.permutations.specs.Permutations.{IsPermutation, composed, swapped}
use Rattle.permutations.specs.Lists.{tabulate}
use Rattle.permutations.specs.Padded.{IsPadded}
use Rattle.permutations.proofs.ListLaws.{length-tabulate, at-tabulate}
use Rattle.permutations.proofs.PermutationLaws.{listed, at-composed, composed-permutation}
use Rattle.permutations.proofs.SwapLaws.{at-whole}
use Rattle.permutations.proofs.Transpositions.{exchange, exchange-first, exchange-second, exchange-other, transposition, at-transposition, transposition-permutation}
use Rattle.grids.specs.Order.{rank, ◌≼◌}
use Rattle.grids.specs.Grids.{cell, arrangement}
use Rattle.grids.specs.Sorted.{Ascending, permuted_column}
use Rattle.grids.proofs.OrderLaws.{≼_trans, ≼-by-index, tabulate-at, trichotomy}
use Rattle.grids.proofs.GridLaws.{row-column, length-arrangement, cell-arrangement}
use Rattle.grids.proofs.SortedColumns.{best-columns}
use Rattle.branches.specs.Branches.{Begins, Covers, Dominates}
use Rattle.branches.proofs.BranchLaws.{placed-stay, placed-next}

-- an arrangement comes no later where each cell, all before it being equal, ranks no higher
by-cell : (m n : ℕ) (g p q p' q' : List ℕ) →
    ((i j : ℕ) → i < m → j < n → ((e : ℕ) → e < j → cell n g (get_or p i 0) (get_or q e 0) ≡ cell n g (get_or p' i 0) (get_or q' e 0)) →
    rank (cell n g (get_or p i 0) (get_or q j 0)) ≤ rank (cell n g (get_or p' i 0) (get_or q' j 0))) →
    arrangement m n p q g ≼ arrangement m n p' q' g
by-cell m n g p q p' q' h =
    ≼-by-index a b (length-arrangement m n p q g ∙ sym (length-arrangement m n p' q' g)) λ t tl same.
    let r = row-column m n t (omega (arith, length-arrangement m n p q g)) in
    step t (t / n) (t % n) r.0 r.1 r.2 same
  where
    a : List ℕ
    a = arrangement m n p q g

    b : List ℕ
    b = arrangement m n p' q' g

    step : (t i j : ℕ) → i < m → j < n → i * n + j ≡ t → ((s : ℕ) → s < t → get_or a s 0 ≡ get_or b s 0) → rank (get_or a t 0) ≤ rank (get_or b t 0)
    step t i j im jn f same =
        rw (← f) (rw (cell-arrangement m n p q g i j im jn, cell-arrangement m n p' q' g i j im jn)
        (h i j im jn λ e ej.
        sym (cell-arrangement m n p q g i e im (omega arith)) ∙ same (i * n + e) (rw (← f) (omega arith)) ∙ cell-arrangement m n p' q' g i e im (omega arith)))

abbrev pub Sorts : ℕ → ℕ → List ℕ → Type 0
Sorts m n g = (p : List ℕ) → (q : List ℕ) × IsPermutation n q × Ascending m n g p q

module _ (m n : ℕ) (g : List ℕ) (k : ℕ) (p : List ℕ) (m8 : m ≤ 8) (km : k < m) (o : IsPadded 8 m p) (s t : ℕ) (f : ℕ → ℕ) (ks : k ≤ s) (sm : s < m) (kt : k ≤ t) (tm : t < m)
    (h : Dominates m n g p k s t f) where
  once : (i j : ℕ) → i < m → j < m → get_or p i 0 ≡ get_or p j 0 → i ≡ j
  once i j im jm e = o.permutation.once i j im jm (get_or-take m p i 0 im ∙ e ∙ sym (get_or-take m p j 0 jm))

  -- the rows at t and s, by their numbers
  x : ℕ
  x = get_or p t 0

  y : ℕ
  y = get_or p s 0

  xm : x < m
  unfolding x
  xm = at-whole 8 m p o t tm

  ym : y < m
  unfolding y
  ym = at-whole 8 m p o s sm

  -- with the columns exchanged, the row at s has the cells of the row at t, and the other way round
  s-as-t : (e : ℕ) → e < n → cell n g y (f e) ≡ cell n g x e
  unfolding x y
  s-as-t e en = h.exchanged e en

  t-as-s : (e : ℕ) → e < n → cell n g x (f e) ≡ cell n g y e
  unfolding x y
  t-as-s e en = rw (h.back e en) at (sym (h.exchanged (f e) (h.within e en)))

  -- the columns so exchanged, as a list
  paired : List ℕ
  paired = tabulate 0 n f

  at-paired : (j : ℕ) → j < n → get_or paired j 0 ≡ f j
  unfolding paired
  at-paired j jn = at-tabulate n f j 0 jn

  paired-permutation : IsPermutation n paired
  unfolding paired
  paired-permutation = record {
    size = length-tabulate 0 n f;
    within = λ j jn. rw (at-paired j jn) (h.within j jn);
    once = λ i j im jn e. sym (h.back i im) ∙ ap f (sym (at-paired i im) ∙ e ∙ at-paired j jn) ∙ h.back j jn;
  }

  -- a row order of the branch of t, its columns sorted
  module _ (p' : List ℕ) (op : IsPermutation m p') (begins : Begins (suc k) (swapped p k t) p') (q : List ℕ) (oq : IsPermutation n q) (up : Ascending m n g p' q) where
    p'' : List ℕ
    p'' = composed m (transposition m x y) p'

    op'' : IsPermutation m p''
    unfolding p''
    op'' = composed-permutation m (transposition m x y) p' (transposition-permutation m x y xm ym) op

    at-p'' : (i : ℕ) → i < m → get_or p'' i 0 ≡ exchange x y (get_or p' i 0)
    unfolding p''
    at-p'' i im = at-composed m (transposition m x y) p' i im ∙ at-transposition m x y (get_or p' i 0) (op.within i im)

    q'' : List ℕ
    q'' = composed n paired q

    oq'' : IsPermutation n q''
    unfolding q''
    oq'' = composed-permutation n paired q paired-permutation oq

    at-q'' : (j : ℕ) → j < n → get_or q'' j 0 ≡ f (get_or q j 0)
    unfolding q''
    at-q'' j jn = at-composed n paired q j jn ∙ at-paired (get_or q j 0) (oq.within j jn)

    front : (i : ℕ) → i < k → get_or p' i 0 ≡ get_or p i 0
    unfolding Begins
    front i ik = begins i (omega arith) ∙ placed-stay m n g k p m8 km o t kt i ik

    next : get_or p' k 0 ≡ x
    unfolding Begins x
    next = begins k (omega arith) ∙ placed-next m n g k p m8 km o t tm

    begins'' : Begins (suc k) (swapped p k s) p''
    unfolding Begins x y
    begins'' i ik = at-p'' i (omega arith) ∙ go (ℕ_discrete i k)
      where
        go : Dec (i ≡ k) → exchange x y (get_or p' i 0) ≡ get_or (swapped p k s) i 0
        go (yes e) = rw (e, placed-next m n g k p m8 km o s sm, next) (exchange-first x y)
        go (no ne) =
            let nx : get_or p i 0 ≡ x → ⊥ = λ z. let w : i ≡ t = once i t (omega arith) tm z in omega arith in
            let ny : get_or p i 0 ≡ y → ⊥ = λ z. let w : i ≡ s = once i s (omega arith) sm z in omega arith in
            rw (front i (omega arith), placed-stay m n g k p m8 km o s ks i (omega arith)) (exchange-other x y (get_or p i 0) nx ny)

    -- of two columns that f exchanges, that with the lower cell in the row at t comes first
    lower-first : (a b : ℕ) → a < n → b < n → f (get_or q b 0) ≡ get_or q a 0 → rank (cell n g x (get_or q a 0)) < rank (cell n g x (get_or q b 0)) → a < b
    unfolding Ascending permuted_column x
    lower-first a b an bn e lower = go (dec_lt a b)
      where
        go : Dec (a < b) → a < b
        go (yes l) = l
        go (no l) =
            let z : rank (cell n g (get_or p' k 0) (get_or q b 0)) ≤ rank (cell n g (get_or p' k 0) (get_or q a 0)) =
            tabulate-at m (λ i. cell n g (get_or p' i 0) (get_or q b 0)) (λ i. cell n g (get_or p' i 0) (get_or q a 0)) (up b a (omega arith) an) k km
            (λ i ik. rw (front i ik) (sym (rw e at (h.placed i ik (get_or q b 0) (oq.within b bn))))) in
            absurd (omega (arith, rw next at z))

    -- the other rows: those placed do not tell a column from what it is exchanged with, and the others have no higher cell in the second of the two
    other : (u v : ℕ) → u < m → v < n → (u ≡ x → ⊥) → (u ≡ y → ⊥) → rank (cell n g x v) < rank (cell n g x (f v)) → rank (cell n g u (f v)) ≤ rank (cell n g u v)
    unfolding x y
    other u v um vn nx ny lower =
        let z = listed m (take m p) o.permutation u um in
        let e : get_or p z.0 0 ≡ u = sym (get_or-take m p z.0 0 z.1) ∙ z.2 in
        go z.0 z.1 e (dec_lt z.0 k)
      where
        go : (i : ℕ) → i < m → get_or p i 0 ≡ u → Dec (i < k) → rank (cell n g u (f v)) ≤ rank (cell n g u v)
        go i im e (yes ik) = let w : rank (cell n g u (f v)) ≡ rank (cell n g u v) = rw (← e) (ap rank (h.placed i ik v vn)) in omega arith
        go i im e (no ik) =
            rw (← e) (h.others i (omega arith) im (λ z. ny (sym e ∙ ap (λ (v : ℕ). get_or p v 0) z)) (λ z. nx (sym e ∙ ap (λ (v : ℕ). get_or p v 0) z)) v vn lower)

    tells : (v : ℕ) → v < n → (f v ≡ v → ⊥) → cell n g x v ≡ cell n g x (f v) → ⊥
    unfolding x
    tells v vn ne e = h.moved v vn ne (sym e)

    step : (i j : ℕ) → i < m → j < n → ((e : ℕ) → e < j → cell n g (exchange x y (get_or p' i 0)) (f (get_or q e 0)) ≡ cell n g (get_or p' i 0) (get_or q e 0)) →
        rank (cell n g (exchange x y (get_or p' i 0)) (f (get_or q j 0))) ≤ rank (cell n g (get_or p' i 0) (get_or q j 0))
    step i j im jn same = go (ℕ_discrete u x) (ℕ_discrete u y)
      where
        u : ℕ
        u = get_or p' i 0

        v : ℕ
        v = get_or q j 0

        vn : v < n
        vn = oq.within j jn

        -- a row that is neither of the two
        apart : exchange x y u ≡ u → (u ≡ x → ⊥) → (u ≡ y → ⊥) → Dec (f v ≡ v) → (rank (cell n g x v) < rank (cell n g x (f v))) ⊎ ((cell n g x v ≡ cell n g x (f v)) ⊎ (rank (cell n g x (f v)) < rank (cell n g x v))) →
            rank (cell n g u (f v)) ≤ rank (cell n g u v)
        apart stays nx ny (yes e) o = rw e (omega arith)
        apart stays nx ny (no ne) (inl lower) = other u v (op.within i im) vn nx ny lower
        apart stays nx ny (no ne) (inr (inl e)) = absurd (tells v vn ne e)
        apart stays nx ny (no ne) (inr (inr lower)) =
            let z = listed n q oq (f v) (h.within v vn) in
            let l = lower-first z.0 j z.1 jn (sym z.2) (rw z.2 lower) in
            let w : cell n g u v ≡ cell n g u (f v) = rw (stays, z.2, h.back v vn) at (same z.0 l) in
            let r : rank (cell n g u v) ≡ rank (cell n g u (f v)) = ap rank w in
            omega arith

        go : Dec (u ≡ x) → Dec (u ≡ y) → rank (cell n g (exchange x y u) (f v)) ≤ rank (cell n g u v)
        go (yes a) b = rw (a, exchange-first x y, s-as-t v vn) (omega arith)
        go (no a) (yes b) = rw (b, exchange-second x y, t-as-s v vn) (omega arith)
        go (no a) (no b) = let e = exchange-other x y u a b in rw e (apart e a b (ℕ_discrete (f v) v) (trichotomy (cell n g x v) (cell n g x (f v))))

    no-later : arrangement m n p'' q'' g ≼ arrangement m n p' q g
    no-later = by-cell m n g p'' q'' p' q λ i j im jn same.
        rw (at-p'' i im, at-q'' j jn) (step i j im jn λ e ej. rw (at-p'' i im, at-q'' e (omega arith)) at (same e ej))

  pub covers-dominated : Sorts m n g → (r : List ℕ) → Covers m n g (suc k) (swapped p k s) r → Covers m n g (suc k) (swapped p k t) r
  unfolding Covers
  covers-dominated sorts r cover p' op begins q oq =
      let z = sorts p' in
      ≼_trans r (arrangement m n p' z.0 g) (arrangement m n p' q g)
      (≼_trans r (arrangement m n (p'' p' op begins z.0 z.1 z.2) (q'' p' op begins z.0 z.1 z.2) g) (arrangement m n p' z.0 g)
      (cover (p'' p' op begins z.0 z.1 z.2) (op'' p' op begins z.0 z.1 z.2) (begins'' p' op begins z.0 z.1 z.2)
      (q'' p' op begins z.0 z.1 z.2) (oq'' p' op begins z.0 z.1 z.2)) (no-later p' op begins z.0 z.1 z.2))
      (best-columns m n g p' z.0 z.1 z.2 q oq)
