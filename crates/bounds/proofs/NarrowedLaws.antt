-- Rows that lead each other, and the grids in the bounds that have allperm.
--
--   allperm-rows       ==  a grid has allperm exactly if its row 0 leads every other row
--   narrowed-obeyed    ==  some grid in the bounds has allperm exactly if the lows of row 0 lead the highs of every other row
-- For bounds that are narrowed row after row:
--   narrowed_low, narrowed-high  ==  the new bounds are the lowest and the highest values kept
--   narrowed-inside    ==  they are within the old ones
--   narrowed-removed   ==  the values removed are those that they leave out
use mathlib.Core.Path.{◌≡◌, refl, sym, ap, ◌∙◌}
use mathlib.Core.List.{List}
use mathlib.Core.Logic.{◌⊎◌, inl, inr, ◌↔◌}
use Prim.Native.Nat.{ℕ, ◌+◌, ◌*◌, ◌/◌, ◌%◌, ◌≤◌, ◌<◌}
use native.Mathlib.Nat.{zero-mul, eq-zero-or-pos}
use native.Mathlib.Decide.{ℕ_discrete}
use native.Mathlib.Omega.{arith}
use lib.ListN.{length, get_or, set}
use lib.Seq.{get_or-set_same, get_or-set_other}
use lib.Arith.{digits_lt, digits_div}
use lib.Dec.{ltb}
use borrow.Author.Tests.{lt-ltb, le-ltb}
use Rattle.grids.specs.Order.{rank}
use Rattle.grids.specs.Grids.{row, permuted_row}
use Rattle.grids.proofs.GridLaws.{row-column, rows-size, beneath}
use Rattle.bounds.specs.Bounds.{IsBounds}
use Rattle.bounds.specs.Kept.{Obeyed, Kept, kept_low, kept_high, removed}
use Rattle.bounds.specs.Allperm.{Allperm, allperm}
use Rattle.bounds.specs.Rows.{put, Leads}
use Rattle.bounds.specs.Narrowed.{row_of, AllLead, Narrowed, Inside, removed_by}
use Rattle.bounds.proofs.KeptLaws.{exact-low, exact-high, exact-removed, exact-inside}
use Rattle.bounds.proofs.Extremal.{extremal, length-extremal, extremal-low, extremal-high, obeyed-extremal, kept-extremal}
use Rattle.bounds.proofs.AllpermLaws.{allperm-decides, allperm-directed}
use Rattle.bounds.proofs.LeadsLaws.{put_same, put_other, put_self, put-ext, leads-ext, leads-self}

-- ---- the rows of a grid

pub allperm-rows : (m n : ℕ) (g : List ℕ) → Allperm m n g ↔ AllLead m n (row_of n g 0) g
unfolding Allperm row permuted_row Leads
allperm-rows m n g = (λ h. h, λ h. h)

-- v in row i, column c of a grid: that row, and another
set-row : (n : ℕ) (g : List ℕ) (i c v j : ℕ) → i * n + c < length g → row_of n (set g (i * n + c) v) i j ≡ put (row_of n g i) c v j
set-row n g i c v j b = go (ℕ_discrete j c)
  where
    go : Dec (j ≡ c) → row_of n (set g (i * n + c) v) i j ≡ put (row_of n g i) c v j
    go (yes e) = rw e (get_or-set_same g (i * n + c) v 0 b ∙ sym (put_same (row_of n g i) c v))
    go (no ne) = get_or-set_other g (i * n + c) (i * n + j) v 0 (λ e. ne (omega arith)) ∙ sym (put_other (row_of n g i) c v j ne)

set-other-row : (n : ℕ) (g : List ℕ) (i c v r j : ℕ) → c < n → j < n → (r ≡ i → ⊥) → row_of n (set g (i * n + c) v) r j ≡ row_of n g r j
set-other-row n g i c v r j cn jn ne =
    get_or-set_other g (i * n + c) (r * n + j) v 0 (λ e. ne (sym (digits_div r jn) ∙ ap (λ (k : ℕ). k / n) e ∙ digits_div i cn))

all-lead-ext : (m n : ℕ) (x x' : ℕ → ℕ) (g g' : List ℕ) → ((j : ℕ) → j < n → x j ≡ x' j) →
    ((i j : ℕ) → 0 < i → i < m → j < n → row_of n g i j ≡ row_of n g' i j) → AllLead m n x g ↔ AllLead m n x' g'
all-lead-ext m n x x' g g' ex eg = (
  λ h i i0 im. leads-ext n x x' (row_of n g i) (row_of n g' i) ex (λ j b. eg i j i0 im b) (h i i0 im),
  λ h i i0 im. leads-ext n x' x (row_of n g' i) (row_of n g i) (λ j b. sym (ex j b)) (λ j b. sym (eg i j i0 im b)) (h i i0 im),
)

-- ---- the rows of the extremal grid

-- the lows of row 0, and the highs of the others
abbrev ends : ℕ → ℕ → List ℕ → List ℕ → List ℕ
ends m n low high = extremal (λ k. ltb k n) (m * n) low high

-- with v in row i, column c
abbrev ends_with : ℕ → ℕ → List ℕ → List ℕ → ℕ → ℕ → ℕ → List ℕ
ends_with m n low high i c v = set (ends m n low high) (i * n + c) v

module _ (m n : ℕ) (low high : List ℕ) (some : 1 ≤ m) where
  first-row : (j : ℕ) → j < n → row_of n (ends m n low high) 0 j ≡ row_of n low 0 j
  first-row j b =
      let k : 0 * n + j < n = omega (arith, zero-mul n) in
      extremal-low _ (m * n) low high (0 * n + j) (omega (arith, rows-size m n some)) (lt-ltb (0 * n + j) n k)

  other_row : (i j : ℕ) → 0 < i → i < m → j < n → row_of n (ends m n low high) i j ≡ row_of n high i j
  other_row i j i0 im b = extremal-high _ (m * n) low high (i * n + j) (digits_lt im b) (le-ltb (i * n + j) n (beneath n i j i0))

  module _ (i c v : ℕ) (im : i < m) (cn : c < n) where
    own_row : (j : ℕ) → row_of n (ends_with m n low high i c v) i j ≡ put (row_of n (ends m n low high) i) c v j
    own_row j = set-row n (ends m n low high) i c v j (omega (arith, length-extremal (λ k. ltb k n) (m * n) low high, digits_lt im cn))

    rest-row : (r j : ℕ) → j < n → (r ≡ i → ⊥) → row_of n (ends_with m n low high i c v) r j ≡ row_of n (ends m n low high) r j
    rest-row r j b ne = set-other-row n (ends m n low high) i c v r j cn b ne

  lead-with-first : (c v : ℕ) → c < n → Allperm m n (ends_with m n low high 0 c v) ↔ AllLead m n (put (row_of n low 0) c v) high
  lead-with-first c v cn = (λ h. a.0 (r.0 h), λ h. r.1 (a.1 h))
    where
      g : List ℕ
      g = ends_with m n low high 0 c v

      r : Allperm m n g ↔ AllLead m n (row_of n g 0) g
      r = allperm-rows m n g

      a : AllLead m n (row_of n g 0) g ↔ AllLead m n (put (row_of n low 0) c v) high
      a = all-lead-ext m n (row_of n g 0) (put (row_of n low 0) c v) g high
          (λ j b. own_row 0 c v some cn j ∙ put-ext (row_of n (ends m n low high) 0) (row_of n low 0) c v j (first-row j b))
          (λ i j i0 im b. rest-row 0 c v some cn i j b (λ e. omega arith) ∙ other_row i j i0 im b)

  lead-with-other : (i c v : ℕ) → 0 < i → i < m → c < n → AllLead m n (row_of n low 0) high →
      Allperm m n (ends_with m n low high i c v) ↔ Leads n (row_of n low 0) (put (row_of n high i) c v)
  lead-with-other i c v i0 im cn all = (λ h. leads-ext n (row_of n g 0) (row_of n low 0) (row_of n g i) (put (row_of n high i) c v) first own (r.0 h i i0 im), λ h. r.1 (back h))
    where
      g : List ℕ
      g = ends_with m n low high i c v

      r : Allperm m n g ↔ AllLead m n (row_of n g 0) g
      r = allperm-rows m n g

      first : (j : ℕ) → j < n → row_of n g 0 j ≡ row_of n low 0 j
      first j b = rest-row i c v im cn 0 j b (λ e. omega arith) ∙ first-row j b

      own : (j : ℕ) → j < n → row_of n g i j ≡ put (row_of n high i) c v j
      own j b = own_row i c v im cn j ∙ put-ext (row_of n (ends m n low high) i) (row_of n high i) c v j (other_row i j i0 im b)

      back : Leads n (row_of n low 0) (put (row_of n high i) c v) → AllLead m n (row_of n g 0) g
      back h k k0 km = go (ℕ_discrete k i)
        where
          from : (y : ℕ → ℕ) → Leads n (row_of n low 0) y → ((j : ℕ) → j < n → row_of n g k j ≡ y j) → Leads n (row_of n g 0) (row_of n g k)
          from y l e = leads-ext n (row_of n low 0) (row_of n g 0) y (row_of n g k) (λ j b. sym (first j b)) (λ j b. sym (e j b)) l

          go : Dec (k ≡ i) → Leads n (row_of n g 0) (row_of n g k)
          go (yes e) = from (put (row_of n high i) c v) h (λ j b. rw e (own j b))
          go (no ne) = from (row_of n high k) (all k k0 km) (λ j b. rest-row i c v im cn k j b ne ∙ other_row k j k0 km b)

-- ---- the grids in the bounds

-- the values kept in cell k are those within low' to high', and these are values
record CellExact (m n top : ℕ) (low high low' high' : List ℕ) (k : ℕ) : Type 0 where
  low-cap : get_or low' k 0 ≤ top
  high-cap : get_or high' k 0 ≤ top
  in_order : rank (get_or low' k 0) ≤ rank (get_or high' k 0)
  exact : (v : ℕ) → v ≤ top → Kept (Allperm m n) (m * n) top low high k v ↔ ((rank (get_or low' k 0) ≤ rank v) × (rank v ≤ rank (get_or high' k 0)))

module _ (m n top : ℕ) (low high : List ℕ) (some : 1 ≤ m) (ok : IsBounds (m * n) top low high) where
  pub narrowed-obeyed : AllLead m n (row_of n low 0) high ↔ Obeyed (Allperm m n) (m * n) top low high
  narrowed-obeyed =
      let g = ends m n low high in
      let o = obeyed-extremal (Allperm m n) (λ k. ltb k n) (m * n) (allperm-directed m n) top low high ok in
      let r = allperm-rows m n g in
      let a = all-lead-ext m n (row_of n g 0) (row_of n low 0) g high (first-row m n low high some) (other_row m n low high some) in
      (λ h. o.1 (r.1 (a.1 h)), λ h. a.0 (r.0 (o.0 h)))

  kept-with : (k v : ℕ) → k < m * n → Kept (Allperm m n) (m * n) top low high k v
      ↔ ((v ≤ top) × (rank (get_or low k 0) ≤ rank v) × (rank v ≤ rank (get_or high k 0)) × Allperm m n (set (ends m n low high) k v))
  kept-with k v b = kept-extremal (Allperm m n) (λ k. ltb k n) (m * n) (allperm-directed m n) top low high ok k v b

  module _ (low' high' : List ℕ) (w : Narrowed m n top low high low' high') where
    first_cell : (c : ℕ) → c < n → CellExact m n top low high low' high' (0 * n + c)
    first_cell c cn = record {
      low-cap = rw same (ok.low-cap k kb);
      high-cap = w.lowered.within c cn;
      in_order = rw same ((w.lowered.exact c (get_or low k 0) cn (ok.low-cap k kb) (omega arith)).0 (ok.in_order k kb, lead-self));
      exact = λ v vt. (
        λ h. let p = (kept-with k v kb).0 h in (rw same p.1, (w.lowered.exact c v cn vt p.1).0 (p.2, (lead-with-first m n low high some c v cn).0 p.3)),
        λ h.
            let a : rank (get_or low k 0) ≤ rank v = rw same at h.0 in
            let q = (w.lowered.exact c v cn vt a).1 h.1 in
            (kept-with k v kb).1 (vt, a, q.0, (lead-with-first m n low high some c v cn).1 q.1),
      );
    }
      where
        k : ℕ
        k = 0 * n + c

        kn : k < n
        kn = omega (arith, zero-mul n)

        kb : k < m * n
        kb = omega (arith, zero-mul n, rows-size m n some)

        same : get_or low' k 0 ≡ get_or low k 0
        same = w.low-kept k kn

        lead-self : AllLead m n (put (row_of n low 0) c (row_of n low 0 c)) high
        lead-self = (all-lead-ext m n (put (row_of n low 0) c (row_of n low 0 c)) (row_of n low 0) high high (λ j b. put_self (row_of n low 0) c j) (λ i j i0 im b. refl)).1 w.leads

    other-cell : (i c : ℕ) → 0 < i → i < m → c < n → CellExact m n top low high low' high' (i * n + c)
    other-cell i c i0 im cn = record {
      low-cap = (w.raised i i0 im).within c cn;
      high-cap = rw same (ok.high-cap k kb);
      in_order = rw same (((w.raised i i0 im).exact c (get_or high k 0) cn (ok.high-cap k kb) (omega arith)).0 (ok.in_order k kb, lead-self));
      exact = λ v vt. (
        λ h. let p = (kept-with k v kb).0 h in (((w.raised i i0 im).exact c v cn vt p.2).0 (p.1, (lead v).0 p.3), rw same p.2),
        λ h.
            let a : rank v ≤ rank (get_or high k 0) = rw same at h.1 in
            let q = ((w.raised i i0 im).exact c v cn vt a).1 h.0 in
            (kept-with k v kb).1 (vt, q.0, a, (lead v).1 q.1),
      );
    }
      where
        k : ℕ
        k = i * n + c

        kb : k < m * n
        kb = digits_lt im cn

        same : get_or high' k 0 ≡ get_or high k 0
        same = w.high-kept k (beneath n i c i0)

        lead : (v : ℕ) → Allperm m n (ends_with m n low high i c v) ↔ Leads n (row_of n low 0) (put (row_of n high i) c v)
        lead v = lead-with-other m n low high some i c v i0 im cn w.leads

        lead-self : Leads n (row_of n low 0) (put (row_of n high i) c (row_of n high i c))
        lead-self = leads-self n (row_of n low 0) (row_of n high i) c (row_of n high i c) refl (w.leads i i0 im)

    each-cell : (k : ℕ) → k < m * n → CellExact m n top low high low' high' k
    each-cell k b = let r = row-column m n k b in rw r.2 at (go r.0 r.1 (eq-zero-or-pos (k / n)))
      where
        go : k / n < m → k % n < n → (k / n ≡ 0) ⊎ (0 < k / n) → CellExact m n top low high low' high' (k / n * n + k % n)
        go im cn (inl e) = rw e (first_cell (k % n) cn)
        go im cn (inr i0) = other-cell (k / n) (k % n) i0 im cn

    new-bounds : IsBounds (m * n) top low' high'
    new-bounds = record {
      low-size = w.low-size ∙ ok.low-size;
      high-size = w.high-size ∙ ok.high-size;
      low-cap = λ k b. (each-cell k b).low-cap;
      high-cap = λ k b. (each-cell k b).high-cap;
      in_order = λ k b. (each-cell k b).in_order;
    }

    pub narrowed_low : kept_low (allperm m n) (m * n) top low high ≡ low'
    narrowed_low = exact-low (Allperm m n) (allperm m n) (allperm-decides m n) (m * n) top low high low' high' new-bounds (λ k v b. (each-cell k b).exact v)

    pub narrowed-high : kept_high (allperm m n) (m * n) top low high ≡ high'
    narrowed-high = exact-high (Allperm m n) (allperm m n) (allperm-decides m n) (m * n) top low high low' high' new-bounds (λ k v b. (each-cell k b).exact v)

    pub narrowed-removed : removed (allperm m n) (m * n) top low high ≡ removed_by (m * n) top low high low' high'
    narrowed-removed = exact-removed (Allperm m n) (allperm m n) (allperm-decides m n) (m * n) top low high low' high' new-bounds (λ k v b. (each-cell k b).exact v)

    pub narrowed-inside : Inside (m * n) top low high low' high'
    narrowed-inside = exact-inside (Allperm m n) (allperm m n) (allperm-decides m n) (m * n) top low high low' high' new-bounds (λ k v b. (each-cell k b).exact v) ok
