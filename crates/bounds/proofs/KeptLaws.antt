-- Laws of the values that a rule keeps, for any rule.
--
--   kept-bounds                            ==  a kept value is within the bounds of its cell
--   grid-kept                              ==  the values of a grid in the bounds that obeys the rule are kept
--   kept-narrower                          ==  what narrower bounds keep, wider ones keep
--   lowest-in, lowest-le, highest-in, highest-le  ==  the value of a list that ranks lowest, highest
--   length-kept_low, length-kept_high        ==  the new bounds have as many entries as there are cells
--   Ends Rule size top low high k a b      ==  a and b are kept in cell k, and every value kept there ranks within a to b
-- For a test that decides the rule:
--   obeyed-decides, keeps-decides          ==  the tests over all grids in the bounds decide
--   kept-listed                            ==  `kept_values` lists the values that are kept, and nothing else
--   kept-ends                              ==  where some value is kept in a cell, its new bounds are its ends
--   obeyed-ends                            ==  the same where some grid in the bounds obeys the rule
--   values-between                         ==  where the kept values are those that rank within a to b, `between` lists them
--   inside-kept                            ==  a grid in the old bounds that obeys the rule is in the new
--   kept-inside                            ==  where some grid in the bounds obeys the rule, a grid in the new bounds is in the old
--   pruned-same                            ==  there a grid that obeys the rule is in the new bounds exactly if it is in the old
--   kept-is-bounds                         ==  there the new bounds have their sizes, caps and order
--   removed-listed, removed-kept           ==  the values removed are those within the bounds that are not kept; with the kept ones they are all
--   exact-low, exact-high, exact-inside, exact-removed  ==  where the kept values are those within given bounds, these are the new bounds
--   all-kept                               ==  where every value within the bounds is kept, nothing changes
use mathlib.Core.Path.{◌≡◌, refl, sym, ap, ◌∙◌}
use mathlib.Core.List.Memᴰ
use mathlib.Core.List.{List, [], ◌∷◌, foldr, Memᴰ}
use mathlib.Core.Bool.{Bool, true, false, true≢false, ◌&&◌}
use mathlib.Core.Logic.{◌↔◌}
use Prim.Native.Nat.{ℕ, zero, suc, ◌+◌, ◌≤◌, ◌<◌}
use native.Mathlib.Omega.{arith}
use lib.ListN.{length, get_or}
use lib.Dec.{ltb, eqb}
use borrow.Author.Tests.{ltb-true, ltb-false, eqb-true, eq-eqb, not-true}
use Rattle.permutations.specs.Lists.{tabulate, numbers}
use Rattle.permutations.proofs.BoolLaws.{and_yes, yes_and, bool-ext, refuted}
use Rattle.permutations.proofs.ListLaws.{length-tabulate, at-tabulate, tabulate-is, tabulate-ext, in-numbers, of-numbers}
use Rattle.permutations.proofs.SelectLaws.{in-select, of-select, select-ext, select-split, select-within}
use Rattle.grids.specs.Order.{rank}
use Rattle.grids.proofs.OrderLaws.{rank-antisymm}
use Rattle.bounds.specs.Bounds.{IsBounds, InBounds, ranks_within, between, in_bounds}
use Rattle.bounds.specs.Kept.{Obeyed, Kept, obeyed, keeps, kept_values, lowest_from, lowest, highest_from, highest, kept_low, kept_high, removed_values, removed}
use Rattle.bounds.specs.Narrowed.{Inside, removed_by}
use Rattle.bounds.proofs.BoundsLaws.{Fits, ranks-within, between-at, cells_fit, fit-cells, some-within, in_bounds-decides}

-- ---- kept values

module _ {Rule : List ℕ → Type 0} {size top : ℕ} {low high : List ℕ} where
  pub kept-bounds : {k v : ℕ} → k < size → Kept Rule size top low high k v → Fits top (get_or low k 0) (get_or high k 0) v
  kept-bounds {k} b h = rw h.has at (cells_fit h.inside k b)

  pub grid-kept : {g : List ℕ} → InBounds size top low high g → Rule g → (k : ℕ) → Kept Rule size top low high k (get_or g k 0)
  grid-kept {g} i r k = record { example = g; inside = i; obeys = r; has = refl }

  module _ {low' high' : List ℕ} (narrower : (g : List ℕ) → InBounds size top low' high' g → InBounds size top low high g) where
    pub kept-narrower : {k v : ℕ} → Kept Rule size top low' high' k v → Kept Rule size top low high k v
    kept-narrower h = record { example = h.example; inside = narrower h.example h.inside; obeys = h.obeys; has = h.has }

-- ---- the lowest and the highest of a list

cons-all : {y : ℕ} {l : List ℕ} (P : ℕ → Type 0) → P y → ((v : ℕ) → Memᴰ v l → P v) → (v : ℕ) → Memᴰ v (y ∷ l) → P v
cons-all P h f v (Memᴰ.head e) = rw e h
cons-all P h f v (Memᴰ.tail m) = f v m

-- z is in l, and by R no value of l comes before it
abbrev FirstBy : (ℕ → ℕ → Type 0) → List ℕ → ℕ → Type 0
FirstBy R l z = Memᴰ z l × ((v : ℕ) → Memᴰ v l → R z v)

-- pick goes through a list from x on and takes each value that is better than the one it has: it ends with the first by R
module _ (R : ℕ → ℕ → Type 0) (self : (x : ℕ) → R x x) (trans : (x y z : ℕ) → R x y → R y z → R x z) (better : ℕ → ℕ → Bool)
    (taken : (y x : ℕ) → better y x ≡ true → R y x) (left : (y x : ℕ) → better y x ≡ false → R x y) (pick : ℕ → List ℕ → ℕ) (stop : (x : ℕ) → pick x [] ≡ x)
    (step : (x y : ℕ) (l : List ℕ) → pick x (y ∷ l) ≡ pick (elim (better y x) [ true ↦ y | false ↦ x ]) l) where
  picked : (x : ℕ) (l : List ℕ) → FirstBy R (x ∷ l) (pick x l)
  picked x [] = rw (stop x) (Memᴰ.head refl, cons-all (R x) (self x) (λ v m. absurd (Memᴰ.not-nil m)))
  picked x (y ∷ l) = rw (step x y l) (go (better y x) refl (picked x l) (picked y l))
    where
      go : (b : Bool) → better y x ≡ b → FirstBy R (x ∷ l) (pick x l) → FirstBy R (y ∷ l) (pick y l) → FirstBy R (x ∷ y ∷ l) (pick (elim b [ true ↦ y | false ↦ x ]) l)
      go true e p q = (Memᴰ.tail q.0, cons-all (R (pick y l)) (trans (pick y l) y x (q.1 y (Memᴰ.head refl)) (taken y x e)) q.1)
      go false e p q = (
        cons-all (λ v. Memᴰ v (x ∷ y ∷ l)) (Memᴰ.head refl) (λ v m. Memᴰ.tail (Memᴰ.tail m)) (pick x l) p.0,
        cons-all (R (pick x l)) (p.1 x (Memᴰ.head refl))
            (cons-all (R (pick x l)) (trans (pick x l) x y (p.1 x (Memᴰ.head refl)) (left y x e)) (λ v m. p.1 v (Memᴰ.tail m))),
      )

lowest-first : (l : List ℕ) (v : ℕ) → Memᴰ v l → FirstBy (λ a b. rank a ≤ rank b) l (lowest l)
unfolding lowest lowest_from
lowest-first [] v m = absurd (Memᴰ.not-nil m)
lowest-first (x ∷ l) v m =
    picked (λ a b. rank a ≤ rank b) (λ x. omega arith) (λ x y z p q. omega arith) (λ y x. ltb (rank y) (rank x))
    (λ y x e. omega (arith, ltb-true (rank y) (rank x) e)) (λ y x e. ltb-false (rank y) (rank x) e) lowest_from (λ x. refl) (λ x y l. refl) x l

highest-first : (l : List ℕ) (v : ℕ) → Memᴰ v l → FirstBy (λ a b. rank b ≤ rank a) l (highest l)
unfolding highest highest_from
highest-first [] v m = absurd (Memᴰ.not-nil m)
highest-first (x ∷ l) v m =
    picked (λ a b. rank b ≤ rank a) (λ x. omega arith) (λ x y z p q. omega arith) (λ y x. ltb (rank x) (rank y))
    (λ y x e. omega (arith, ltb-true (rank x) (rank y) e)) (λ y x e. ltb-false (rank x) (rank y) e) highest_from (λ x. refl) (λ x y l. refl) x l

pub lowest-in : (l : List ℕ) (v : ℕ) → Memᴰ v l → Memᴰ (lowest l) l
lowest-in l v m = (lowest-first l v m).0

pub lowest-le : (l : List ℕ) (v : ℕ) → Memᴰ v l → rank (lowest l) ≤ rank v
lowest-le l v m = (lowest-first l v m).1 v m

pub highest-in : (l : List ℕ) (v : ℕ) → Memᴰ v l → Memᴰ (highest l) l
highest-in l v m = (highest-first l v m).0

pub highest-le : (l : List ℕ) (v : ℕ) → Memᴰ v l → rank v ≤ rank (highest l)
highest-le l v m = (highest-first l v m).1 v m

-- ---- the tests, and the new bounds

module _ (rule : List ℕ → Bool) (size top : ℕ) (low high : List ℕ) where
  pub length-kept_low : length (kept_low rule size top low high) ≡ size
  unfolding kept_low
  length-kept_low = length-tabulate 0 size _

  pub length-kept_high : length (kept_high rule size top low high) ≡ size
  unfolding kept_high
  length-kept_high = length-tabulate 0 size _

-- the values kept in cell k go from a to b
pub record Ends (Rule : List ℕ → Type 0) (size top : ℕ) (low high : List ℕ) (k a b : ℕ) : Type 0 where
  pub low-kept : Kept Rule size top low high k a
  pub high-kept : Kept Rule size top low high k b
  pub within : (v : ℕ) → Kept Rule size top low high k v → (rank a ≤ rank v) × (rank v ≤ rank b)

sum_zeros : (s n : ℕ) → foldr ◌+◌ 0 (tabulate s n (λ k. 0)) ≡ 0
unfolding tabulate
sum_zeros s zero = refl
sum_zeros s (suc n) = omega (arith, sum_zeros (suc s) n)

removed-none : (size top : ℕ) (low high : List ℕ) → removed_by size top low high low high ≡ 0
unfolding removed_by
removed-none size top low high = ap (foldr ◌+◌ 0) (tabulate-ext 0 size _ (λ k. 0) (λ k b. omega arith)) ∙ sum_zeros 0 size

module _ (Rule : List ℕ → Type 0) (rule : List ℕ → Bool) (decides : (g : List ℕ) → (rule g ≡ true) ↔ Rule g) (size top : ℕ) (low high : List ℕ) where
  pub obeyed-decides : (obeyed rule size top low high ≡ true) ↔ Obeyed Rule size top low high
  unfolding obeyed
  obeyed-decides = (
    λ e. let r = (some-within size top low high rule).0 e in record { example = r.0; inside = r.1; obeys = (decides r.0).0 r.2 },
    λ o. (some-within size top low high rule).1 (o.example, o.inside, (decides o.example).1 o.obeys),
  )

  pub keeps-decides : (k v : ℕ) → (keeps rule size top low high k v ≡ true) ↔ Kept Rule size top low high k v
  unfolding keeps
  keeps-decides k v = (
    λ e.
        let r = (some-within size top low high (λ g. eqb (get_or g k 0) v && rule g)).0 e in
        let p = and_yes (eqb (get_or r.0 k 0) v) (rule r.0) r.2 in
        record { example = r.0; inside = r.1; obeys = (decides r.0).0 p.1; has = eqb-true (get_or r.0 k 0) v p.0 },
    λ h. (some-within size top low high _).1 (h.example, h.inside, yes_and _ _ (eq-eqb _ v h.has) ((decides h.example).1 h.obeys)),
  )

  pub kept-listed : (k v : ℕ) → k < size → Memᴰ v (kept_values rule size top low high k) ↔ Kept Rule size top low high k v
  unfolding kept_values
  kept-listed k v b = (
    λ m. (keeps-decides k v).0 (of-select (keeps rule size top low high k) v (numbers (suc top)) m).1,
    λ h. in-select _ v (numbers (suc top)) (in-numbers (suc top) v (omega (arith, (kept-bounds b h).0))) ((keeps-decides k v).1 h),
  )

  pub kept-ends : (k v : ℕ) → k < size → Kept Rule size top low high k v →
      Ends Rule size top low high k (get_or (kept_low rule size top low high) k 0) (get_or (kept_high rule size top low high) k 0)
  unfolding kept_low kept_high
  kept-ends k v b h =
      let l = kept_values rule size top low high k in
      let m = (kept-listed k v b).1 h in
      rw (at-tabulate size (λ k. lowest (kept_values rule size top low high k)) k 0 b, at-tabulate size (λ k. highest (kept_values rule size top low high k)) k 0 b)
      (record {
        low-kept = (kept-listed k (lowest l) b).0 (lowest-in l v m);
        high-kept = (kept-listed k (highest l) b).0 (highest-in l v m);
        within = λ w g. (lowest-le l w ((kept-listed k w b).1 g), highest-le l w ((kept-listed k w b).1 g));
      })

  pub values-between : (k a c : ℕ) → k < size → ((v : ℕ) → v ≤ top → Kept Rule size top low high k v ↔ ((rank a ≤ rank v) × (rank v ≤ rank c))) →
      kept_values rule size top low high k ≡ between top a c
  unfolding kept_values between
  values-between k a c b h =
      select-ext (keeps rule size top low high k) (ranks_within a c) (numbers (suc top)) λ v m.
      let f = h v (omega (arith, of-numbers (suc top) v m)) in
      bool-ext _ _ (λ t. (ranks-within a c v).1 (f.0 ((keeps-decides k v).0 t))) (λ t. (keeps-decides k v).1 (f.1 ((ranks-within a c v).0 t)))

  pub inside-kept : (g : List ℕ) → InBounds size top low high g → Rule g → InBounds size top (kept_low rule size top low high) (kept_high rule size top low high) g
  inside-kept g i r =
      fit-cells i.sized λ k b.
      let h = grid-kept i r k in
      let w = (kept-ends k (get_or g k 0) b h).within (get_or g k 0) h in
      (i.capped k b, w.0, w.1)

  -- ---- where some grid in the bounds obeys the rule

  module _ (o : Obeyed Rule size top low high) where
    pub obeyed-ends : (k : ℕ) → k < size → Ends Rule size top low high k (get_or (kept_low rule size top low high) k 0) (get_or (kept_high rule size top low high) k 0)
    obeyed-ends k b = kept-ends k (get_or o.example k 0) b (grid-kept o.inside o.obeys k)

    pub kept-inside : (g : List ℕ) → InBounds size top (kept_low rule size top low high) (kept_high rule size top low high) g → InBounds size top low high g
    kept-inside g i =
        fit-cells i.sized λ k b.
        let e = obeyed-ends k b in
        let p = kept-bounds b e.low-kept in
        let q = kept-bounds b e.high-kept in
        let c = cells_fit i k b in
        omega arith

    pub pruned-same : (g : List ℕ) → Rule g → in_bounds size top (kept_low rule size top low high) (kept_high rule size top low high) g ≡ in_bounds size top low high g
    pruned-same g r =
        let old = in_bounds-decides size top low high g in
        let new = in_bounds-decides size top (kept_low rule size top low high) (kept_high rule size top low high) g in
        bool-ext _ _ (λ t. old.1 (kept-inside g (new.0 t))) (λ t. new.1 (inside-kept g (old.0 t) r))

    pub kept-is-bounds : IsBounds size top (kept_low rule size top low high) (kept_high rule size top low high)
    kept-is-bounds = record {
      low-size = length-kept_low rule size top low high;
      high-size = length-kept_high rule size top low high;
      low-cap = λ k b. (kept-bounds b (obeyed-ends k b).low-kept).0;
      high-cap = λ k b. (kept-bounds b (obeyed-ends k b).high-kept).0;
      in_order = λ k b. let e = obeyed-ends k b in (e.within _ e.high-kept).0;
    }

  -- ---- the values that are removed

  pub removed-listed : (k v : ℕ) → Memᴰ v (removed_values rule size top low high k) ↔ (Fits top (get_or low k 0) (get_or high k 0) v × (Kept Rule size top low high k v → ⊥))
  unfolding removed_values
  removed-listed k v = (
    λ m. let r = of-select _ v _ m in
        ((between-at top (get_or low k 0) (get_or high k 0) v).0 r.0, λ h. true≢false (sym ((keeps-decides k v).1 h) ∙ not-true (keeps rule size top low high k v) r.1)),
    λ h. in-select _ v _ ((between-at top (get_or low k 0) (get_or high k 0) v).1 h.0) (rw (refuted (keeps rule size top low high k v) (keeps-decides k v) h.1)),
  )

  -- they are those within the bounds less those kept
  pub removed-kept : (k : ℕ) → k < size → length (kept_values rule size top low high k) + length (removed_values rule size top low high k) ≡ length (between top (get_or low k 0) (get_or high k 0))
  unfolding kept_values removed_values between
  removed-kept k b =
      rw (← (select-within (keeps rule size top low high k) (ranks_within (get_or low k 0) (get_or high k 0)) (numbers (suc top)) inside)) (select-split (keeps rule size top low high k) _)
    where
      inside : (v : ℕ) → Memᴰ v (numbers (suc top)) → keeps rule size top low high k v ≡ true → ranks_within (get_or low k 0) (get_or high k 0) v ≡ true
      inside v m t = let f = kept-bounds b ((keeps-decides k v).0 t) in (ranks-within (get_or low k 0) (get_or high k 0) v).1 (f.1, f.2)

  -- ---- where the kept values are those within given bounds

  module _ (low' high' : List ℕ) (new : IsBounds size top low' high')
      (exact : (k v : ℕ) → k < size → v ≤ top → Kept Rule size top low high k v ↔ ((rank (get_or low' k 0) ≤ rank v) × (rank v ≤ rank (get_or high' k 0)))) where
    ends-kept : (k : ℕ) → k < size → Kept Rule size top low high k (get_or low' k 0) × Kept Rule size top low high k (get_or high' k 0)
    ends-kept k b =
        let h = new.in_order k b in
        ((exact k (get_or low' k 0) b (new.low-cap k b)).1 (omega arith, h), (exact k (get_or high' k 0) b (new.high-cap k b)).1 (h, omega arith))

    exact-within : (k v : ℕ) → k < size → Kept Rule size top low high k v → (rank (get_or low' k 0) ≤ rank v) × (rank v ≤ rank (get_or high' k 0))
    exact-within k v b h = (exact k v b (kept-bounds b h).0).0 h

    pub exact-low : kept_low rule size top low high ≡ low'
    unfolding kept_low
    exact-low =
        tabulate-is 0 low' size _ new.low-size λ k b.
        let m = (kept-listed k (get_or low' k 0) b).1 (ends-kept k b).0 in
        rank-antisymm _ _ (exact-within k _ b ((kept-listed k _ b).0 (lowest-in _ _ m))).0 (lowest-le _ _ m)

    pub exact-high : kept_high rule size top low high ≡ high'
    unfolding kept_high
    exact-high =
        tabulate-is 0 high' size _ new.high-size λ k b.
        let m = (kept-listed k (get_or high' k 0) b).1 (ends-kept k b).1 in
        rank-antisymm _ _ (highest-le _ _ m) (exact-within k _ b ((kept-listed k _ b).0 (highest-in _ _ m))).1

    pub exact-removed : removed rule size top low high ≡ removed_by size top low high low' high'
    unfolding removed removed_by
    exact-removed =
        ap (foldr ◌+◌ 0) (tabulate-ext 0 size _ _ λ k b.
        omega (arith, removed-kept k b, ap length (values-between k (get_or low' k 0) (get_or high' k 0) b (λ v t. exact k v b t))))

    pub exact-inside : IsBounds size top low high → Inside size top low high low' high'
    exact-inside ok = record {
      old = ok;
      new = new;
      above = λ k b. (kept-bounds b (ends-kept k b).0).1;
      below = λ k b. (kept-bounds b (ends-kept k b).1).2;
    }

  -- ---- where every value within the bounds is kept

  module _ (ok : IsBounds size top low high) (all : (k v : ℕ) → k < size → Fits top (get_or low k 0) (get_or high k 0) v → Kept Rule size top low high k v) where
    exact_same : (k v : ℕ) → k < size → v ≤ top → Kept Rule size top low high k v ↔ ((rank (get_or low k 0) ≤ rank v) × (rank v ≤ rank (get_or high k 0)))
    exact_same k v b t = (λ h. let f = kept-bounds b h in (f.1, f.2), λ w. all k v b (t, w.0, w.1))

    pub all-kept : (removed rule size top low high ≡ 0) × (kept_low rule size top low high ≡ low) × (kept_high rule size top low high ≡ high)
    all-kept = (exact-removed low high ok exact_same ∙ removed-none size top low high, exact-low low high ok exact_same, exact-high low high ok exact_same)
