-- The lowest value that the lows x of row 0 allow in a column of another row, by the highs y of that row, sorted as s.
--
--   agreed           ==  before the column where they part, x and s are equal
--   parted-leads     ==  x leads y
--   threshold-of     ==  a value is the threshold if x leads with it, and with no lower value
--   threshold-fixed  ==  where the column stands before x and s part, only its high lets x lead
--   floor-before     ==  past it, no value is allowed that ranks lower than x's where they part,
--   floor-passed     ==  or lower than the value that s has just before
--   Passes           ==  with x's own value there, what follows decides: x comes no later than s with the column's value taken out
--   above-leads, passes-leads, leads-passes  ==  a value above x's lets it lead; x's own value does if x passes, and only then
--   passes-if-below, passes-if-no-later, passes-if-smaller, fails-past, passes-no-later  ==  whether x passes, by the column `end` up to which x repeats s one
--                        column later
use mathlib.Core.Path.{◌≡◌, refl, sym, ap, ◌∙◌}
use Prim.Native.Nat.{ℕ, zero, suc, ◌+◌, ◌-◌, ◌≤◌, ◌<◌}
use native.Mathlib.Decide.{ℕ_discrete, dec_lt}
use native.Mathlib.Omega.{arith}
use Rattle.grids.specs.Order.{rank}
use Rattle.grids.proofs.OrderLaws.{rank-antisymm}
use Rattle.bounds.specs.Rows.{put, Leads, IsSorted, AgreeTo, NoLater, Parted, Threshold}
use Rattle.bounds.proofs.LeadsLaws.{put_same, put_other, leads-self, leads-toward, leads-sorted, agree_same, agree-no-later}
use Rattle.bounds.proofs.InsertedLaws.{inserted, inserted-at, inserted-before, inserted-between, inserted-after, Spot, spot-value, spot-inserted, lead-floor, inserted-up, inserted-leads}

module _ {n : ℕ} {x s : ℕ → ℕ} {a : ℕ} (d : Parted n x s a) where
  pub agreed : (j : ℕ) → j < a → x j ≡ s j
  agreed j h = agree_same d.agree j (omega arith) h

  pub parted-leads : {y : ℕ → ℕ} → IsSorted n y s → Leads n x y
  parted-leads o = (leads-sorted x o).1 (agree-no-later d.agree (λ h. omega (arith, d.before h)))

pub threshold-of : (n top : ℕ) (x y : ℕ → ℕ) (c t : ℕ) → t ≤ top → Leads n x (put y c t) → ((v : ℕ) → v ≤ top → Leads n x (put y c v) → rank t ≤ rank v) → Threshold n top x y c t
threshold-of n top x y c t tt h low = record {
  within = tt;
  exact = λ v vt vy. (low v vt, λ le. leads-toward n x x (put y c t) (put y c v) (λ j b. omega arith) (λ j b. rise v le j) h);
}
  where
    rise : (v : ℕ) → rank t ≤ rank v → (j : ℕ) → rank (put y c t j) ≤ rank (put y c v j)
    rise v le j = go (ℕ_discrete j c)
      where
        go : Dec (j ≡ c) → rank (put y c t j) ≤ rank (put y c v j)
        go (yes e) = rw (e, put_same y c t, put_same y c v) le
        go (no ne) = rw (put_other y c t j ne, put_other y c v j ne) (omega arith)

module _ {n : ℕ} {x y s : ℕ → ℕ} {a c : ℕ} (d : Parted n x s a) (z : Spot n y s c) where
  pub threshold-fixed : (top : ℕ) → y c ≤ top → z.p < a → Threshold n top x y c (y c)
  threshold-fixed top yt pa =
      threshold-of n top x y c (y c) yt (leads-self n x y c (y c) refl (parted-leads d z.sorted)) λ v vt h.
      rw (agreed d z.p pa ∙ spot-value z) at (lead-floor z z.p v (omega arith) x h (λ j b. agreed d j (omega arith)))

  module _ (past : a ≤ z.p) where
    pub floor-before : (v : ℕ) → Leads n x (put y c v) → rank (x a) ≤ rank v
    floor-before v h = lead-floor z a v past x h (agreed d)

    pub floor-passed : (v : ℕ) → 0 < a → Leads n x (put y c v) → rank (s (a - 1)) ≤ rank v
    floor-passed v a0 h = rw (agreed d (a - 1) (omega arith)) at (lead-floor z (a - 1) v (omega arith) x h (λ j b. agreed d j (omega arith)))

    pub above-leads : (v : ℕ) → (0 < a → rank (s (a - 1)) ≤ rank v) → rank v ≤ rank (s a) → rank (x a) < rank v → Leads n x (put y c v)
    unfolding NoLater
    above-leads v from to h = inserted-leads z a v past from to x later
      where
        later : NoLater n x (inserted s a z.p v) 0
        later t t0 tn same = go (dec_lt t a) (ℕ_discrete t a)
          where
            go : Dec (t < a) → Dec (t ≡ a) → rank (x t) ≤ rank (inserted s a z.p v t)
            go (yes k) e = rw (inserted-before s a z.p v t k, agreed d t k) (omega arith)
            go (no k) (yes e) = rw (e, inserted-at s a z.p v) (omega arith)
            go (no k) (no e) =
                let q : rank (x a) ≡ rank v = ap rank (same a (omega arith) (omega arith) ∙ inserted-at s a z.p v) in
                absurd (omega arith)

    abbrev pub Passes : Type 0
    Passes = NoLater n x (inserted s a z.p (x a)) 0

    pub leads-passes : Leads n x (put y c (x a)) → Passes
    leads-passes = spot-inserted z a (x a) past x

    pub passes-leads : (0 < a → rank (s (a - 1)) ≤ rank (x a)) → a < n → Passes → Leads n x (put y c (x a))
    passes-leads from an h = inserted-leads z a (x a) past from (omega (arith, d.before an)) x h

    -- x repeats s, one column later, from a + 1 up to the column e
    module _ (e : ℕ) (g : AgreeTo n x s 1 (a + 1) e) where
      w : ℕ → ℕ
      w = inserted s a z.p (x a)

      repeats : (j : ℕ) → a < j → j < e → x j ≡ s (j - 1)
      repeats j aj je = g.equal j (omega arith) je

      early : (t : ℕ) → t < e → rank (x t) ≤ rank (w t)
      unfolding w
      early t te = go (dec_lt t a) (ℕ_discrete t a)
        where
          go : Dec (t < a) → Dec (t ≡ a) → rank (x t) ≤ rank (w t)
          go (yes h) k = rw (inserted-before s a z.p (x a) t h, agreed d t h) (omega arith)
          go (no h) (yes k) = rw (k, inserted-at s a z.p (x a)) (omega arith)
          go (no h) (no k) = rw (repeats t (omega arith) te) (inserted-up z a (x a) past t (omega arith) (omega (arith, g.up_to))).0

      same-before : (j : ℕ) → j < e → j ≤ z.p → x j ≡ w j
      unfolding w
      same-before j je jp = go (dec_lt j a) (ℕ_discrete j a)
        where
          go : Dec (j < a) → Dec (j ≡ a) → x j ≡ w j
          go (yes h) k = agreed d j h ∙ sym (inserted-before s a z.p (x a) j h)
          go (no h) (yes k) = rw k (sym (inserted-at s a z.p (x a)))
          go (no h) (no k) = repeats j (omega arith) je ∙ sym (inserted-between s a z.p (x a) j (omega arith) jp)

      same_after : (j : ℕ) → z.p < j → w j ≡ s j
      unfolding w
      same_after j pj = inserted-after s a z.p (x a) j (omega arith) pj

      -- before e nothing is to be shown
      from_end : ((t : ℕ) → e ≤ t → t < n → ((j : ℕ) → j < t → x j ≡ w j) → rank (x t) ≤ rank (w t)) → Passes
      unfolding NoLater w
      from_end h t t0 tn same = go (dec_lt t e)
        where
          go : Dec (t < e) → rank (x t) ≤ rank (w t)
          go (yes k) = early t k
          go (no k) = h t (omega arith) tn (λ j jt. same j (omega arith) jt)

      pub passes-if-below : (e < n → rank (x e) < rank (s (e - 1))) → Passes
      unfolding w
      passes-if-below h = from_end λ t et tn same. go t tn same (ℕ_discrete t e) et
        where
          up : (t : ℕ) → e ≤ t → t < n → rank (s (e - 1)) ≤ rank (w e)
          up t et tn = (inserted-up z a (x a) past e (omega (arith, g.from_on)) (omega arith)).0

          go : (t : ℕ) → t < n → ((j : ℕ) → j < t → x j ≡ w j) → Dec (t ≡ e) → e ≤ t → rank (x t) ≤ rank (w t)
          go t tn same (yes k) et = rw k (omega (arith, up t et tn, h (omega arith)))
          go t tn same (no k) et = let q : rank (x e) ≡ rank (w e) = ap rank (same e (omega arith)) in absurd (omega (arith, up t et tn, h (omega arith)))

      pub passes-if-no-later : z.p < e → NoLater n x s e → Passes
      unfolding NoLater
      passes-if-no-later pe h =
          from_end λ t et tn same. rw (same_after t (omega arith)) (h t et tn (λ j ej jt. same j jt ∙ same_after j (omega arith)))

      pub fails-past : e ≤ z.p → rank (s (e - 1)) < rank (x e) → Passes → ⊥
      unfolding NoLater w
      fails-past ep h k =
          let q : rank (x e) ≤ rank (w e) = k e (omega arith) (omega (arith, z.inside)) (λ j j0 je. same-before j je (omega arith)) in
          let r : rank (w e) ≡ rank (s (e - 1)) = ap rank (inserted-between s a z.p (x a) e (omega (arith, g.from_on)) ep) in
          omega arith

      -- where x and w agree, and x repeats s, s stays level
      level-up-to : ((j : ℕ) → j < e → x j ≡ w j) → (k : ℕ) → z.p + k < e → s z.p ≡ s (z.p + k)
      level-up-to same zero b = let q : z.p + 0 ≡ z.p = omega arith in rw q refl
      level-up-to same (suc k) b =
          let q : z.p + suc k - 1 ≡ z.p + k = omega arith in
          level-up-to same k (omega arith)
          ∙ ap s (sym q)
          ∙ sym (repeats (z.p + suc k) (omega arith) b)
          ∙ same (z.p + suc k) b
          ∙ same_after (z.p + suc k) (omega arith)

      pub passes-if-smaller : rank (s z.p) < rank (s (e - 1)) → Passes
      passes-if-smaller h = from_end λ t et tn same. absurd (contradiction (λ j je. same j (omega arith)) (dec_lt z.p (e - 1)))
        where
          contradiction : ((j : ℕ) → j < e → x j ≡ w j) → Dec (z.p < e - 1) → ⊥
          contradiction same (yes b) =
              let q : z.p + (e - 1 - z.p) ≡ e - 1 = omega arith in
              let r : rank (s z.p) ≡ rank (s (e - 1)) = ap rank (level-up-to same (e - 1 - z.p) (omega arith) ∙ ap s q) in
              omega arith
          contradiction same (no b) = omega (arith, z.sorted.ascend (e - 1) z.p (omega arith) z.inside)

      pub passes-no-later : z.p < e → rank (s (e - 1)) ≤ rank (s z.p) → Passes → NoLater n x s e
      unfolding NoLater w
      passes-no-later pe h k t et tn same =
          rw (same_after t (omega arith)) at (k t (omega arith) tn (λ j j0 jt. go j jt (dec_lt z.p j) (dec_lt j e)))
        where
          up : (i j : ℕ) → i ≤ j → j < n → rank (s i) ≤ rank (s j)
          up = z.sorted.ascend

          level : (j : ℕ) → z.p < j → j < e → s (j - 1) ≡ s j
          level j pj je =
              rank-antisymm _ _ (up (j - 1) j (omega arith) (omega (arith, g.up_to)))
              (omega (arith, up j (e - 1) (omega arith) (omega (arith, g.up_to)), up z.p (j - 1) (omega arith) (omega (arith, g.up_to))))

          go : (j : ℕ) → j < t → Dec (z.p < j) → Dec (j < e) → x j ≡ w j
          go j jt (yes pj) (yes je) = repeats j (omega arith) je ∙ level j pj je ∙ sym (same_after j pj)
          go j jt (yes pj) (no je) = same j (omega arith) jt ∙ sym (same_after j pj)
          go j jt (no pj) je = same-before j (omega arith) (omega arith)
