-- The highest value that row 0 may have in a column, by its lows x and the other row's sorted highs s.
--
--   lead-ceiling     ==  up to where x and s part, x with v in a column leads only if v ranks no higher than s's value there
--   cap-equal        ==  where what follows lets x lead, s's value is the cap
--   cap-below        ==  else it is the value next below
--   highs-lowered     ==  highs that are x's values before x and s part, and at most the cap there, are those that let x lead
--   lows-raised      ==  lows that are at least the thresholds are those that let x lead
use mathlib.Core.Path.{◌≡◌, refl, sym, ap, ◌∙◌}
use mathlib.Core.Logic.{◌↔◌}
use Prim.Native.Nat.{ℕ, ◌+◌, ◌≤◌, ◌<◌}
use native.Mathlib.Decide.{ℕ_discrete, dec_lt}
use native.Mathlib.Omega.{arith}
use Rattle.grids.specs.Neighbours.{IsPrevious}
use Rattle.grids.specs.Order.{rank, lower}
use Rattle.grids.proofs.OrderLaws.{rank-antisymm}
use Rattle.grids.proofs.HigherLaws.{lower-exact, higher-exact, lower-within, higher-within}
use Rattle.bounds.specs.declared.lows.RowLows.{RowLows}
use Rattle.bounds.specs.Rows.{put, Values, Leads, IsSorted, NoLater, Parted, low_for, IsLows, RaisedTo, Raised, IsCap, IsHighs}
use Rattle.bounds.proofs.LeadsLaws.{put_same, put_other, put_self, leads-ext, leads-sorted}
use Rattle.bounds.proofs.ThresholdLaws.{agreed, parted-leads}

-- ---- the cap

module _ {n : ℕ} {x y s : ℕ → ℕ} {a : ℕ} (d : Parted n x s a) (o : IsSorted n y s) where
  -- x with v in column c, before that column
  put-agreed : (c v j : ℕ) → c ≤ a → j < c → put x c v j ≡ s j
  put-agreed c v j ca jc = put_other x c v j (λ e. omega arith) ∙ agreed d j (omega arith)

  pub lead-ceiling : (c v : ℕ) → c ≤ a → c < n → Leads n (put x c v) y → rank v ≤ rank (s c)
  unfolding NoLater
  lead-ceiling c v ca cn h = rw (put_same x c v) at ((leads-sorted (put x c v) o).0 h c (omega arith) cn (λ j j0 jc. put-agreed c v j ca jc))

  -- from the column where they part on
  leads-from : (v : ℕ) → a < n → rank v ≤ rank (s a) → (v ≡ s a → NoLater n x s (a + 1)) → Leads n (put x a v) y
  unfolding NoLater
  leads-from v an h later = (leads-sorted (put x a v) o).1 λ t t0 tn same. go t tn same (dec_lt t a) (ℕ_discrete t a)
    where
      go : (t : ℕ) → t < n → ((j : ℕ) → 0 ≤ j → j < t → put x a v j ≡ s j) → Dec (t < a) → Dec (t ≡ a) → rank (put x a v t) ≤ rank (s t)
      go t tn same (yes k) e = rw (put-agreed a v t (omega arith) k) (omega arith)
      go t tn same (no k) (yes e) = rw (e, put_same x a v) h
      go t tn same (no k) (no e) =
          rw (put_other x a v t e)
          (later (sym (put_same x a v) ∙ same a (omega arith) (omega arith)) t (omega arith) tn
          (λ j aj jt. sym (put_other x a v j (λ q. omega arith)) ∙ same j (omega arith) jt))

  -- with s's own value there, what follows decides
  leads-later : a < n → Leads n (put x a (s a)) y → NoLater n x s (a + 1)
  unfolding NoLater
  leads-later an h t at tn same =
      rw (put_other x a (s a) t (λ e. omega arith)) at ((leads-sorted (put x a (s a)) o).0 h t (omega arith) tn (λ j j0 jt. go j jt (dec_lt j a) (ℕ_discrete j a)))
    where
      go : (j : ℕ) → j < t → Dec (j < a) → Dec (j ≡ a) → put x a (s a) j ≡ s j
      go j jt (yes k) e = put-agreed a (s a) j (omega arith) k
      go j jt (no k) (yes e) = rw (e, put_same x a (s a))
      go j jt (no k) (no e) = put_other x a (s a) j e ∙ same j (omega arith) jt

  -- past the column where they part, any value will do
  leads-past : (c v : ℕ) → a < c → c < n → Leads n (put x c v) y
  unfolding NoLater
  leads-past c v ac cn = (leads-sorted (put x c v) o).1 λ t t0 tn same. go t same (dec_lt t a) (ℕ_discrete t a)
    where
      other : (j : ℕ) → j ≤ a → put x c v j ≡ x j
      other j ja = put_other x c v j (λ e. omega arith)

      go : (t : ℕ) → ((j : ℕ) → 0 ≤ j → j < t → put x c v j ≡ s j) → Dec (t < a) → Dec (t ≡ a) → rank (put x c v t) ≤ rank (s t)
      go t same (yes k) e = rw (other t (omega arith), agreed d t k) (omega arith)
      go t same (no k) (yes e) = rw (e, other a (omega arith)) (omega (arith, d.before (omega arith)))
      go t same (no k) (no e) =
          let q : rank (x a) ≡ rank (s a) = ap rank (sym (other a (omega arith)) ∙ same a (omega arith) (omega arith)) in
          absurd (omega (arith, d.before (omega arith)))

pub cap-equal : {n : ℕ} {x s : ℕ → ℕ} {a : ℕ} → Parted n x s a → a < n → NoLater n x s (a + 1) → IsCap n x s a (s a)
unfolding IsCap
cap-equal {a = a} d an later top y sv o = record {
  within = sv a an;
  exact = λ v vt xv. (lead-ceiling d o a v (omega arith) an, λ h. leads-from d o v an h (λ e. later));
}

pub cap-below : {n : ℕ} {x s : ℕ → ℕ} {a : ℕ} (r : ℕ) → Parted n x s a → a < n → ((top : ℕ) → s a ≤ top → IsPrevious top (s a) r) → (NoLater n x s (a + 1) → ⊥) → IsCap n x s a r
unfolding IsCap
cap-below {n} {x} {s} {a} r d an previous fails top y sv o =
    let q = previous top (sv a an) in
    record {
      within = q.within;
      exact = λ v vt xv. (
        λ h. go v vt h (ℕ_discrete v (s a)),
        λ h. leads-from d o v an (omega (arith, q.below)) (λ e. let f : rank v ≡ rank (s a) = ap rank e in absurd (omega (arith, q.below))),
      );
    }
  where
    go : (v : ℕ) → v ≤ top → Leads n (put x a v) y → Dec (v ≡ s a) → rank v ≤ rank r
    go v vt h (yes e) = absurd (fails (leads-later d o an (rw e at h)))
    go v vt h (no ne) = (previous top (sv a an)).last v vt (less (dec_lt (rank v) (rank (s a))))
      where
        less : Dec (rank v < rank (s a)) → rank v < rank (s a)
        less (yes k) = k
        less (no k) = absurd (ne (rank-antisymm v (s a) (lead-ceiling d o a v (omega arith) an h) (omega arith)))

-- ---- new bounds

pub highs-lowered : {n : ℕ} {x s : ℕ → ℕ} {a : ℕ} → Parted n x s a → (h h' : ℕ → ℕ) → ((c : ℕ) → c < a → h' c ≡ x c) →
    (a < n → (t : ℕ) × IsCap n x s a t × (h' a ≡ lower (h a) t)) → ((c : ℕ) → a < c → c < n → h' c ≡ h c) → IsHighs n x s h h'
unfolding IsHighs IsCap
highs-lowered {n} {x} {s} {a} d h h' before at after top y xv sv hv ordered o = record {
  within = λ c cn. within c cn (dec_lt c a) (ℕ_discrete c a);
  exact = λ c v cn vt xc. exact c v cn vt xc (dec_lt c a) (ℕ_discrete c a);
}
  where
    within : (c : ℕ) → c < n → Dec (c < a) → Dec (c ≡ a) → h' c ≤ top
    within c cn (yes k) e = rw (before c k) (xv c cn)
    within c cn (no k) (yes e) =
        let an : a < n = omega arith in
        let r = at an in
        rw (e, r.2) (lower-within (h a) r.0 top (hv a an) (r.1 top y sv o).within)
    within c cn (no k) (no e) = rw (after c (omega arith) cn) (hv c cn)

    exact : (c v : ℕ) → c < n → v ≤ top → rank (x c) ≤ rank v → Dec (c < a) → Dec (c ≡ a) → ((rank v ≤ rank (h c)) × Leads n (put x c v) y) ↔ (rank v ≤ rank (h' c))
    exact c v cn vt xc (yes k) e =
        rw (before c k) (
          λ p. rw (agreed d c k) (lead-ceiling d o c v (omega arith) cn p.1),
          λ p.
              let q : x c ≡ v = rank-antisymm (x c) v xc p in
              (rw (← q) (ordered c cn), rw (← q) (leads-ext n x _ y y (λ j b. sym (put_self x c j)) (λ j b. refl) (parted-leads d o))),
        )
    exact c v cn vt xc (no k) (yes e) =
        let an : a < n = omega arith in
        let r = at an in
        let f = (r.1 top y sv o).exact v vt (rw e at xc) in
        let g = lower-exact (h a) r.0 v in
        rw (e, r.2) (λ p. g.0 (p.0, f.0 p.1), λ p. let w = g.1 p in (w.0, f.1 w.1))
    exact c v cn vt xc (no k) (no e) =
        rw (after c (omega arith) cn) (λ p. p.0, λ p. (p, leads-past d o c v (omega arith) cn))

pub lows-raised : {n : ℕ} {x s : ℕ → ℕ} (z : RowLows) → IsLows n x s z → (top : ℕ) (y l l' : ℕ → ℕ) → RaisedTo n z l y l' → Values n top x → Values n top s → Values n top l → IsSorted n y s → Raised (λ w. Leads n x w) n top y l l'
unfolding IsLows RaisedTo
lows-raised z lows top y l l' new xv sv lv o = record {
  within = λ c cn. rw (new c cn) (higher-within (l c) (low_for z (y c)) top (lv c cn) (lows top y xv sv o c cn).within);
  exact = λ c v cn vt vy.
      let f = (lows top y xv sv o c cn).exact v vt vy in
      let g = higher-exact (l c) (low_for z (y c)) v in
      rw (new c cn) (λ p. g.0 (p.0, f.0 p.1), λ p. let w = g.1 p in (w.0, f.1 w.1));
}
