-- The numbers by which a row's new lows are found, for each way in which row 0's lows x and the other row's sorted highs s go on after they part.
--
--   low_for-high, low_for-least, low_for-raised  ==  the low by a cell's high
--   lows-last    ==  they do not part, or x has less than the value just before: that value is the least
--   lows-equal   ==  x's value where they part is the least, since what follows lets x lead
--   lows-reached, lows-passed  ==  else it depends on the high
use mathlib.Core.Path.{◌≡◌, ap, ◌∙◌}
use Prim.Native.Nat.{ℕ, ◌+◌, ◌-◌, ◌≤◌, ◌<◌}
use native.Mathlib.Decide.{dec_lt}
use native.Mathlib.Omega.{arith}
use borrow.Author.Tests.{lt-ltb, le-ltb}
use Rattle.grids.specs.Neighbours.{IsNext}
use Rattle.grids.specs.Order.{rank}
use Rattle.grids.proofs.OrderLaws.{rank-antisymm}
use Rattle.bounds.specs.declared.lows.RowLows.{RowLows}
use Rattle.bounds.specs.Rows.{put, Values, Leads, IsSorted, AgreeTo, NoLater, Parted, Threshold, low_for, IsLows}
use Rattle.bounds.proofs.LeadsLaws.{sorted-value}
use Rattle.bounds.proofs.InsertedLaws.{Spot, spot-value}
use Rattle.bounds.proofs.ThresholdLaws.{threshold-of, threshold-fixed, floor-before, floor-passed, above-leads, Passes, leads-passes, passes-leads, passes-if-below, passes-if-no-later, passes-if-smaller, fails-past, passes-no-later}

-- ---- the low by a cell's high

module _ (z : RowLows) (y : ℕ) where
  pub low_for-high : rank y < rank z.floor → low_for z y ≡ y
  unfolding low_for
  low_for-high h = rw (lt-ltb (rank y) (rank z.floor) h, low_for)

  pub low_for-least : rank z.floor ≤ rank y → rank y < rank z.limit → low_for z y ≡ z.least
  unfolding low_for
  low_for-least h k = rw (le-ltb (rank y) (rank z.floor) h, low_for) (rw (lt-ltb (rank y) (rank z.limit) k))

  pub low_for-raised : rank z.floor ≤ rank y → rank z.limit ≤ rank y → low_for z y ≡ z.raised
  unfolding low_for
  low_for-raised h k = rw (le-ltb (rank y) (rank z.floor) h, low_for) (rw (le-ltb (rank y) (rank z.limit) k))

-- column c of y, where it stands in the sorted row
spot : {n : ℕ} {y s : ℕ → ℕ} → IsSorted n y s → (c : ℕ) → c < n → Spot n y s c
spot o c b = let r = sorted-value o c b in record { sorted = o; p = r.0; inside = r.1; here = r.2 }

high-within : {n : ℕ} {y s : ℕ → ℕ} {c : ℕ} (top : ℕ) → Values n top s → (z : Spot n y s c) → y c ≤ top
high-within top sv z = rw (spot-value z) at (sv z.p z.inside)

abbrev numbers : ℕ → ℕ → ℕ → ℕ → RowLows
numbers floor limit least raised = record { floor = floor; limit = limit; least = least; raised = raised }

-- a high that is no higher than the one number there is
low_for-up-to : (l y : ℕ) → rank y ≤ rank l → low_for (numbers l l l l) y ≡ y
low_for-up-to l y k = go (dec_lt (rank y) (rank l))
  where
    go : Dec (rank y < rank l) → low_for (numbers l l l l) y ≡ y
    go (yes h) = low_for-high (numbers l l l l) y h
    go (no h) = low_for-raised (numbers l l l l) y (omega arith) (omega arith) ∙ rank-antisymm l y (omega arith) k

module _ {n : ℕ} {x s : ℕ → ℕ} {a : ℕ} (d : Parted n x s a) where
  -- ---- one number for all highs

  pub lows-last : 0 < a → (a < n → rank (x a) < rank (s (a - 1))) → IsLows n x s (numbers (s (a - 1)) (s (a - 1)) (s (a - 1)) (s (a - 1)))
  unfolding IsLows
  lows-last a0 less top y xv sv o c cn = go (spot o c cn)
    where
      l : ℕ
      l = s (a - 1)

      up : (i j : ℕ) → i ≤ j → j < n → rank (s i) ≤ rank (s j)
      up = o.ascend

      go : Spot n y s c → Threshold n top x y c (low_for (numbers l l l l) (y c))
      go w = at (dec_lt w.p a)
        where
          value : rank (s w.p) ≡ rank (y c)
          value = ap rank (spot-value w)

          at : Dec (w.p < a) → Threshold n top x y c (low_for (numbers l l l l) (y c))
          at (yes h) =
              rw (low_for-up-to l (y c) (omega (arith, value, up w.p (a - 1) (omega arith) (omega (arith, d.agree.up_to)))))
              (threshold-fixed d w top (high-within top sv w) h)
          at (no h) =
              let k : rank l ≤ rank (y c) = omega (arith, value, up (a - 1) w.p (omega arith) w.inside) in
              rw (low_for-raised (numbers l l l l) (y c) k k)
              (threshold-of n top x y c l (sv (a - 1) (omega (arith, w.inside)))
              (above-leads d w (omega arith) l (λ b. omega arith) (up (a - 1) a (omega arith) (omega (arith, w.inside))) (less (omega (arith, w.inside))))
              (λ v vt k. floor-passed d w (omega arith) v a0 k))

  -- ---- x's value where they part, or the next one

  module _ (an : a < n) (from : 0 < a → rank (s (a - 1)) ≤ rank (x a)) where
    -- the highs from s's value on are told apart by a limit
    lows-split : (limit raised : ℕ) →
        ((top : ℕ) (y : ℕ → ℕ) (c : ℕ) → Values n top x → Values n top s → (w : Spot n y s c) (past : a ≤ w.p) →
        (rank (y c) < rank limit → Passes d w past) × (rank limit ≤ rank (y c) → Threshold n top x y c raised)) → IsLows n x s (numbers (s a) limit (x a) raised)
    unfolding IsLows
    lows-split limit raised h top y xv sv o c cn = go (spot o c cn)
      where
        go : Spot n y s c → Threshold n top x y c (low_for (numbers (s a) limit (x a) raised) (y c))
        go w = at (dec_lt w.p a)
          where
            value : rank (s w.p) ≡ rank (y c)
            value = ap rank (spot-value w)

            past-at : a ≤ w.p → Dec (rank (y c) < rank limit) → Threshold n top x y c (low_for (numbers (s a) limit (x a) raised) (y c))
            past-at past (yes k) =
                rw (low_for-least (numbers (s a) limit (x a) raised) (y c) (omega (arith, value, o.ascend a w.p past w.inside)) k)
                (threshold-of n top x y c (x a) (xv a an) (passes-leads d w past from an ((h top y c xv sv w past).0 k)) (λ v vt k. floor-before d w past v k))
            past-at past (no k) =
                rw (low_for-raised (numbers (s a) limit (x a) raised) (y c) (omega (arith, value, o.ascend a w.p past w.inside)) (omega arith))
                ((h top y c xv sv w past).1 (omega arith))

            at : Dec (w.p < a) → Threshold n top x y c (low_for (numbers (s a) limit (x a) raised) (y c))
            at (yes k) =
                rw (low_for-high (numbers (s a) limit (x a) raised) (y c)
                (omega (arith, value, o.ascend w.p (a - 1) (omega arith) (omega arith), from (omega arith), d.before an)))
                (threshold-fixed d w top (high-within top sv w) k)
            at (no k) = past-at (omega arith) (dec_lt (rank (y c)) (rank limit))

    pub lows-equal : (e : ℕ) → AgreeTo n x s 1 (a + 1) e → (e < n → rank (x e) < rank (s (e - 1))) → IsLows n x s (numbers (s a) (s a) (x a) (x a))
    lows-equal e g below =
        lows-split (s a) (x a) λ top y c xv sv w past. (
          λ k. passes-if-below d w past e g below,
          λ k. threshold-of n top x y c (x a) (xv a an) (passes-leads d w past from an (passes-if-below d w past e g below)) (λ v vt k. floor-before d w past v k),
        )

    -- where x's value does not do, the next one does
    raised-threshold : (r top : ℕ) {y : ℕ → ℕ} {c : ℕ} → IsNext top (x a) r → Values n top s → (w : Spot n y s c) (past : a ≤ w.p) → (Passes d w past → ⊥) → Threshold n top x y c r
    raised-threshold r top {y} {c} next sv w past fails =
        threshold-of n top x y c r next.within
        (above-leads d w past r (λ a0. omega (arith, from a0, next.above)) (next.first (s a) (sv a an) (d.before an)) next.above) λ v vt k.
        go v vt k (dec_lt (rank (x a)) (rank v))
      where
        go : (v : ℕ) → v ≤ top → Leads n x (put y c v) → Dec (rank (x a) < rank v) → rank r ≤ rank v
        go v vt k (yes b) = next.first v vt b
        go v vt k (no b) =
            let q : x a ≡ v = rank-antisymm (x a) v (floor-before d w past v k) (omega arith) in
            absurd (fails (leads-passes d w past (rw q k)))

    module _ (r : ℕ) (next : (top v : ℕ) → v ≤ top → rank (x a) < rank v → IsNext top (x a) r) (e : ℕ) (g : AgreeTo n x s 1 (a + 1) e) (en : e < n) (above : rank (s (e - 1)) < rank (x e)) where
      next-at : (top : ℕ) → Values n top s → IsNext top (x a) r
      next-at top sv = next top (s a) (sv a an) (d.before an)

      pub lows-reached : NoLater n x s e → IsLows n x s (numbers (s a) (s e) (x a) r)
      unfolding NoLater
      lows-reached h = lows-split (s e) r λ top y c xv sv w past. (passes top y c w past, raised top y c sv w past)
        where
          passes : (top : ℕ) (y : ℕ → ℕ) (c : ℕ) (w : Spot n y s c) (past : a ≤ w.p) → rank (y c) < rank (s e) → Passes d w past
          passes top y c w past k = go (dec_lt w.p e)
            where
              go : Dec (w.p < e) → Passes d w past
              go (yes b) = passes-if-no-later d w past e g b h
              go (no b) = let value : rank (s w.p) ≡ rank (y c) = ap rank (spot-value w) in absurd (omega (arith, w.sorted.ascend e w.p (omega arith) w.inside))

          raised : (top : ℕ) (y : ℕ → ℕ) (c : ℕ) → Values n top s → (w : Spot n y s c) (past : a ≤ w.p) → rank (s e) ≤ rank (y c) → Threshold n top x y c r
          raised top y c sv w past k = raised-threshold r top (next-at top sv) sv w past (fails-past d w past e g (go (dec_lt w.p e)) above)
            where
              go : Dec (w.p < e) → e ≤ w.p
              go (yes b) =
                  let value : rank (s w.p) ≡ rank (y c) = ap rank (spot-value w) in
                  let reached : rank (x e) ≤ rank (s e) = h e (omega arith) en (λ j ej je. absurd (omega arith)) in
                  absurd (omega (arith, w.sorted.ascend w.p (e - 1) (omega arith) (omega arith)))
              go (no b) = omega arith

      pub lows-passed : (NoLater n x s e → ⊥) → IsLows n x s (numbers (s a) (s (e - 1)) (x a) r)
      lows-passed h = lows-split (s (e - 1)) r λ top y c xv sv w past. (passes top y c w past, raised top y c sv w past)
        where
          passes : (top : ℕ) (y : ℕ → ℕ) (c : ℕ) (w : Spot n y s c) (past : a ≤ w.p) → rank (y c) < rank (s (e - 1)) → Passes d w past
          passes top y c w past k = let value : rank (s w.p) ≡ rank (y c) = ap rank (spot-value w) in passes-if-smaller d w past e g (omega arith)

          raised : (top : ℕ) (y : ℕ → ℕ) (c : ℕ) → Values n top s → (w : Spot n y s c) (past : a ≤ w.p) → rank (s (e - 1)) ≤ rank (y c) → Threshold n top x y c r
          raised top y c sv w past k = raised-threshold r top (next-at top sv) sv w past (go (dec_lt w.p e))
            where
              go : Dec (w.p < e) → Passes d w past → ⊥
              go (yes b) f = let value : rank (s w.p) ≡ rank (y c) = ap rank (spot-value w) in h (passes-no-later d w past e g b (omega arith) f)
              go (no b) f = fails-past d w past e g (omega arith) above f
