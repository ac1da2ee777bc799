-- The rows left by sifting are those whose leading cells are least.
--
--   no-later-same, no-later-fewer  ==  cells come no later than themselves; fewer cells come no later
--   leads-agree, leads-like  ==  two rows that lead agree; a row that agrees with one that leads does
--   keep-leads      ==  of the rows that lead, those with a count above i at the threshold lead by a cell more
--   threshold-same  ==  equal sets of rows have equal thresholds
--   sifted-leads    ==  sifting a block place by place leaves the rows that lead up to that place
--   sifts-ends      ==  what sifting leaves depends on the ends of the blocks of the places alone
--   lone-leads      ==  a row that leads alone leads alone from there on
use mathlib.Core.Path.{◌≡◌, sym, ◌∙◌}
use mathlib.Core.Logic.{◌↔◌}
use Prim.Native.Nat.{ℕ, zero, suc, ◌+◌, ◌≤◌, ◌<◌}
use native.Mathlib.Decide.{ℕ_discrete, dec_le, dec_lt}
use native.Mathlib.Nat.{not-suc-le-zero}
use native.Mathlib.Omega.{arith}
use Rattle.branches.specs.Sifting.{at_most, SortedBlock, NoLater, Leads, Threshold, sifted, Starts, Sifts}
use Rattle.branches.proofs.AtMostLaws.{block_at}

pub no-later-same : (p : ℕ) (f : ℕ → ℕ) → NoLater p f f
unfolding NoLater
no-later-same p f t tp same = omega arith

pub no-later-fewer : (p q : ℕ) (f h : ℕ → ℕ) → q ≤ p → NoLater p f h → NoLater q f h
unfolding NoLater
no-later-fewer p q f h qp l t tq same = l t (omega arith) same

-- two that come no later than each other agree, up to each place
no-later-both : (p : ℕ) (f h : ℕ → ℕ) → NoLater p f h → NoLater p h f → (u : ℕ) → u ≤ p → (t : ℕ) → t < u → f t ≡ h t
unfolding NoLater
no-later-both p f h a b zero up t tu = absurd (not-suc-le-zero tu)
no-later-both p f h a b (suc u) up t tu = go (no-later-both p f h a b u (omega arith)) (ℕ_discrete t u)
  where
    go : ((j : ℕ) → j < u → f j ≡ h j) → Dec (t ≡ u) → f t ≡ h t
    go same (yes e) = rw e (omega (arith, a u (omega arith) same, b u (omega arith) (λ j ju. sym (same j ju))))
    go same (no ne) = same t (omega arith)

module _ (p : ℕ) (R : ℕ → Type 0) (K : ℕ → ℕ → ℕ) where
  pub leads-agree : (x y : ℕ) → Leads p R K x → Leads p R K y → (t : ℕ) → t < p → K x t ≡ K y t
  leads-agree x y a b t tp = no-later-both p (K x) (K y) (a.least y b.of) (b.least x a.of) p (omega arith) t tp

  pub leads-like : (x y : ℕ) → Leads p R K x → R y → ((t : ℕ) → t < p → K x t ≡ K y t) → Leads p R K y
  unfolding NoLater
  leads-like x y a r same = record {
    of = r;
    least = λ z b t tp e. rw (← (same t tp)) (a.least z b t tp (λ j jt. same j (omega arith) ∙ e j jt));
  }

  module _ (C : ℕ → ℕ → ℕ) (i v : ℕ) (counted : (x : ℕ) → R x → (u : ℕ) → (K x p ≤ u) ↔ (i < C x u)) (h : Threshold (Leads p R K) C i v) where
    kept : (x : ℕ) → Leads (suc p) R K x → Leads p R K x × (i < C x v)
    unfolding NoLater
    kept x a = (l, (counted x a.of v).0 (omega (arith, at, (counted h.row h.of.of v).1 h.more)))
      where
        l : Leads p R K x
        l = record { of = a.of; least = λ y b. no-later-fewer (suc p) p (K x) (K y) (omega arith) (a.least y b) }

        at : K x p ≤ K h.row p
        at = a.least h.row h.of.of p (omega arith) (leads-agree x h.row l h.of)

    keeps : (x : ℕ) → Leads p R K x × (i < C x v) → Leads (suc p) R K x
    unfolding NoLater
    keeps x (l, m) = record {
      of = l.of;
      least = λ y b t tp same. go y b t tp same (ℕ_discrete t p);
    }
      where
        last : (y : ℕ) → R y → ((j : ℕ) → j < p → K x j ≡ K y j) → Dec (K x p ≤ K y p) → K x p ≤ K y p
        last y b same (yes e) = e
        last y b same (no ne) =
            absurd (omega
            (arith, h.none (K y p) (omega (arith, (counted x l.of v).1 m)) y (leads-like x y l b same), (counted y b (K y p)).0 (omega arith)))

        go : (y : ℕ) → R y → (t : ℕ) → t < suc p → ((j : ℕ) → j < t → K x j ≡ K y j) → Dec (t ≡ p) → K x t ≤ K y t
        go y b t tp same (yes e) = rw e (last y b (λ j jp. same j (omega arith)) (dec_le (K x p) (K y p)))
        go y b t tp same (no ne) = l.least y b t (omega arith) same

    pub keep-leads : (x : ℕ) → (Leads p R K x × (i < C x v)) ↔ Leads (suc p) R K x
    keep-leads x = (keeps x, kept x)

pub threshold-same : (R S : ℕ → Type 0) (C : ℕ → ℕ → ℕ) (i v : ℕ) → ((x : ℕ) → R x ↔ S x) → Threshold R C i v → Threshold S C i v
threshold-same R S C i v e h = record {
  row = h.row;
  of = (e h.row).0 h.of;
  more = h.more;
  none = λ u b y s. h.none u b y ((e y).1 s);
}

module _ (s w : ℕ) (R : ℕ → Type 0) (K c : ℕ → ℕ → ℕ) (blocks : (x : ℕ) → R x → SortedBlock s w (c x) (K x)) (v : ℕ → ℕ) where
  abbrev counts : ℕ → ℕ → ℕ
  counts x u = at_most w (c x) u

  abbrev left : ℕ → ℕ → Type 0
  left i = sifted (Leads s R K) counts v i

  sift-next : (i : ℕ) → i < w → Threshold (left i) counts i (v i) → ((y : ℕ) → left i y ↔ Leads (s + i) R K y) → (x : ℕ) →
      (left i x × (i < counts x (v i))) ↔ Leads (suc (s + i)) R K x
  sift-next i iw h ih x = (λ a. step.0 ((ih x).0 a.0, a.1), λ a. ((ih x).1 (step.1 a).0, (step.1 a).1))
    where
      step : (Leads (s + i) R K x × (i < counts x (v i))) ↔ Leads (suc (s + i)) R K x
      step =
          keep-leads (s + i) R K counts i (v i) (λ y r u. block_at s w (c y) (K y) (blocks y r) i u iw)
          (threshold-same (left i) (Leads (s + i) R K) counts i (v i) ih h) x

  pub sifted-leads : (i : ℕ) → i ≤ w → ((j : ℕ) → j < i → Threshold (left j) counts j (v j)) → (x : ℕ) → left i x ↔ Leads (s + i) R K x
  unfolding sifted
  sifted-leads zero iw h x = let e : s + 0 ≡ s = omega arith in rw e (λ a. a, λ a. a)
  sifted-leads (suc i) iw h x =
      let e : s + suc i ≡ suc (s + i) = omega arith in
      rw e (sift-next i (omega arith) (h i (omega arith)) (sifted-leads i (omega arith) (λ j b. h j (omega arith))) x)

pub lone-leads : (p size : ℕ) (R : ℕ → Type 0) (K : ℕ → ℕ → ℕ) (x : ℕ) → p ≤ size → Leads p R K x → ((y : ℕ) → Leads p R K y → y ≡ x) → (y : ℕ) → Leads p R K y ↔ Leads size R K y
unfolding NoLater
lone-leads p size R K x ps l one y = (λ a. rw (one y a) far, λ a. record { of = a.of; least = λ z b. no-later-fewer size p (K y) (K z) ps (a.least z b) })
  where
    next : (z : ℕ) → R z → Dec (z ≡ x) → (t : ℕ) → t < size → ((j : ℕ) → j < t → K x j ≡ K z j) → Dec (t < p) → K x t ≤ K z t
    next z b (yes e) t ts same d = rw e (omega arith)
    next z b (no ne) t ts same (yes tp) = l.least z b t tp same
    next z b (no ne) t ts same (no tp) = absurd (ne (one z (leads-like p R K x z l b (λ j jp. same j (omega arith)))))

    far : Leads size R K x
    far = record { of = l.of; least = λ z b t ts same. next z b (ℕ_discrete z x) t ts same (dec_lt t p) }

pub sifts-ends : (n : ℕ) (e f : ℕ → ℕ) → ((u : ℕ) → u < n → e u ≡ f u) → (c : ℕ → ℕ → ℕ → ℕ) (R : ℕ → Type 0) (p : ℕ) (S : ℕ → Type 0) → Sifts n e c R p S → Sifts n f c R p S
unfolding Sifts Starts
sifts-ends n e f same c R p S sifts K blocks =
    sifts K (λ u un starts x r. rw (same u un) (blocks u un (λ i iu. rw (← (same i (omega arith))) (starts i iu)) x r))
