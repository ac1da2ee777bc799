-- Laws of the order of lists by rank.
--
--   rank-injective, rank-cap             ==  equal ranks, equal values; the values 0 to 15 rank 0 to 15: all that is used of rank itself here
--   rank-antisymm                        ==  values that rank no higher than each other are equal
--   trichotomy                           ==  of two values one ranks lower, or they are equal
--   ≼_refl, ≼_trans, ≼-antisymm, ≼-total, ≼-dec  ==  the order is a decidable total order
--   leq-spec, leq-yes, ≼-leq, leq-decides  ==  the test decides it
--   agree-cons, agree-next               ==  lists that agree before an index, with a value more in front, and at that index too
--   ≼-by-index, ≼-at                     ==  of lists of one length: wherever all before is equal, the first's value ranks no higher
--   first-unequal                        ==  the same as document 01 says it: equal, or the first unequal value decides
--   tabulate-at, tabulate-by-index       ==  the same of tabulated lists
--   ≼-pointwise                          ==  a list whose values all rank no higher comes no later
--   ≼-prefix, ≼-lead                     ==  leading values are in the order of the lists; where they differ they decide it
--   ≺-≼, ≺-trans, ≼-≺, less-decides      ==  strictly before
--   equal-eq, eq-equal, equal-sym        ==  the test of equality
--   leq-same                             ==  equal first values are passed over
use mathlib.Core.Path.{◌≡◌, refl, sym, ap, ap₂, ◌∙◌}
use mathlib.Core.List.{List, [], ◌∷◌}
use mathlib.Core.Bool.{Bool, true, false, true≢false, not}
use mathlib.Core.Logic.{◌⊎◌, inl, inr, ◌↔◌}
use Prim.Native.Nat.{ℕ, zero, suc, ◌+◌, ◌≤◌, ◌<◌}
use native.Mathlib.Nat.{not-suc-le-zero}
use native.Mathlib.Decide.{ℕ_discrete, dec_lt}
use native.Mathlib.Omega.{arith}
use lib.ListN.{length, get_or}
use lib.Dec.{eqb}
use borrow.Author.Tests.{lt-ltb, le-ltb, eq-eqb, ne_eqb, eqb-true, not-true}
use Rattle.permutations.specs.Lists.{tabulate}
use Rattle.permutations.proofs.BoolLaws.{and_yes, yes_or_no, bool-ext}
use Rattle.permutations.proofs.ListLaws.{length-tabulate, at-tabulate, tabulate-ext}
use Rattle.grids.specs.Order.{rank, ◌≼◌, ◌≺◌, FirstUnequal, leq, less, equal}

pub rank-injective : (x y : ℕ) → rank x ≡ rank y → x ≡ y
unfolding rank
rank-injective x y e = e

pub trichotomy : (x y : ℕ) → (rank x < rank y) ⊎ ((x ≡ y) ⊎ (rank y < rank x))
trichotomy x y = go (dec_lt (rank x) (rank y)) (ℕ_discrete (rank x) (rank y))
  where
    go : Dec (rank x < rank y) → Dec (rank x ≡ rank y) → (rank x < rank y) ⊎ ((x ≡ y) ⊎ (rank y < rank x))
    go (yes h) d = inl h
    go (no h) (yes e) = inr (inl (rank-injective x y e))
    go (no h) (no ne) = inr (inr (omega arith))

pub rank-antisymm : (x y : ℕ) → rank x ≤ rank y → rank y ≤ rank x → x ≡ y
rank-antisymm x y h k = rank-injective x y (omega arith)

pub rank-cap : (v : ℕ) → v ≤ 15 → rank v ≤ 15
unfolding rank
rank-cap v h = h

-- ---- a total order

pub ≼_refl : (a : List ℕ) → a ≼ a
≼_refl [] = tt
≼_refl (x ∷ a) = inr (refl, ≼_refl a)

pub ≼_trans : (a b c : List ℕ) → a ≼ b → b ≼ c → a ≼ c
≼_trans [] b c h k = tt
≼_trans (x ∷ a) [] c h k = absurd h
≼_trans (x ∷ a) (y ∷ b) [] h k = absurd k
≼_trans (x ∷ a) (y ∷ b) (z ∷ c) h k = go (≼_trans a b c) h k
  where
    go : (a ≼ b → b ≼ c → a ≼ c) → (rank x < rank y) ⊎ ((x ≡ y) × (a ≼ b)) → (rank y < rank z) ⊎ ((y ≡ z) × (b ≼ c)) → (rank x < rank z) ⊎ ((x ≡ z) × (a ≼ c))
    go ih (inl l) (inl r) = inl (omega arith)
    go ih (inl l) (inr r) = inl (rw (← r.0) l)
    go ih (inr l) (inl r) = inl (rw l.0 r)
    go ih (inr l) (inr r) = inr (l.0 ∙ r.0, ih l.1 r.1)

pub ≼-antisymm : (a b : List ℕ) → a ≼ b → b ≼ a → a ≡ b
≼-antisymm [] [] h k = refl
≼-antisymm [] (y ∷ b) h k = absurd k
≼-antisymm (x ∷ a) [] h k = absurd h
≼-antisymm (x ∷ a) (y ∷ b) h k = go (≼-antisymm a b) h k
  where
    go : (a ≼ b → b ≼ a → a ≡ b) → (rank x < rank y) ⊎ ((x ≡ y) × (a ≼ b)) → (rank y < rank x) ⊎ ((y ≡ x) × (b ≼ a)) → ◌≡◌ {A = List ℕ} (x ∷ a) (y ∷ b)
    go ih (inl l) (inl r) = absurd (omega arith)
    go ih (inl l) (inr r) = let e : rank x ≡ rank y = ap rank (sym r.0) in absurd (omega arith)
    go ih (inr l) (inl r) = let e : rank x ≡ rank y = ap rank l.0 in absurd (omega arith)
    go ih (inr l) (inr r) = ap₂ (λ (u : ℕ) (v : List ℕ). u ∷ v) l.0 (ih l.1 r.1)

-- ---- the test

leq-less : (x y : ℕ) (a b : List ℕ) → rank x < rank y → leq (x ∷ a) (y ∷ b) ≡ true
unfolding leq
leq-less x y a b h = rw (lt-ltb (rank x) (rank y) h)

pub leq-same : (x y : ℕ) (a b : List ℕ) → x ≡ y → leq (x ∷ a) (y ∷ b) ≡ leq a b
unfolding leq
leq-same x y a b h = let e : rank x ≡ rank y = ap rank h in rw (le-ltb (rank x) (rank y) (omega arith), eq-eqb x y h)

leq-more : (x y : ℕ) (a b : List ℕ) → rank y < rank x → leq (x ∷ a) (y ∷ b) ≡ false
unfolding leq
leq-more x y a b h = rw (le-ltb (rank x) (rank y) (omega arith), ne_eqb x y (λ e. let d : rank x ≡ rank y = ap rank e in omega arith))

-- what a yes and a no of the test mean
pub leq-spec : (a b : List ℕ) → ((leq a b ≡ true) × (a ≼ b)) ⊎ ((leq a b ≡ false) × (b ≼ a))
unfolding leq
leq-spec [] b = inl (refl, tt)
leq-spec (x ∷ a) [] = inr (refl, tt)
leq-spec (x ∷ a) (y ∷ b) = go (leq-spec a b) (trichotomy x y)
  where
    Out : Type 0
    Out = ((leq (x ∷ a) (y ∷ b) ≡ true) × ((x ∷ a) ≼ (y ∷ b))) ⊎ ((leq (x ∷ a) (y ∷ b) ≡ false) × ((y ∷ b) ≼ (x ∷ a)))

    go : ((leq a b ≡ true) × (a ≼ b)) ⊎ ((leq a b ≡ false) × (b ≼ a)) → (rank x < rank y) ⊎ ((x ≡ y) ⊎ (rank y < rank x)) → Out
    go ih (inl h) = inl (leq-less x y a b h, inl h)
    go (inl i) (inr (inl e)) = inl (leq-same x y a b e ∙ i.0, inr (e, i.1))
    go (inr i) (inr (inl e)) = inr (leq-same x y a b e ∙ i.0, inr (sym e, i.1))
    go ih (inr (inr h)) = inr (leq-more x y a b h, inl h)

pub ≼-total : (a b : List ℕ) → (a ≼ b) ⊎ (b ≼ a)
≼-total a b = go (leq-spec a b)
  where
    go : ((leq a b ≡ true) × (a ≼ b)) ⊎ ((leq a b ≡ false) × (b ≼ a)) → (a ≼ b) ⊎ (b ≼ a)
    go (inl h) = inl h.1
    go (inr h) = inr h.1

pub leq-yes : (a b : List ℕ) → leq a b ≡ true → a ≼ b
leq-yes a b e = go (leq-spec a b)
  where
    go : ((leq a b ≡ true) × (a ≼ b)) ⊎ ((leq a b ≡ false) × (b ≼ a)) → a ≼ b
    go (inl h) = h.1
    go (inr h) = absurd (true≢false (sym e ∙ h.0))

pub ≼-leq : (a b : List ℕ) → a ≼ b → leq a b ≡ true
unfolding leq
≼-leq [] b h = refl
≼-leq (x ∷ a) [] h = absurd h
≼-leq (x ∷ a) (y ∷ b) h = go (≼-leq a b) h
  where
    go : (a ≼ b → leq a b ≡ true) → (rank x < rank y) ⊎ ((x ≡ y) × (a ≼ b)) → leq (x ∷ a) (y ∷ b) ≡ true
    go ih (inl l) = leq-less x y a b l
    go ih (inr l) = leq-same x y a b l.0 ∙ ih l.1

pub leq-decides : (a b : List ℕ) → (leq a b ≡ true) ↔ (a ≼ b)
leq-decides a b = (leq-yes a b, ≼-leq a b)

pub ≼-dec : (a b : List ℕ) → Dec (a ≼ b)
≼-dec a b = go (leq a b) refl
  where
    go : (t : Bool) → leq a b ≡ t → Dec (a ≼ b)
    go true e = yes (leq-yes a b e)
    go false e = no (λ h. true≢false (sym (≼-leq a b h) ∙ e))

-- ---- by index

pub agree-cons : (x y : ℕ) (a b : List ℕ) (k : ℕ) → x ≡ y → ((i : ℕ) → i < k → get_or a i 0 ≡ get_or b i 0) → (i : ℕ) → i < suc k → get_or (x ∷ a) i 0 ≡ get_or (y ∷ b) i 0
agree-cons x y a b k e f zero h = e
agree-cons x y a b k e f (suc i) h = f i (omega arith)

pub agree-next : (a b : List ℕ) (k : ℕ) → ((i : ℕ) → i < k → get_or a i 0 ≡ get_or b i 0) → get_or a k 0 ≡ get_or b k 0 → (i : ℕ) → i < k + 1 → get_or a i 0 ≡ get_or b i 0
agree-next a b k f e i h = go (ℕ_discrete i k)
  where
    go : Dec (i ≡ k) → get_or a i 0 ≡ get_or b i 0
    go (yes z) = rw z e
    go (no z) = f i (omega arith)

pub ≼-by-index : (a b : List ℕ) → length a ≡ length b →
    ((k : ℕ) → k < length a → ((i : ℕ) → i < k → get_or a i 0 ≡ get_or b i 0) → rank (get_or a k 0) ≤ rank (get_or b k 0)) → a ≼ b
≼-by-index [] b e h = tt
≼-by-index (x ∷ a) [] e h = absurd (omega arith)
≼-by-index (x ∷ a) (y ∷ b) e h = go (≼-by-index a b (omega arith)) (trichotomy x y)
  where
    Step : Type 0
    Step = (k : ℕ) → k < length a → ((i : ℕ) → i < k → get_or a i 0 ≡ get_or b i 0) → rank (get_or a k 0) ≤ rank (get_or b k 0)

    later : x ≡ y → Step
    later p k c f = h (suc k) (omega arith) (agree-cons x y a b k p f)

    go : (Step → a ≼ b) → (rank x < rank y) ⊎ ((x ≡ y) ⊎ (rank y < rank x)) → (x ∷ a) ≼ (y ∷ b)
    go ih (inl l) = inl l
    go ih (inr (inl p)) = inr (p, ih (later p))
    go ih (inr (inr l)) = let z : rank x ≤ rank y = h 0 (omega arith) (λ i b. absurd (not-suc-le-zero b)) in absurd (omega arith)

pub ≼-at : (a b : List ℕ) → a ≼ b → (k : ℕ) → k < length a → k < length b → ((i : ℕ) → i < k → get_or a i 0 ≡ get_or b i 0) → rank (get_or a k 0) ≤ rank (get_or b k 0)
≼-at [] b h k c d f = absurd (not-suc-le-zero c)
≼-at (x ∷ a) [] h k c d f = absurd h
≼-at (x ∷ a) (y ∷ b) h zero c d f = go h
  where
    go : (rank x < rank y) ⊎ ((x ≡ y) × (a ≼ b)) → rank x ≤ rank y
    go (inl l) = omega arith
    go (inr l) = let e : rank x ≡ rank y = ap rank l.0 in omega arith
≼-at (x ∷ a) (y ∷ b) h (suc k) c d f = go h (λ t. ≼-at a b t k (omega arith) (omega arith) (λ i e. f (suc i) (omega arith)))
  where
    go : (rank x < rank y) ⊎ ((x ≡ y) × (a ≼ b)) → (a ≼ b → rank (get_or a k 0) ≤ rank (get_or b k 0)) → rank (get_or a k 0) ≤ rank (get_or b k 0)
    go (inl l) ih = let e : rank x ≡ rank y = ap rank (f 0 (omega arith)) in absurd (omega arith)
    go (inr l) ih = ih l.1

-- ---- the first unequal value

unequal-later : (x y : ℕ) (a b : List ℕ) → x ≡ y → FirstUnequal a b → FirstUnequal (x ∷ a) (y ∷ b)
unequal-later x y a b e f = record { index = suc f.index; inside = omega (arith, f.inside); before = agree-cons x y a b f.index e f.before; lower = f.lower }

≼-unequal : (a b : List ℕ) → length a ≡ length b → a ≼ b → (a ≡ b) ⊎ FirstUnequal a b
≼-unequal [] [] e h = inl refl
≼-unequal [] (y ∷ b) e h = absurd (omega arith)
≼-unequal (x ∷ a) [] e h = absurd h
≼-unequal (x ∷ a) (y ∷ b) e h = go (≼-unequal a b (omega arith)) h
  where
    lift : x ≡ y → (a ≡ b) ⊎ FirstUnequal a b → (◌≡◌ {A = List ℕ} (x ∷ a) (y ∷ b)) ⊎ FirstUnequal (x ∷ a) (y ∷ b)
    lift p (inl q) = inl (ap₂ (λ (u : ℕ) (v : List ℕ). u ∷ v) p q)
    lift p (inr f) = inr (unequal-later x y a b p f)

    go : (a ≼ b → (a ≡ b) ⊎ FirstUnequal a b) → (rank x < rank y) ⊎ ((x ≡ y) × (a ≼ b)) → (◌≡◌ {A = List ℕ} (x ∷ a) (y ∷ b)) ⊎ FirstUnequal (x ∷ a) (y ∷ b)
    go ih (inl l) = inr (record { index = 0; inside = omega arith; before = λ i b. absurd (not-suc-le-zero b); lower = l })
    go ih (inr l) = lift l.0 (ih l.1)

unequal-≼ : (a b : List ℕ) → length a ≡ length b → FirstUnequal a b → a ≼ b
unequal-≼ a b e f = ≼-by-index a b e λ k h same. go k h same (dec_lt k f.index) (dec_lt f.index k)
  where
    go : (k : ℕ) → k < length a → ((i : ℕ) → i < k → get_or a i 0 ≡ get_or b i 0) → Dec (k < f.index) → Dec (f.index < k) → rank (get_or a k 0) ≤ rank (get_or b k 0)
    go k h same (yes l) d = let q : rank (get_or a k 0) ≡ rank (get_or b k 0) = ap rank (f.before k l) in omega arith
    go k h same (no l) (yes r) =
        let q : rank (get_or a f.index 0) ≡ rank (get_or b f.index 0) = ap rank (same f.index r) in
        absurd (omega (arith, f.lower))
    go k h same (no l) (no r) = let q : k ≡ f.index = omega arith in rw q (omega (arith, f.lower))

pub first-unequal : (a b : List ℕ) → length a ≡ length b → (a ≼ b) ↔ ((a ≡ b) ⊎ FirstUnequal a b)
first-unequal a b e = (≼-unequal a b e, back)
  where
    back : (a ≡ b) ⊎ FirstUnequal a b → a ≼ b
    back (inl q) = rw q (≼_refl b)
    back (inr f) = unequal-≼ a b e f

-- ---- tabulated lists

pub ≼-pointwise : (n : ℕ) (u v : ℕ → ℕ) → ((j : ℕ) → j < n → rank (u j) ≤ rank (v j)) → tabulate 0 n u ≼ tabulate 0 n v
≼-pointwise n u v h =
    ≼-by-index (tabulate 0 n u) (tabulate 0 n v) (length-tabulate 0 n u ∙ sym (length-tabulate 0 n v)) λ k b same.
    let c : k < n = omega (arith, length-tabulate 0 n u) in
    rw (at-tabulate n u k 0 c, at-tabulate n v k 0 c) (h k c)

-- the value at t, where the lists are equal before t
pub tabulate-at : (n : ℕ) (u v : ℕ → ℕ) → tabulate 0 n u ≼ tabulate 0 n v → (t : ℕ) → t < n → ((i : ℕ) → i < t → u i ≡ v i) → rank (u t) ≤ rank (v t)
tabulate-at n u v h t tn same =
    rw (at-tabulate n u t 0 tn, at-tabulate n v t 0 tn) at
    (≼-at (tabulate 0 n u) (tabulate 0 n v) h t (omega (arith, length-tabulate 0 n u)) (omega (arith, length-tabulate 0 n v))
    (λ i it. at-tabulate n u i 0 (omega arith) ∙ same i it ∙ sym (at-tabulate n v i 0 (omega arith))))

pub tabulate-by-index : (n : ℕ) (u v : ℕ → ℕ) → ((t : ℕ) → t < n → ((i : ℕ) → i < t → u i ≡ v i) → rank (u t) ≤ rank (v t)) → tabulate 0 n u ≼ tabulate 0 n v
tabulate-by-index n u v h =
    ≼-by-index (tabulate 0 n u) (tabulate 0 n v) (length-tabulate 0 n u ∙ sym (length-tabulate 0 n v)) λ t tl same.
    let tn : t < n = omega (arith, length-tabulate 0 n u) in
    rw (at-tabulate n u t 0 tn, at-tabulate n v t 0 tn)
    (h t tn λ i it. sym (at-tabulate n u i 0 (omega arith)) ∙ same i it ∙ at-tabulate n v i 0 (omega arith))

pub ≼-prefix : (m k : ℕ) (u v : ℕ → ℕ) → k ≤ m → tabulate 0 m u ≼ tabulate 0 m v → tabulate 0 k u ≼ tabulate 0 k v
≼-prefix m k u v km h = tabulate-by-index k u v λ t tk same. tabulate-at m u v h t (omega arith) same

-- what precedes strictly in the leading values precedes as a whole
pub ≼-lead : (size k : ℕ) (u v : ℕ → ℕ) → k ≤ size → tabulate 0 k u ≼ tabulate 0 k v → (tabulate 0 k u ≡ tabulate 0 k v → ⊥) → tabulate 0 size u ≼ tabulate 0 size v
≼-lead size k u v ks h ne = tabulate-by-index size u v λ t ts same. go t same (dec_lt t k)
  where
    go : (t : ℕ) → ((i : ℕ) → i < t → u i ≡ v i) → Dec (t < k) → rank (u t) ≤ rank (v t)
    go t same (yes tk) = tabulate-at k u v h t tk same
    go t same (no tk) = absurd (ne (tabulate-ext 0 k u v (λ i ik. same i (omega arith))))

-- ---- strictly before, and equal

pub ≺-≼ : (a b : List ℕ) → a ≺ b → a ≼ b
≺-≼ a b h = go (≼-total a b)
  where
    go : (a ≼ b) ⊎ (b ≼ a) → a ≼ b
    go (inl l) = l
    go (inr l) = absurd (h l)

pub ≺-trans : (a b c : List ℕ) → a ≺ b → b ≺ c → a ≺ c
≺-trans a b c h k l = h (≼_trans b c a (≺-≼ b c k) l)

pub ≼-≺ : (a b : List ℕ) → a ≼ b → (a ≡ b → ⊥) → a ≺ b
≼-≺ a b h ne l = ne (≼-antisymm a b h l)

pub less-decides : (a b : List ℕ) → (less a b ≡ true) ↔ (a ≺ b)
unfolding less
less-decides a b = (λ e h. true≢false (sym (≼-leq b a h) ∙ not-true (leq b a) e), λ h. go h (yes_or_no (leq b a)))
  where
    go : a ≺ b → (leq b a ≡ true) ⊎ (leq b a ≡ false) → not (leq b a) ≡ true
    go h (inl e) = absurd (h (leq-yes b a e))
    go h (inr e) = rw e

pub equal-eq : (a b : List ℕ) → equal a b ≡ true → a ≡ b
unfolding equal
equal-eq [] [] e = refl
equal-eq [] (y ∷ b) e = absurd (true≢false (sym e))
equal-eq (x ∷ a) [] e = absurd (true≢false (sym e))
equal-eq (x ∷ a) (y ∷ b) e =
    let p = and_yes (eqb x y) (equal a b) e in
    ap₂ (λ (u : ℕ) (v : List ℕ). u ∷ v) (eqb-true x y p.0) (equal-eq a b p.1)

equal-refl : (a : List ℕ) → equal a a ≡ true
unfolding equal
equal-refl [] = refl
equal-refl (x ∷ a) = rw (eq-eqb x x refl) (equal-refl a)

pub eq-equal : (a b : List ℕ) → a ≡ b → equal a b ≡ true
eq-equal a b e = rw (← e) (equal-refl a)

pub equal-sym : (a b : List ℕ) → equal a b ≡ equal b a
equal-sym a b = bool-ext (equal a b) (equal b a) (λ e. eq-equal b a (sym (equal-eq a b e))) (λ e. eq-equal a b (sym (equal-eq b a e)))
