-- Laws of a row that leads another: it comes no later than any permutation of it.
--
--   put_same, put_other, put_self  ==  the values of a row with one value replaced
--   put_all            ==  what holds of the new value, and of each other value, holds of all
--   put-ext, leads-ext  ==  only the values in the columns count
--   leads-self         ==  a row with one value put in its own place leads, or is led, as the row does
--   leads-toward       ==  a row still leads when its values fall and the other's rise
--   NoLater-≼, ≼-NoLater  ==  comparing from column 0 on
--   leads-sorted       ==  a row leads another exactly if it comes no later than the other sorted
--   agree_same, agree_differ  ==  rows that agree up to a column are equal before it, and differ at it
--   agree-no-later     ==  that column decides whether the one comes no later than the other
--   sorted-value       ==  each value of a row stands in its sorted row
use mathlib.Core.Path.{◌≡◌, refl, sym, ap, ◌∙◌}
use mathlib.Core.Bool.{true, false}
use mathlib.Core.Logic.{◌↔◌}
use Prim.Native.Nat.{ℕ, ◌-◌, ◌≤◌, ◌<◌}
use native.Mathlib.Decide.{ℕ_discrete, dec_lt}
use native.Mathlib.Omega.{arith}
use lib.ListN.{get_or}
use lib.Dec.{eqb}
use borrow.Author.Tests.{eq-eqb, ne_eqb}
use Rattle.permutations.specs.Lists.{tabulate}
use Rattle.permutations.proofs.ListLaws.{tabulate-ext}
use Rattle.permutations.proofs.PermutationLaws.{listed}
use Rattle.grids.specs.Order.{rank, ◌≼◌}
use Rattle.grids.proofs.OrderLaws.{≼_trans, ≼-pointwise, tabulate-at, tabulate-by-index}
use Rattle.grids.proofs.SortedColumns.{values-suffice}
use Rattle.bounds.specs.Rows.{put, Leads, IsSorted, AgreeTo, NoLater}

-- ---- one value replaced

pub put_same : (x : ℕ → ℕ) (c v : ℕ) → put x c v c ≡ v
unfolding put
put_same x c v = rw (eq-eqb c c refl, put)

pub put_other : (x : ℕ → ℕ) (c v j : ℕ) → (j ≡ c → ⊥) → put x c v j ≡ x j
unfolding put
put_other x c v j ne = rw (ne_eqb j c ne, put)

pub put_all : (P : ℕ → ℕ → Type 0) (x : ℕ → ℕ) (c v : ℕ) → P c v → ((j : ℕ) → (j ≡ c → ⊥) → P j (x j)) → (j : ℕ) → P j (put x c v j)
put_all P x c v h f j = go (ℕ_discrete j c)
  where
    go : Dec (j ≡ c) → P j (put x c v j)
    go (yes e) = rw (e, put_same x c v) h
    go (no ne) = rw (put_other x c v j ne) (f j ne)

pub put_self : (x : ℕ → ℕ) (c j : ℕ) → put x c (x c) j ≡ x j
put_self x c = put_all (λ j z. z ≡ x j) x c (x c) refl (λ j ne. refl)

pub put-ext : (x x' : ℕ → ℕ) (c v j : ℕ) → x j ≡ x' j → put x c v j ≡ put x' c v j
unfolding put
put-ext x x' c v j e = ap (λ (y : ℕ). elim (eqb j c) [ true ↦ v | false ↦ y ]) e

-- ---- leading

pub leads-ext : (n : ℕ) (x x' y y' : ℕ → ℕ) → ((j : ℕ) → j < n → x j ≡ x' j) → ((j : ℕ) → j < n → y j ≡ y' j) → Leads n x y → Leads n x' y'
unfolding Leads
leads-ext n x x' y y' e f h q o =
    rw (← (tabulate-ext 0 n x x' e), ← (tabulate-ext 0 n (λ j. y (get_or q j 0)) (λ j. y' (get_or q j 0)) (λ j b. f (get_or q j 0) (o.within j b)))) (h q o)

pub leads-self : (n : ℕ) (x y : ℕ → ℕ) (c v : ℕ) → v ≡ y c → Leads n x y → Leads n x (put y c v)
leads-self n x y c v e h = rw e (leads-ext n x x y _ (λ j b. refl) (λ j b. sym (put_self y c j)) h)

pub leads-toward : (n : ℕ) (x x' y y' : ℕ → ℕ) → ((j : ℕ) → j < n → rank (x' j) ≤ rank (x j)) → ((j : ℕ) → j < n → rank (y j) ≤ rank (y' j)) → Leads n x y → Leads n x' y'
unfolding Leads
leads-toward n x x' y y' e f h q o =
    ≼_trans (tabulate 0 n x') (tabulate 0 n x) _ (≼-pointwise n x' x e)
    (≼_trans (tabulate 0 n x) (tabulate 0 n (λ j. y (get_or q j 0))) _ (h q o) (≼-pointwise n _ _ (λ j b. f (get_or q j 0) (o.within j b))))

-- ---- by the sorted row

pub NoLater-≼ : (n : ℕ) (x s : ℕ → ℕ) → NoLater n x s 0 → tabulate 0 n x ≼ tabulate 0 n s
unfolding NoLater
NoLater-≼ n x s h = tabulate-by-index n x s (λ t b same. h t (omega arith) b (λ j j0 jt. same j jt))

pub ≼-NoLater : (n : ℕ) (x s : ℕ → ℕ) → tabulate 0 n x ≼ tabulate 0 n s → NoLater n x s 0
unfolding NoLater
≼-NoLater n x s h t t0 b same = tabulate-at n x s h t b (λ j jt. same j (omega arith) jt)

pub leads-sorted : {n : ℕ} {y s : ℕ → ℕ} (x : ℕ → ℕ) → IsSorted n y s → Leads n x y ↔ NoLater n x s 0
unfolding Leads
leads-sorted {n} {y} {s} x o = (
  λ h. ≼-NoLater n x s (rw same (h o.order o.permutation)),
  λ h. (values-suffice n (tabulate 0 n x) y o.order o.permutation up).0 (rw (← same) (NoLater-≼ n x s h)),
)
  where
    same : tabulate 0 n s ≡ tabulate 0 n (λ j. y (get_or o.order j 0))
    same = tabulate-ext 0 n _ _ o.values

    up : (a b : ℕ) → a ≤ b → b < n → rank (y (get_or o.order a 0)) ≤ rank (y (get_or o.order b 0))
    up a b ab bn = rw (← (o.values a (omega arith)), ← (o.values b bn)) (o.ascend a b ab bn)

pub sorted-value : {n : ℕ} {y s : ℕ → ℕ} (o : IsSorted n y s) (c : ℕ) → c < n → (p : ℕ) × (p < n) × (get_or o.order p 0 ≡ c)
sorted-value {n} o c b = listed n o.order o.permutation c b

-- ---- where two rows part

module _ {n : ℕ} {x s : ℕ → ℕ} {from at : ℕ} (g : AgreeTo n x s 0 from at) where
  pub agree_same : (t : ℕ) → from ≤ t → t < at → x t ≡ s t
  agree_same t ft ta = let e : t - 0 ≡ t = omega arith in g.equal t ft ta ∙ ap s e

  pub agree_differ : at < n → x at ≡ s at → ⊥
  agree_differ h e = let z : at - 0 ≡ at = omega arith in g.unequal h (e ∙ ap s (sym z))

  -- what is said from the column where they part
  pub agree-no-later : (at < n → rank (x at) ≤ rank (s at)) → NoLater n x s from
  unfolding NoLater
  agree-no-later h t ft tn eq = go (dec_lt t at) (ℕ_discrete t at)
    where
      go : Dec (t < at) → Dec (t ≡ at) → rank (x t) ≤ rank (s t)
      go (yes k) e = rw (agree_same t ft k) (omega arith)
      go (no k) (yes e) = rw e (h (omega arith))
      go (no k) (no e) = absurd (agree_differ (omega arith) (eq at g.from_on (omega arith)))
