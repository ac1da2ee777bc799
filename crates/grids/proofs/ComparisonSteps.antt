-- A comparison as a loop makes it: the values before i are equal, and what is left from i on decides.
--
--   cell-rank                   ==  the rank of a cell, by what the calls ensure of the cell, its row and its column
--   cells_at                    ==  the comparison of two cells, by what the calls ensure of their row
--   LeftFrom i m u n v a b      ==  comparing a with b finds what comparing u i, .., u (m - 1) with v i, .., v (n - 1) finds
--   left-tabulated, left-lists  ==  at the start all is left: of two tabulated lists, and of two lists by their entries
--   compared-as                 ==  the comparison of two values is that of values that are equal to them
--   unequal, not-unequal        ==  what a test for unequal values says of a comparison
--   values-compared             ==  the comparison of two values, by that of their ranks
--   left-decided, left_passed   ==  unequal values at i decide, equal ones are passed over
--   left-equal, left-shorter, left-longer  ==  both lists end at i, or only the first, or only the second
--   Passed i a b                ==  a and b agree before i, and what is left of them from i on decides
--   passed_none, passed-same    ==  at the start, and past equal values
--   passed-decided, passed-ended  ==  what comparing the two finds, and that they agree in i values: unequal values at i, or an end
use mathlib.Core.Path.{◌≡◌, refl, sym, ap, ap₂, ◌∙◌}
use mathlib.Core.List.{List, [], ◌∷◌}
use mathlib.Core.Bool.{Bool, true, false, true≢false}
use mathlib.Core.Logic.{⊎_elim}
use Prim.Native.Nat.{ℕ, suc, ◌+◌, ◌-◌, ◌≤◌, ◌<◌, min}
use native.Mathlib.Nat.{not-suc-le-zero, sub-zero}
use native.Mathlib.Numerals.{add-one}
use native.Mathlib.Omega.{arith}
use lib.ListN.{length, get_or}
use Rattle.permutations.specs.Lists.{tabulate}
use Rattle.permutations.proofs.ListLaws.{tabulate-get_or}
use Rattle.std.specs.declared.cmp.Ordering.{Ordering}
use Rattle.std.specs.declared.cmp.Ordering.TheVariants.{Less, Equal, Greater}
use Rattle.std.specs.Ordering.{is_eq, is_ne, nat_cmp}
use Rattle.std.proofs.lemmas.Cmp.{by_ranked, ranked}
use Rattle.grids.specs.Order.{rank}
use Rattle.grids.specs.Grids.{cell}
use Rattle.grids.specs.CommonPrefix.{common_prefix_length}
use Rattle.grids.specs.Comparisons.{compared, compared_cells, ComparesGrids}
use Rattle.grids.proofs.OrderLaws.{rank-antisymm, trichotomy, agree-next, leq-same}
use Rattle.grids.proofs.CommonPrefixLaws.{prefix-unique}
use Rattle.grids.proofs.ComparisonLaws.{less-compared, greater-compared, equal-compared, first-less, first-greater, equal-yes, equal-no}

pub cell-rank : (n : ℕ) (g : List ℕ) {x v i j k l : ℕ} → x ≡ rank v → v ≡ cell n g i j → i ≡ k → j ≡ l → x ≡ rank (cell n g k l)
cell-rank n g p q r s = cc

pub cells_at : (n : ℕ) (g : List ℕ) (a b : ℕ) {c : Ordering} {i k : ℕ} → i ≡ k → c ≡ compared_cells (cell n g i a) (cell n g i b) → c ≡ compared_cells (cell n g k a) (cell n g k b)
cells_at n g a b e f = rw (← e) f

pub compared-as : {x y v w : ℕ} {c : Ordering} → x ≡ v → y ≡ w → c ≡ compared_cells x y → c ≡ compared_cells v w
compared-as d e f = rw (← d, ← e) f

pub unequal : (c : Ordering) → true ≡ is_ne c → is_eq c ≡ false
unequal Less e = refl
unequal Equal e = absurd (true≢false e)
unequal Greater e = refl

pub not-unequal : (c : Ordering) → false ≡ is_ne c → is_eq c ≡ true
not-unequal Less e = absurd (true≢false (sym e))
not-unequal Equal e = refl
not-unequal Greater e = absurd (true≢false (sym e))

-- ---- by the first values

first-same : (x y : ℕ) (a b : List ℕ) → x ≡ y → compared (x ∷ a) (y ∷ b) ≡ compared a b
unfolding compared
first-same x y a b e =
    ap₂ (λ (s t : Bool). elim s [ true ↦ elim t [ true ↦ Equal | false ↦ Less ] | false ↦ Greater ])
    (leq-same x y a b e)
    (leq-same y x b a (sym e))

-- ---- two cells

pub values-compared : (v w : ℕ) {x y : ℕ} {c : Ordering} → x ≡ rank v → y ≡ rank w → c ≡ nat_cmp x y → c ≡ compared_cells v w
values-compared v w {x = x} {y = y} {c = c} p q e =
    by_ranked (x < y) (x ≡ y) (y < x) c (ranked x y c e)
    (λ s l. s ∙ sym (first-less v w [] [] (omega arith)))
    (λ s l. s ∙ sym (first-same v w [] [] (rank-antisymm v w (omega arith) (omega arith)) ∙ equal-compared [] [] refl))
    (λ s l. s ∙ sym (first-greater v w [] [] (omega arith)))

-- cells that are not equal decide
first-decides : (c : Ordering) (x y : ℕ) (a b : List ℕ) → c ≡ compared_cells x y → is_eq c ≡ false → c ≡ compared (x ∷ a) (y ∷ b)
first-decides c x y a b e f =
    ⊎_elim (λ l. e ∙ first-less x y [] [] l ∙ sym (first-less x y a b l))
    (⊎_elim (λ l. absurd (equal-no (x ∷ []) (y ∷ []) c false e (sym f) refl (ap (λ (z : ℕ). z ∷ []) l))) (λ l. e ∙ first-greater x y [] [] l ∙ sym (first-greater x y a b l)))
    (trichotomy x y)

-- ---- from an index on

next : (i n : ℕ) (u : ℕ → ℕ) → i < n → tabulate i (n - i) u ≡ u i ∷ tabulate (i + 1) (n - (i + 1)) u
unfolding tabulate
next i n u h = let e : n - i ≡ suc (n - (i + 1)) = omega arith in rw (e, add-one i)

none : (i n : ℕ) (u : ℕ → ℕ) → n ≤ i → tabulate i (n - i) u ≡ []
unfolding tabulate
none i n u h = let e : n - i ≡ 0 = omega arith in rw e

pub record LeftFrom (i m : ℕ) (u : ℕ → ℕ) (n : ℕ) (v : ℕ → ℕ) (a b : List ℕ) : Type 0 where
  pub left : compared (tabulate i (m - i) u) (tabulate i (n - i) v) ≡ compared a b

pub left-tabulated : (m : ℕ) (u : ℕ → ℕ) (n : ℕ) (v : ℕ → ℕ) → LeftFrom 0 m u n v (tabulate 0 m u) (tabulate 0 n v)
left-tabulated m u n v = record { left = rw (sub-zero m, sub-zero n) }

left-lists : (a b : List ℕ) → LeftFrom 0 (length a) (λ i. get_or a i 0) (length b) (λ i. get_or b i 0) a b
left-lists a b = record { left = rw (sub-zero (length a), sub-zero (length b), tabulate-get_or 0 a (length a) refl, tabulate-get_or 0 b (length b) refl) }

module _ {i m : ℕ} {u : ℕ → ℕ} {n : ℕ} {v : ℕ → ℕ} {a b : List ℕ} (d : LeftFrom i m u n v a b) where
  left_as : {s t : List ℕ} → tabulate i (m - i) u ≡ s → tabulate i (n - i) v ≡ t → compared s t ≡ compared a b
  left_as e f = ap₂ compared (sym e) (sym f) ∙ d.left

  pub left-equal : m ≤ i → n ≤ i → Equal ≡ compared a b
  left-equal h k = sym (equal-compared [] [] refl) ∙ left_as (none i m u h) (none i n v k)

  left-shorter : m ≤ i → i < n → Less ≡ compared a b
  left-shorter h k = sym (less-compared [] (v i ∷ tabulate (i + 1) (n - (i + 1)) v) (λ l. l)) ∙ left_as (none i m u h) (next i n v k)

  left-longer : i < m → n ≤ i → Greater ≡ compared a b
  left-longer h k = sym (greater-compared (u i ∷ tabulate (i + 1) (m - (i + 1)) u) [] (λ l. l)) ∙ left_as (next i m u h) (none i n v k)

  -- c is the comparison of the values at i
  module _ (h : i < m) (k : i < n) {c : Ordering} (e : c ≡ compared_cells (u i) (v i)) where
    pub left-decided : is_eq c ≡ false → c ≡ compared a b
    left-decided f = first-decides c (u i) (v i) _ _ e f ∙ left_as (next i m u h) (next i n v k)

    pub left_passed : is_eq c ≡ true → LeftFrom (i + 1) m u n v a b
    left_passed f =
        let z = ap (λ (l : List ℕ). get_or l 0 0) (equal-yes (u i ∷ []) (v i ∷ []) c true e (sym f) refl) in
        record { left = sym (first-same (u i) (v i) _ _ z) ∙ left_as (next i m u h) (next i n v k) }

-- ---- two grids

pub record Passed (i : ℕ) (a b : List ℕ) : Type 0 where
  pub left : LeftFrom i (length a) (λ t. get_or a t 0) (length b) (λ t. get_or b t 0) a b
  pub within : (i ≤ length a) × (i ≤ length b)
  pub before : (t : ℕ) → t < i → get_or a t 0 ≡ get_or b t 0

pub passed_none : (a b : List ℕ) → Passed 0 a b
passed_none a b = record { left = left-lists a b; within = (omega arith, omega arith); before = λ t h. absurd (not-suc-le-zero h) }

module _ {i : ℕ} {a b : List ℕ} (d : Passed i a b) where
  agreed : (i < length a → i < length b → get_or a i 0 ≡ get_or b i 0 → ⊥) → i ≡ common_prefix_length a b
  agreed h = prefix-unique i a b (record { within = d.within; before = d.before; apart = h })

  passed-equal : length a ≤ i → length b ≤ i → ComparesGrids a b (record { found = Equal; agreed = i })
  passed-equal h k = record { found-is = left-equal d.left h k; agreed-is = agreed (λ l. absurd (omega arith)) }

  passed-shorter : length a ≤ i → i < length b → ComparesGrids a b (record { found = Less; agreed = i })
  passed-shorter h k = record { found-is = left-shorter d.left h k; agreed-is = agreed (λ l. absurd (omega arith)) }

  passed-longer : i < length a → length b ≤ i → ComparesGrids a b (record { found = Greater; agreed = i })
  passed-longer h k = record { found-is = left-longer d.left h k; agreed-is = agreed (λ l m. absurd (omega arith)) }

  pub passed-ended : {k : ℕ} {c : Ordering} → k ≡ i → k ≡ min (length a) (length b) → c ≡ nat_cmp (length a) (length b) → ComparesGrids a b (record { found = c; agreed = k })
  passed-ended {c = c} h s e =
      rw h
      (by_ranked (length a < length b) (length a ≡ length b) (length b < length a) c (ranked (length a) (length b) c e)
      (λ f l. rw f (passed-shorter (omega arith) (omega arith)))
      (λ f l. rw f (passed-equal (omega arith) (omega arith)))
      (λ f l. rw f (passed-longer (omega arith) (omega arith))))

  -- both have a value at i, and c is their comparison
  module _ (h : i < length a) (k : i < length b) {c : Ordering} (e : c ≡ compared_cells (get_or a i 0) (get_or b i 0)) where
    pub passed-decided : is_eq c ≡ false → ComparesGrids a b (record { found = c; agreed = i })
    passed-decided f = record {
      found-is = left-decided d.left h k e f;
      agreed-is = agreed (λ l m s. equal-no (get_or a i 0 ∷ []) (get_or b i 0 ∷ []) c false e (sym f) refl (ap (λ (z : ℕ). z ∷ []) s));
    }

    pub passed-same : is_eq c ≡ true → Passed (i + 1) a b
    passed-same f = record {
      left = left_passed d.left h k e f;
      within = (omega arith, omega arith);
      before = agree-next a b i d.before (ap (λ (l : List ℕ). get_or l 0 0) (equal-yes (get_or a i 0 ∷ []) (get_or b i 0 ∷ []) c true e (sym f) refl));
    }
