-- Laws of the length of the common prefix.
--
--   PartAt k a b      ==  a and b part at k: the k values before are equal, and those at k are not, or a list has ended
--   prefix-part, prefix-unique  ==  two lists part where their common prefix ends, and nowhere else
--   prefix-sym        ==  exchanging the lists changes nothing
--   prefix-all        ==  two lists of one length are equal exactly where all values agree
--   Decided k a b     ==  a and b part at k, inside both, and the values there decide which comes first
--   unequal-decided   ==  so do two lists of one length that are not equal, at the end of their common prefix
use mathlib.Core.Path.{◌≡◌, sym, ap, ◌∙◌}
use mathlib.Core.List.{List, [], ◌∷◌}
use mathlib.Core.Logic.{◌⊎◌, inl, inr, ◌↔◌}
use Prim.Native.Nat.{ℕ, zero, suc, ◌≤◌, ◌<◌}
use native.Mathlib.Nat.{not-suc-le-zero}
use native.Mathlib.Decide.{ℕ_discrete}
use native.Mathlib.Omega.{arith}
use lib.ListN.{length, get_or}
use lib.Seq.{ext_get_or}
use borrow.Author.Tests.{eq-eqb, ne_eqb}
use Rattle.grids.specs.Order.{rank}
use Rattle.grids.specs.CommonPrefix.{common_prefix_length}
use Rattle.grids.specs.Comparisons.{compared, compared_cells}
use Rattle.grids.proofs.OrderLaws.{trichotomy, agree-cons}
use Rattle.grids.proofs.ComparisonLaws.{decided-less, decided-greater, first-less, first-greater}

-- ---- by the first values

prefix_same : (x y : ℕ) (a b : List ℕ) → x ≡ y → common_prefix_length (x ∷ a) (y ∷ b) ≡ suc (common_prefix_length a b)
unfolding common_prefix_length
prefix_same x y a b e = rw (eq-eqb x y e, common_prefix_length)

prefix-none : (x y : ℕ) (a b : List ℕ) → (x ≡ y → ⊥) → common_prefix_length (x ∷ a) (y ∷ b) ≡ 0
unfolding common_prefix_length
prefix-none x y a b h = rw (ne_eqb x y h, common_prefix_length)

-- ---- where two lists part

pub record PartAt (k : ℕ) (a b : List ℕ) : Type 0 where
  pub within : (k ≤ length a) × (k ≤ length b)
  pub before : (i : ℕ) → i < k → get_or a i 0 ≡ get_or b i 0
  pub apart : k < length a → k < length b → get_or a k 0 ≡ get_or b k 0 → ⊥

pub prefix-unique : (k : ℕ) (a b : List ℕ) → PartAt k a b → k ≡ common_prefix_length a b
unfolding common_prefix_length
prefix-unique k [] b p = omega (arith, p.within.0)
prefix-unique k (x ∷ a) [] p = omega (arith, p.within.1)
prefix-unique zero (x ∷ a) (y ∷ b) p = sym (prefix-none x y a b (p.apart (omega arith) (omega arith)))
prefix-unique (suc k) (x ∷ a) (y ∷ b) p = ap suc (prefix-unique k a b rest) ∙ sym (prefix_same x y a b (p.before 0 (omega arith)))
  where
    rest : PartAt k a b
    rest = record {
      within = (omega (arith, p.within.0), omega (arith, p.within.1));
      before = λ i h. p.before (suc i) (omega arith);
      apart = λ h l. p.apart (omega arith) (omega arith);
    }

none_before : (a b : List ℕ) → (0 < length a → 0 < length b → get_or a 0 0 ≡ get_or b 0 0 → ⊥) → PartAt 0 a b
none_before a b h = record { within = (omega arith, omega arith); before = λ i l. absurd (not-suc-le-zero l); apart = h }

one_more : (k x y : ℕ) (a b : List ℕ) → x ≡ y → PartAt k a b → PartAt (suc k) (x ∷ a) (y ∷ b)
one_more k x y a b e p = record {
  within = (omega (arith, p.within.0), omega (arith, p.within.1));
  before = agree-cons x y a b k e p.before;
  apart = λ h l. p.apart (omega arith) (omega arith);
}

pub prefix-part : (a b : List ℕ) → PartAt (common_prefix_length a b) a b
unfolding common_prefix_length
prefix-part [] b = none_before [] b (λ h. absurd (not-suc-le-zero h))
prefix-part (x ∷ a) [] = none_before (x ∷ a) [] (λ h l. absurd (not-suc-le-zero l))
prefix-part (x ∷ a) (y ∷ b) = go (prefix-part a b) (ℕ_discrete x y)
  where
    go : PartAt (common_prefix_length a b) a b → Dec (x ≡ y) → PartAt (common_prefix_length (x ∷ a) (y ∷ b)) (x ∷ a) (y ∷ b)
    go ih (yes e) = rw (prefix_same x y a b e) (one_more (common_prefix_length a b) x y a b e ih)
    go ih (no h) = rw (prefix-none x y a b h) (none_before (x ∷ a) (y ∷ b) (λ i j. h))

pub prefix-sym : (a b : List ℕ) → common_prefix_length a b ≡ common_prefix_length b a
prefix-sym a b =
    let p = prefix-part a b in
    prefix-unique (common_prefix_length a b) b a (record {
      within = (p.within.1, p.within.0);
      before = λ i h. sym (p.before i h);
      apart = λ h l e. p.apart l h (sym e);
    })

-- ---- lists of one length

pub prefix-all : (a b : List ℕ) → length a ≡ length b → (a ≡ b) ↔ (common_prefix_length a b ≡ length a)
prefix-all a b e = (all, back)
  where
    all : a ≡ b → common_prefix_length a b ≡ length a
    all q =
        sym (prefix-unique (length a) a b (record {
          within = (omega arith, omega arith);
          before = λ i h. ap (λ (l : List ℕ). get_or l i 0) q;
          apart = λ h. absurd (omega arith);
        }))

    back : common_prefix_length a b ≡ length a → a ≡ b
    back q = ext_get_or 0 a b e (λ i h. (prefix-part a b).before i (omega arith))

pub record Decided (k : ℕ) (a b : List ℕ) : Type 0 where
  pub parts : PartAt k a b
  pub inside : (k < length a) × (k < length b)
  pub decides : compared a b ≡ compared_cells (get_or a k 0) (get_or b k 0)

part-decides : (k : ℕ) (a b : List ℕ) → PartAt k a b → k < length a → k < length b → compared a b ≡ compared_cells (get_or a k 0) (get_or b k 0)
part-decides k a b p h l = go (trichotomy x y)
  where
    x : ℕ
    x = get_or a k 0

    y : ℕ
    y = get_or b k 0

    go : (rank x < rank y) ⊎ ((x ≡ y) ⊎ (rank y < rank x)) → compared a b ≡ compared_cells x y
    go (inl r) = decided-less k a b h l p.before r ∙ sym (first-less x y [] [] r)
    go (inr (inl q)) = absurd (p.apart h l q)
    go (inr (inr r)) = decided-greater k a b h l p.before r ∙ sym (first-greater x y [] [] r)

pub unequal-decided : (a b : List ℕ) → length a ≡ length b → (a ≡ b → ⊥) → Decided (common_prefix_length a b) a b
unequal-decided a b e ne = go (ℕ_discrete k (length a))
  where
    k : ℕ
    k = common_prefix_length a b

    p : PartAt k a b
    p = prefix-part a b

    go : Dec (k ≡ length a) → Decided k a b
    go (yes q) = absurd (ne ((prefix-all a b e).1 q))
    go (no q) =
        let h : k < length a = omega (arith, p.within.0) in
        let l : k < length b = omega arith in
        record { parts = p; inside = (h, l); decides = part-decides k a b p h l }
