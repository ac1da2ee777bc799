-- What a comparison says.
--
--   compared-equal, compared-less, compared-greater  ==  what each answer means
--   less-yes, less-no, equal-yes, equal-no, greater-yes, greater-no  ==  what the tests of a comparison say of the two lists
--   equal-compared, less-compared, greater-compared  ==  and where it is given
--   decided-less, decided-greater  ==  and by the first unequal values, wherever they stand
--   first-less, first-greater  ==  and by the first values, where those are unequal
use mathlib.Core.Path.{◌≡◌, refl, sym, ap, ◌∙◌}
use mathlib.Core.List.{List, ◌∷◌}
use mathlib.Core.Bool.{Bool, true, false, true≢false}
use Prim.Native.Nat.{ℕ, ◌<◌}
use native.Mathlib.Nat.{not-suc-le-zero}
use native.Mathlib.Omega.{arith}
use lib.ListN.{length, get_or}
use Rattle.std.specs.declared.cmp.Ordering.{Ordering}
use Rattle.std.specs.declared.cmp.Ordering.TheVariants.{Less, Equal, Greater}
use Rattle.grids.specs.Order.{rank, ◌≼◌, ◌≺◌, leq}
use Rattle.std.specs.Ordering.{is_lt, is_eq, is_gt}
use Rattle.grids.specs.Comparisons.{compared}
use Rattle.grids.proofs.OrderLaws.{≼_refl, ≼-antisymm, ≼-dec, ≼-at, ≺-≼, ≼-leq, leq-yes}

-- the answer by the two tests
picked : Bool → Bool → Ordering
picked true true = Equal
picked true false = Less
picked false t = Greater

compared-picks : (a b : List ℕ) (s t : Bool) → leq a b ≡ s → leq b a ≡ t → compared a b ≡ picked s t
unfolding compared picked
compared-picks a b true true e f = rw (e, f, compared)
compared-picks a b true false e f = rw (e, f, compared)
compared-picks a b false t e f = rw (e, compared)

pub compared-equal : (a b : List ℕ) → compared a b ≡ Equal → a ≡ b
unfolding picked
compared-equal a b c = go (leq a b) (leq b a) refl refl
  where
    go : (s t : Bool) → leq a b ≡ s → leq b a ≡ t → a ≡ b
    go true true e f = ≼-antisymm a b (leq-yes a b e) (leq-yes b a f)
    go true false e f = let d = compared-picks a b true false e f in let z : ◌≡◌ {A = ℕ} 0 1 = cc in absurd (omega arith)
    go false t e f = let d = compared-picks a b false t e f in let z : ◌≡◌ {A = ℕ} 0 1 = cc in absurd (omega arith)

pub compared-less : (a b : List ℕ) → compared a b ≡ Less → a ≺ b
unfolding picked
compared-less a b c h = go (leq a b) (leq b a) refl refl
  where
    go : (s t : Bool) → leq a b ≡ s → leq b a ≡ t → ⊥
    go true true e f = let d = compared-picks a b true true e f in let z : ◌≡◌ {A = ℕ} 0 1 = cc in omega arith
    go true false e f = true≢false (sym (≼-leq b a h) ∙ f)
    go false t e f = let d = compared-picks a b false t e f in let z : ◌≡◌ {A = ℕ} 0 1 = cc in omega arith

pub compared-greater : (a b : List ℕ) → compared a b ≡ Greater → b ≺ a
unfolding picked
compared-greater a b c h = go (leq b a) refl
  where
    go : (t : Bool) → leq b a ≡ t → ⊥
    go true f = let d = compared-picks a b true true (≼-leq a b h) f in let z : ◌≡◌ {A = ℕ} 0 1 = cc in omega arith
    go false f = let d = compared-picks a b true false (≼-leq a b h) f in let z : ◌≡◌ {A = ℕ} 0 1 = cc in omega arith

pub equal-compared : (a b : List ℕ) → a ≡ b → compared a b ≡ Equal
unfolding picked
equal-compared a b e =
    let r = ≼-leq b b (≼_refl b) in
    rw e (compared-picks b b true true r r)

pub less-compared : (a b : List ℕ) → a ≺ b → compared a b ≡ Less
unfolding picked
less-compared a b h = go (leq b a) refl
  where
    go : (t : Bool) → leq b a ≡ t → compared a b ≡ Less
    go true f = absurd (h (leq-yes b a f))
    go false f = compared-picks a b true false (≼-leq a b (≺-≼ a b h)) f

pub greater-compared : (a b : List ℕ) → b ≺ a → compared a b ≡ Greater
unfolding picked
greater-compared a b h = go (leq a b) refl
  where
    go : (s : Bool) → leq a b ≡ s → compared a b ≡ Greater
    go true e = absurd (h (leq-yes a b e))
    go false e = compared-picks a b false (leq b a) e refl

-- the values before k are equal, and those at k are not
module _ (k : ℕ) (a b : List ℕ) (h : k < length a) (l : k < length b) (before : (i : ℕ) → i < k → get_or a i 0 ≡ get_or b i 0) where
  pub decided-less : rank (get_or a k 0) < rank (get_or b k 0) → compared a b ≡ Less
  decided-less r = less-compared a b (λ le. let z = ≼-at b a le k l h (λ i c. sym (before i c)) in omega arith)

  pub decided-greater : rank (get_or b k 0) < rank (get_or a k 0) → compared a b ≡ Greater
  decided-greater r = greater-compared a b (λ le. let z = ≼-at a b le k h l before in omega arith)

pub first-less : (x y : ℕ) (a b : List ℕ) → rank x < rank y → compared (x ∷ a) (y ∷ b) ≡ Less
first-less x y a b l = decided-less 0 (x ∷ a) (y ∷ b) (omega arith) (omega arith) (λ i k. absurd (not-suc-le-zero k)) l

pub first-greater : (x y : ℕ) (a b : List ℕ) → rank y < rank x → compared (x ∷ a) (y ∷ b) ≡ Greater
first-greater x y a b l = decided-greater 0 (x ∷ a) (y ∷ b) (omega arith) (omega arith) (λ i k. absurd (not-suc-le-zero k)) l

-- ---- the tests of a comparison

less-is : (c : Ordering) → is_lt c ≡ true → c ≡ Less
less-is Less e = refl
less-is Equal e = absurd (true≢false (sym e))
less-is Greater e = absurd (true≢false (sym e))

equal_is : (c : Ordering) → is_eq c ≡ true → c ≡ Equal
equal_is Less e = absurd (true≢false (sym e))
equal_is Equal e = refl
equal_is Greater e = absurd (true≢false (sym e))

greater-is : (c : Ordering) → is_gt c ≡ true → c ≡ Greater
greater-is Less e = absurd (true≢false (sym e))
greater-is Equal e = absurd (true≢false (sym e))
greater-is Greater e = refl

-- t is what a test found of a comparison c of a and b
module _ (a b : List ℕ) (c : Ordering) (t : Bool) (found : c ≡ compared a b) where
  pub less-yes : t ≡ is_lt c → t ≡ true → a ≺ b
  less-yes f e = compared-less a b (sym found ∙ less-is c (sym f ∙ e))

  pub less-no : t ≡ is_lt c → t ≡ false → b ≼ a
  less-no f e = go (≼-dec b a)
    where
      go : Dec (b ≼ a) → b ≼ a
      go (yes h) = h
      go (no h) = absurd (true≢false (sym (f ∙ ap is_lt (found ∙ less-compared a b h)) ∙ e))

  pub equal-yes : t ≡ is_eq c → t ≡ true → a ≡ b
  equal-yes f e = compared-equal a b (sym found ∙ equal_is c (sym f ∙ e))

  pub equal-no : t ≡ is_eq c → t ≡ false → a ≡ b → ⊥
  equal-no f e h = true≢false (sym (f ∙ ap is_eq (found ∙ equal-compared a b h)) ∙ e)

  pub greater-yes : t ≡ is_gt c → t ≡ true → b ≺ a
  greater-yes f e = compared-greater a b (sym found ∙ greater-is c (sym f ∙ e))

  pub greater-no : t ≡ is_gt c → t ≡ false → a ≼ b
  greater-no f e = go (≼-dec a b)
    where
      go : Dec (a ≼ b) → a ≼ b
      go (yes h) = h
      go (no h) = absurd (true≢false (sym (f ∙ ap is_gt (found ∙ greater-compared a b h)) ∙ e))
