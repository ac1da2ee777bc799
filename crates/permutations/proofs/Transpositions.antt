-- The permutation that exchanges two numbers.
--
--   exchange a b t         ==  b for a, a for b, and any other number itself
--   exchange-first, exchange-second, exchange-other  ==  its values
--   exchange-within, exchange-once  ==  it stays below n, and no two numbers become one
--   transposition n a b    ==  the permutation of size n that exchanges a and b
--   transposition-permutation, at-transposition  ==  its laws
use mathlib.Core.Path.{◌≡◌, refl, sym, ◌∙◌}
use mathlib.Core.List.{List}
use mathlib.Core.Logic.{◌⊎◌, inl, inr}
use Prim.Native.Nat.{ℕ, ◌<◌}
use native.Mathlib.Decide.{ℕ_discrete}
use native.Mathlib.Omega.{arith}
use lib.ListN.{get_or}
use Rattle.permutations.specs.Lists.{tabulate}
use Rattle.permutations.specs.Permutations.{IsPermutation}
use Rattle.permutations.proofs.ListLaws.{length-tabulate, at-tabulate}

exchanged : (a b t : ℕ) → Dec (t ≡ a) → Dec (t ≡ b) → ℕ
exchanged a b t (yes p) e = b
exchanged a b t (no p) (yes q) = a
exchanged a b t (no p) (no q) = t

pub exchange : ℕ → ℕ → ℕ → ℕ
exchange a b t = exchanged a b t (ℕ_discrete t a) (ℕ_discrete t b)

-- x is what t becomes
abbrev Exchanged : ℕ → ℕ → ℕ → ℕ → Type 0
Exchanged a b t x = ((t ≡ a) × (x ≡ b)) ⊎ (((t ≡ b) × (x ≡ a)) ⊎ ((t ≡ a → ⊥) × (t ≡ b → ⊥) × (x ≡ t)))

exchange-cases : (a b t : ℕ) → Exchanged a b t (exchange a b t)
unfolding exchange exchanged
exchange-cases a b t = go (ℕ_discrete t a) (ℕ_discrete t b)
  where
    go : (d : Dec (t ≡ a)) (e : Dec (t ≡ b)) → Exchanged a b t (exchanged a b t d e)
    go (yes p) e = inl (p, refl)
    go (no p) (yes q) = inr (inl (q, refl))
    go (no p) (no q) = inr (inr (p, q, refl))

pub exchange-first : (a b : ℕ) → exchange a b a ≡ b
exchange-first a b = go (exchange a b a) (exchange-cases a b a)
  where
    go : (x : ℕ) → Exchanged a b a x → x ≡ b
    go x (inl h) = h.1
    go x (inr (inl h)) = h.1 ∙ h.0
    go x (inr (inr h)) = absurd (h.0 refl)

pub exchange-second : (a b : ℕ) → exchange a b b ≡ a
exchange-second a b = go (exchange a b b) (exchange-cases a b b)
  where
    go : (x : ℕ) → Exchanged a b b x → x ≡ a
    go x (inl h) = h.1 ∙ h.0
    go x (inr (inl h)) = h.1
    go x (inr (inr h)) = absurd (h.1 refl)

pub exchange-other : (a b t : ℕ) → (t ≡ a → ⊥) → (t ≡ b → ⊥) → exchange a b t ≡ t
exchange-other a b t na nb = go (exchange a b t) (exchange-cases a b t)
  where
    go : (x : ℕ) → Exchanged a b t x → x ≡ t
    go x (inl h) = absurd (na h.0)
    go x (inr (inl h)) = absurd (nb h.0)
    go x (inr (inr h)) = h.2

pub exchange-within : (n a b t : ℕ) → a < n → b < n → t < n → exchange a b t < n
exchange-within n a b t an bn tn = go (exchange a b t) (exchange-cases a b t)
  where
    go : (x : ℕ) → Exchanged a b t x → x < n
    go x (inl h) = omega arith
    go x (inr (inl h)) = omega arith
    go x (inr (inr h)) = omega arith

pub exchange-once : (a b s t : ℕ) → exchange a b s ≡ exchange a b t → s ≡ t
exchange-once a b s t e = go (exchange a b s) (exchange a b t) e (exchange-cases a b s) (exchange-cases a b t)
  where
    go : (x y : ℕ) → x ≡ y → Exchanged a b s x → Exchanged a b t y → s ≡ t
    go x y e (inl h) (inl k) = omega arith
    go x y e (inl h) (inr (inl k)) = omega arith
    go x y e (inl h) (inr (inr k)) = omega arith
    go x y e (inr (inl h)) (inl k) = omega arith
    go x y e (inr (inl h)) (inr (inl k)) = omega arith
    go x y e (inr (inl h)) (inr (inr k)) = omega arith
    go x y e (inr (inr h)) (inl k) = omega arith
    go x y e (inr (inr h)) (inr (inl k)) = omega arith
    go x y e (inr (inr h)) (inr (inr k)) = omega arith

pub transposition : ℕ → ℕ → ℕ → List ℕ
transposition n a b = tabulate 0 n (exchange a b)

pub at-transposition : (n a b i : ℕ) → i < n → get_or (transposition n a b) i 0 ≡ exchange a b i
unfolding transposition
at-transposition n a b i h = at-tabulate n (exchange a b) i 0 h

pub transposition-permutation : (n a b : ℕ) → a < n → b < n → IsPermutation n (transposition n a b)
unfolding transposition
transposition-permutation n a b an bn = record {
  size = length-tabulate 0 n (exchange a b);
  within = λ t tn. rw (at-transposition n a b t tn) (exchange-within n a b t an bn tn);
  once = λ s t sn tn e. exchange-once a b s t (sym (at-transposition n a b s sn) ∙ e ∙ at-transposition n a b t tn);
}
