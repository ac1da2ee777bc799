-- Columns exchanged in one pair or in two.
--
--   exchange-back          ==  two numbers exchanged twice are back
--   twice c d c2 d2 j      ==  j with c and d exchanged, and c2 and d2
--   twice-first, twice-second, twice-third, twice-fourth, twice-other  ==  its values, where the pairs are apart
--   twice-within, twice-back  ==  it stays below n, and done twice it is back
use Rattle.std.proofs.Common.{◌≡◌, ℕ, ◌<◌, sym, ap, ◌∙◌}
use native.Mathlib.Decide.{ℕ_discrete}
use Rattle.permutations.proofs.Transpositions.{exchange, exchange-first, exchange-second, exchange-other, exchange-within}
use Rattle.search.specs.Domination.{Apart}

pub exchange-back : (c d j : ℕ) → exchange c d (exchange c d j) ≡ j
exchange-back c d j = go (ℕ_discrete j c) (ℕ_discrete j d)
  where
    go : Dec (j ≡ c) → Dec (j ≡ d) → exchange c d (exchange c d j) ≡ j
    go (yes a) b = rw (a, exchange-first c d) (exchange-second c d)
    go (no a) (yes b) = rw (b, exchange-second c d) (exchange-first c d)
    go (no a) (no b) = let e = exchange-other c d j a b in rw e e

pub twice : ℕ → ℕ → ℕ → ℕ → ℕ → ℕ
twice c d c2 d2 j = exchange c d (exchange c2 d2 j)

module _ (c d c2 d2 : ℕ) (h : Apart c d c2 d2) where
  pub twice-first : twice c d c2 d2 c ≡ d
  unfolding twice
  twice-first = ap (exchange c d) (exchange-other c2 d2 c h.first-first h.first-second) ∙ exchange-first c d

  pub twice-second : twice c d c2 d2 d ≡ c
  unfolding twice
  twice-second = ap (exchange c d) (exchange-other c2 d2 d h.second-first h.second-second) ∙ exchange-second c d

  pub twice-third : twice c d c2 d2 c2 ≡ d2
  unfolding twice
  twice-third = ap (exchange c d) (exchange-first c2 d2) ∙ exchange-other c d d2 (λ e. h.first-second (sym e)) (λ e. h.second-second (sym e))

  pub twice-fourth : twice c d c2 d2 d2 ≡ c2
  unfolding twice
  twice-fourth = ap (exchange c d) (exchange-second c2 d2) ∙ exchange-other c d c2 (λ e. h.first-first (sym e)) (λ e. h.second-first (sym e))

  pub twice-other : (j : ℕ) → (j ≡ c → ⊥) → (j ≡ d → ⊥) → (j ≡ c2 → ⊥) → (j ≡ d2 → ⊥) → twice c d c2 d2 j ≡ j
  unfolding twice
  twice-other j nc nd nc2 nd2 = ap (exchange c d) (exchange-other c2 d2 j nc2 nd2) ∙ exchange-other c d j nc nd

  pub twice-back : (j : ℕ) → twice c d c2 d2 (twice c d c2 d2 j) ≡ j
  twice-back j = go (ℕ_discrete j c) (ℕ_discrete j d) (ℕ_discrete j c2) (ℕ_discrete j d2)
    where
      go : Dec (j ≡ c) → Dec (j ≡ d) → Dec (j ≡ c2) → Dec (j ≡ d2) → twice c d c2 d2 (twice c d c2 d2 j) ≡ j
      go (yes e) q r s = rw (e, twice-first) twice-second
      go (no p) (yes e) r s = rw (e, twice-second) twice-first
      go (no p) (no q) (yes e) s = rw (e, twice-third) twice-fourth
      go (no p) (no q) (no r) (yes e) = rw (e, twice-fourth) twice-third
      go (no p) (no q) (no r) (no s) = let e = twice-other j p q r s in rw e e

pub twice-within : (n c d c2 d2 : ℕ) → c < n → d < n → c2 < n → d2 < n → (j : ℕ) → j < n → twice c d c2 d2 j < n
unfolding twice
twice-within n c d c2 d2 cn dn cn2 dn2 j jn = exchange-within n c d (exchange c2 d2 j) cn dn (exchange-within n c2 d2 j cn2 dn2 jn)
