-- The elements of a list that pass a test, and how often a number occurs.
--
--   select_yes, select_no      ==  the first element passes the test, or fails it
--   in-select, of-select       ==  membership
--   select-ext, select-within  ==  tests that agree on the list; of a test and a wider one the first decides
--   select-none, length-select, select-split  ==  none passes; at most all pass; each passes or fails
--   occurs-at                  ==  a number that occurs stands somewhere
--   once-occurs                ==  a number that stands at one index alone occurs once
use mathlib.Core.Path.{◌≡◌, refl, sym, ap, ◌∙◌}
use mathlib.Core.List.Memᴰ
use mathlib.Core.List.{List, [], ◌∷◌, Memᴰ}
use mathlib.Core.Bool.{Bool, true, false, true≢false, not}
use mathlib.Core.Logic.{◌⊎◌, inl, inr}
use Prim.Native.Nat.{ℕ, zero, suc, ◌+◌, ◌≤◌, ◌<◌}
use native.Mathlib.Nat.{not-suc-le-zero}
use native.Mathlib.Omega.{arith}
use lib.ListN.{length, get_or}
use lib.Dec.{eqb}
use borrow.Author.Tests.{eq-eqb, ne_eqb, eqb-true}
use Rattle.permutations.specs.Lists.{select, occurrences}
use Rattle.permutations.proofs.ListLaws.{mem-at, of_mem, no_member}

module _ {ℓ} {A : Type ℓ} where
  pub select_yes : (t : A → Bool) (x : A) (l : List A) → t x ≡ true → select t (x ∷ l) ≡ x ∷ select t l
  unfolding select
  select_yes t x l e = rw (e, select)

  pub select_no : (t : A → Bool) (x : A) (l : List A) → t x ≡ false → select t (x ∷ l) ≡ select t l
  unfolding select
  select_no t x l e = rw (e, select)

  pub in-select : (t : A → Bool) (x : A) (l : List A) → Memᴰ x l → t x ≡ true → Memᴰ x (select t l)
  in-select t x [] h e = absurd (Memᴰ.not-nil h)
  in-select t x (y ∷ l) h e = go (λ m. in-select t x l m e) (Memᴰ.cases_cons h) (t y) refl
    where
      go : (Memᴰ x l → Memᴰ x (select t l)) → (x ≡ y) ⊎ Memᴰ x l → (b : Bool) → t y ≡ b → Memᴰ x (select t (y ∷ l))
      go ih (inl p) true d = rw (select_yes t y l d) (Memᴰ.head p)
      go ih (inl p) false d = absurd (true≢false (sym e ∙ ap t p ∙ d))
      go ih (inr m) true d = rw (select_yes t y l d) (Memᴰ.tail (ih m))
      go ih (inr m) false d = rw (select_no t y l d) (ih m)

  pub of-select : (t : A → Bool) (x : A) (l : List A) → Memᴰ x (select t l) → Memᴰ x l × (t x ≡ true)
  unfolding select
  of-select t x [] h = absurd (Memᴰ.not-nil h)
  of-select t x (y ∷ l) h = go (of-select t x l) (t y) refl
    where
      fork : (Memᴰ x (select t l) → Memᴰ x l × (t x ≡ true)) → t y ≡ true → (x ≡ y) ⊎ Memᴰ x (select t l) → Memᴰ x (y ∷ l) × (t x ≡ true)
      fork ih d (inl e) = (Memᴰ.head e, ap t e ∙ d)
      fork ih d (inr m) = (Memᴰ.tail (ih m).0, (ih m).1)

      go : (Memᴰ x (select t l) → Memᴰ x l × (t x ≡ true)) → (b : Bool) → t y ≡ b → Memᴰ x (y ∷ l) × (t x ≡ true)
      go ih true d = fork ih d (Memᴰ.cases_cons (rw (select_yes t y l d) at h))
      go ih false d = let r = ih (rw (select_no t y l d) at h) in (Memᴰ.tail r.0, r.1)

  pub select-ext : (t u : A → Bool) (l : List A) → ((x : A) → Memᴰ x l → t x ≡ u x) → select t l ≡ select u l
  unfolding select
  select-ext t u [] h = refl
  select-ext t u (x ∷ l) h = go (t x) refl (select-ext t u l (λ y m. h y (Memᴰ.tail m)))
    where
      go : (b : Bool) → t x ≡ b → select t l ≡ select u l → select t (x ∷ l) ≡ select u (x ∷ l)
      go true e ih = select_yes t x l e ∙ ap (λ (y : List A). x ∷ y) ih ∙ sym (select_yes u x l (sym (h x (Memᴰ.head refl)) ∙ e))
      go false e ih = select_no t x l e ∙ ih ∙ sym (select_no u x l (sym (h x (Memᴰ.head refl)) ∙ e))

  pub select-none : (t : A → Bool) (l : List A) → ((x : A) → Memᴰ x l → t x ≡ true → ⊥) → select t l ≡ []
  select-none t l h = no_member (select t l) λ x m. let r = of-select t x l m in h x r.0 r.1

  pub length-select : (t : A → Bool) (l : List A) → length (select t l) ≤ length l
  unfolding select
  length-select t [] = omega arith
  length-select t (x ∷ l) = go (t x) refl (length-select t l)
    where
      go : (b : Bool) → t x ≡ b → length (select t l) ≤ length l → length (select t (x ∷ l)) ≤ suc (length l)
      go true e ih = rw (select_yes t x l e) (omega arith)
      go false e ih = rw (select_no t x l e) (omega arith)

  -- each element passes a test or fails it
  pub select-split : (t : A → Bool) (l : List A) → length (select t l) + length (select (λ x. not (t x)) l) ≡ length l
  unfolding select
  select-split t [] = refl
  select-split t (x ∷ l) = go (t x) refl (select-split t l)
    where
      go : (b : Bool) → t x ≡ b → length (select t l) + length (select (λ y. not (t y)) l) ≡ length l →
          length (select t (x ∷ l)) + length (select (λ y. not (t y)) (x ∷ l)) ≡ suc (length l)
      go true e ih = rw (select_yes t x l e, select_no (λ y. not (t y)) x l (rw e)) (omega arith)
      go false e ih = rw (select_no t x l e, select_yes (λ y. not (t y)) x l (rw e)) (omega arith)

  -- of a test and a wider one the first decides
  pub select-within : (t u : A → Bool) (l : List A) → ((x : A) → Memᴰ x l → t x ≡ true → u x ≡ true) → select t (select u l) ≡ select t l
  unfolding select
  select-within t u [] h = refl
  select-within t u (x ∷ l) h = go (u x) refl (t x) refl (select-within t u l (λ y m. h y (Memᴰ.tail m)))
    where
      go : (c : Bool) → u x ≡ c → (b : Bool) → t x ≡ b → select t (select u l) ≡ select t l → select t (select u (x ∷ l)) ≡ select t (x ∷ l)
      go true d true e ih = rw (select_yes u x l d, select_yes t x (select u l) e, select_yes t x l e) (ap (λ (y : List A). x ∷ y) ih)
      go true d false e ih = rw (select_yes u x l d, select_no t x (select u l) e, select_no t x l e) ih
      go false d true e ih = absurd (true≢false (sym (h x (Memᴰ.head refl) e) ∙ d))
      go false d false e ih = rw (select_no u x l d, select_no t x l e) ih

-- ---- how often a number occurs

pub occurs-at : (k : ℕ) (l : List ℕ) → 0 < occurrences k l → (i : ℕ) × (i < length l) × (get_or l i 0 ≡ k)
unfolding occurrences
occurs-at k l h =
    let m = mem-at (select (eqb k) l) 0 0 h in
    let s = of-select (eqb k) (get_or (select (eqb k) l) 0 0) l m in
    let r = of_mem l 0 (get_or (select (eqb k) l) 0 0) s.0 in
    (r.0, r.1, sym r.2 ∙ sym (eqb-true k (get_or (select (eqb k) l) 0 0) s.1))

-- a number that stands at one index alone occurs once
pub once-occurs : (k : ℕ) (l : List ℕ) (i : ℕ) → i < length l → get_or l i 0 ≡ k → ((j : ℕ) → j < length l → get_or l j 0 ≡ k → j ≡ i) → occurrences k l ≡ 1
unfolding occurrences
once-occurs k [] i h e one = absurd (not-suc-le-zero h)
once-occurs k (x ∷ l) zero h e one =
    ap length (select_yes (eqb k) x l (eq-eqb k x (sym e))) ∙ ap (λ (r : List ℕ). suc (length r)) (select-none (eqb k) l none)
  where
    none : (y : ℕ) → Memᴰ y l → eqb k y ≡ true → ⊥
    none y m t =
        let r = of_mem l 0 y m in
        let z : suc r.0 ≡ 0 = one (suc r.0) (omega arith) (sym r.2 ∙ sym (eqb-true k y t)) in
        omega arith
once-occurs k (x ∷ l) (suc i) h e one =
    ap length (select_no (eqb k) x l (ne_eqb k x λ p. let z : 0 ≡ suc i = one 0 (omega arith) (sym p) in omega arith))
    ∙ once-occurs k l i (omega arith) e (λ j b p. let z : suc j ≡ suc i = one (suc j) (omega arith) p in omega arith)
