-- Laws of lists by index, of membership and of tests that every or some element passes.
--
--   length-tabulate, get_or-tabulate, at-tabulate  ==  length and entries of a tabulated list
--   tabulate-is, tabulate-ext, tabulate-get_or     ==  when a tabulated list is a given list, and when two are equal
--   part-within, part-is                         ==  the part from 0 on of a list that begins with a given list
--   part_length                                  ==  the length of the part from 0 on
--   in-tabulate, of-tabulate, mem-at, of_mem, no_member  ==  membership, and the index of a member
--   every-at, at_every                           ==  a test that every element passes
--   every-all, all_append                        ==  what a test shows of each element holds of all; what holds of two lists holds of one after the other
--   some_at, at_some                             ==  a test that some element passes
--   at_map                                       ==  an entry of a mapped list
--   in-flat_map, of-flat_map                       ==  membership in lists put one after another
--   length-numbers, at-numbers, in-numbers, of-numbers, every-number, number-every  ==  the same of the numbers below n
--   every-next                                   ==  a test of the numbers below n, one number further
use mathlib.Core.Path.{◌≡◌, refl, sym, ap, ◌∙◌}
use mathlib.Core.List.Memᴰ
use mathlib.Core.List.{List, [], ◌∷◌, ◌++◌, map, flat_map, Memᴰ}
use mathlib.Core.Bool.{Bool, true, false, true≢false, ◌&&◌, ◌||◌}
use mathlib.Core.Logic.{◌⊎◌, inl, inr}
use Prim.Native.Nat.{ℕ, zero, suc, ◌+◌, ◌-◌, ◌≤◌, ◌<◌}
use native.Mathlib.Nat.{add-zero, zero-add, not-suc-le-zero}
use native.Mathlib.Decide.{ℕ_discrete}
use native.Mathlib.Omega.{arith}
use lib.ListN.{length, get_or, take, length-append}
use lib.Seq.{ext_get_or, take_at, length-take-le}
use Rattle.permutations.specs.Lists.{tabulate, numbers, every, some, All}
use Rattle.permutations.proofs.BoolLaws.{and_yes, yes_and, or_yes, bool-ext}

module _ {ℓ} {A : Type ℓ} where
  pub length-tabulate : (s n : ℕ) (f : ℕ → A) → length (tabulate s n f) ≡ n
  unfolding tabulate
  length-tabulate s zero f = refl
  length-tabulate s (suc n) f = ap suc (length-tabulate (suc s) n f)

  pub get_or-tabulate : (s n : ℕ) (f : ℕ → A) (i : ℕ) (d : A) → i < n → get_or (tabulate s n f) i d ≡ f (s + i)
  unfolding tabulate
  get_or-tabulate s zero f i d h = absurd (not-suc-le-zero h)
  get_or-tabulate s (suc n) f zero d h = rw add-zero
  get_or-tabulate s (suc n) f (suc i) d h =
      let e : suc s + i ≡ s + suc i = omega arith in
      get_or-tabulate (suc s) n f i d (omega arith) ∙ ap f e

  pub at-tabulate : (n : ℕ) (f : ℕ → A) (i : ℕ) (d : A) → i < n → get_or (tabulate 0 n f) i d ≡ f i
  at-tabulate n f i d h = get_or-tabulate 0 n f i d h ∙ ap f (zero-add i)

  -- a list is what it holds at each index
  pub tabulate-is : (d : A) (l : List A) (n : ℕ) (f : ℕ → A) → length l ≡ n → ((i : ℕ) → i < n → get_or l i d ≡ f i) → tabulate 0 n f ≡ l
  tabulate-is d l n f e h =
      ext_get_or d (tabulate 0 n f) l (length-tabulate 0 n f ∙ sym e) λ i b.
      let c : i < n = omega (arith, length-tabulate 0 n f) in
      at-tabulate n f i d c ∙ sym (h i c)

  pub tabulate-ext : (d : A) (n : ℕ) (f g : ℕ → A) → ((i : ℕ) → i < n → f i ≡ g i) → tabulate 0 n f ≡ tabulate 0 n g
  tabulate-ext d n f g h = tabulate-is d (tabulate 0 n g) n f (length-tabulate 0 n g) λ i b. at-tabulate n g i d b ∙ sym (h i b)

  pub tabulate-get_or : (d : A) (l : List A) (n : ℕ) → length l ≡ n → tabulate 0 n (λ i. get_or l i d) ≡ l
  tabulate-get_or d l n e = tabulate-is d l n (λ i. get_or l i d) e (λ i b. refl)

  -- the part from 0 to k of x ++ x', where x has the length k
  pub part-within : (x x' : List A) (k : ℕ) → length x ≡ k → k ≤ length (x ++ x')
  part-within x x' k e = simp length-append (omega arith)

  pub part-is : (x x' : List A) (k : ℕ) → length x ≡ k → take (k - 0) (x ++ x') ≡ x
  part-is x x' k e = take_at x x' (k - 0) (omega arith)

  pub part_length : (z : List A) (k : ℕ) → k ≤ length z → length (take (k - 0) z) ≡ k
  part_length z k h = let e : k - 0 ≡ k = omega arith in rw e (length-take-le k z h)

  pub in-tabulate : (s n : ℕ) (f : ℕ → A) (i : ℕ) → i < n → Memᴰ (f (s + i)) (tabulate s n f)
  unfolding tabulate
  in-tabulate s zero f i h = absurd (not-suc-le-zero h)
  in-tabulate s (suc n) f zero h = Memᴰ.head (ap f (add-zero s))
  in-tabulate s (suc n) f (suc i) h =
      let e : s + suc i ≡ suc s + i = omega arith in
      Memᴰ.tail (Memᴰ.cast (ap f e) (in-tabulate (suc s) n f i (omega arith)))

  pub of-tabulate : (s n : ℕ) (f : ℕ → A) (x : A) → Memᴰ x (tabulate s n f) → (i : ℕ) × (i < n) × (x ≡ f (s + i))
  unfolding tabulate
  of-tabulate s zero f x h = absurd (Memᴰ.not-nil h)
  of-tabulate s (suc n) f x h = go (of-tabulate (suc s) n f x) (Memᴰ.cases_cons h)
    where
      go : (Memᴰ x (tabulate (suc s) n f) → (i : ℕ) × (i < n) × (x ≡ f (suc s + i))) → (x ≡ f s) ⊎ Memᴰ x (tabulate (suc s) n f) → (i : ℕ) × (i < suc n) × (x ≡ f (s + i))
      go ih (inl e) = (0, omega arith, e ∙ ap f (sym (add-zero s)))
      go ih (inr k) =
          let r = ih k in
          let e : suc s + r.0 ≡ s + suc r.0 = omega arith in
          (suc r.0, omega arith, r.2 ∙ ap f e)

  pub mem-at : (l : List A) (d : A) (i : ℕ) → i < length l → Memᴰ (get_or l i d) l
  mem-at [] d i h = absurd (not-suc-le-zero h)
  mem-at (x ∷ l) d zero h = Memᴰ.head refl
  mem-at (x ∷ l) d (suc i) h = Memᴰ.tail (mem-at l d i (omega arith))

  pub of_mem : (l : List A) (d x : A) → Memᴰ x l → (i : ℕ) × (i < length l) × (x ≡ get_or l i d)
  of_mem [] d x h = absurd (Memᴰ.not-nil h)
  of_mem (y ∷ l) d x h = go (of_mem l d x) (Memᴰ.cases_cons h)
    where
      go : (Memᴰ x l → (i : ℕ) × (i < length l) × (x ≡ get_or l i d)) → (x ≡ y) ⊎ Memᴰ x l → (i : ℕ) × (i < suc (length l)) × (x ≡ get_or (y ∷ l) i d)
      go ih (inl e) = (0, omega arith, e)
      go ih (inr m) = let r = ih m in (suc r.0, omega arith, r.2)

  pub no_member : (l : List A) → ((x : A) → Memᴰ x l → ⊥) → l ≡ []
  no_member [] h = refl
  no_member (x ∷ l) h = absurd (h x (Memᴰ.head refl))

  -- ---- tests that every element or some element passes

  pub every-at : (t : A → Bool) (l : List A) → every t l ≡ true → (x : A) → Memᴰ x l → t x ≡ true
  unfolding every
  every-at t [] e x h = absurd (Memᴰ.not-nil h)
  every-at t (y ∷ l) e x h = go (and_yes (t y) (every t l) e) (every-at t l) (Memᴰ.cases_cons h)
    where
      go : (t y ≡ true) × (every t l ≡ true) → (every t l ≡ true → (x : A) → Memᴰ x l → t x ≡ true) → (x ≡ y) ⊎ Memᴰ x l → t x ≡ true
      go d ih (inl p) = ap t p ∙ d.0
      go d ih (inr k) = ih d.1 x k

  pub at_every : (t : A → Bool) (l : List A) → ((x : A) → Memᴰ x l → t x ≡ true) → every t l ≡ true
  unfolding every
  at_every t [] h = refl
  at_every t (y ∷ l) h = rw (h y (Memᴰ.head refl)) (at_every t l (λ x k. h x (Memᴰ.tail k)))

  pub every-all : (P : A → Type 0) (t : A → Bool) → ((x : A) → t x ≡ true → P x) → (l : List A) → every t l ≡ true → All P l
  unfolding every
  every-all P t h [] e = tt
  every-all P t h (x ∷ l) e = let p = and_yes (t x) (every t l) e in (h x p.0, every-all P t h l p.1)

  pub all_append : (P : A → Type 0) (k l : List A) → All P k → All P l → All P (k ++ l)
  all_append P [] l g h = h
  all_append P (x ∷ k) l g h = (g.0, all_append P k l g.1 h)

  pub some_at : (t : A → Bool) (l : List A) → some t l ≡ true → (x : A) × Memᴰ x l × (t x ≡ true)
  unfolding some
  some_at t [] e = absurd (true≢false (sym e))
  some_at t (y ∷ l) e = go (some_at t l) (or_yes (t y) (some t l) e)
    where
      go : (some t l ≡ true → (x : A) × Memᴰ x l × (t x ≡ true)) → (t y ≡ true) ⊎ (some t l ≡ true) → (x : A) × Memᴰ x (y ∷ l) × (t x ≡ true)
      go ih (inl d) = (y, Memᴰ.head refl, d)
      go ih (inr d) = let r = ih d in (r.0, Memᴰ.tail r.1, r.2)

  pub at_some : (t : A → Bool) (l : List A) (x : A) → Memᴰ x l → t x ≡ true → some t l ≡ true
  unfolding some
  at_some t [] x h e = absurd (Memᴰ.not-nil h)
  at_some t (y ∷ l) x h e = go (at_some t l x) (Memᴰ.cases_cons h) (t y) refl
    where
      go : (Memᴰ x l → t x ≡ true → some t l ≡ true) → (x ≡ y) ⊎ Memᴰ x l → (b : Bool) → t y ≡ b → (t y || some t l) ≡ true
      go ih k true d = rw d
      go ih (inl p) false d = absurd (true≢false (sym e ∙ ap t p ∙ d))
      go ih (inr k) false d = rw d (ih k e)

module _ {ℓ κ} {A : Type ℓ} {B : Type κ} where
  pub at_map : (f : A → B) (l : List A) (i : ℕ) (a : A) (b : B) → i < length l → get_or (map f l) i b ≡ f (get_or l i a)
  at_map f [] i a b h = absurd (not-suc-le-zero h)
  at_map f (x ∷ l) zero a b h = refl
  at_map f (x ∷ l) (suc i) a b h = at_map f l i a b (omega arith)

  pub in-flat_map : (f : A → List B) (x : A) (y : B) (l : List A) → Memᴰ x l → Memᴰ y (f x) → Memᴰ y (flat_map f l)
  unfolding flat_map
  in-flat_map f x y [] h k = absurd (Memᴰ.not-nil h)
  in-flat_map f x y (z ∷ l) h k = go (λ m. in-flat_map f x y l m k) (Memᴰ.cases_cons h)
    where
      go : (Memᴰ x l → Memᴰ y (flat_map f l)) → (x ≡ z) ⊎ Memᴰ x l → Memᴰ y (f z ++ flat_map f l)
      go ih (inl e) = Memᴰ.append_left (flat_map f l) (rw e at k)
      go ih (inr m) = Memᴰ.append_right (f z) (ih m)

  pub of-flat_map : (f : A → List B) (y : B) (l : List A) → Memᴰ y (flat_map f l) → (x : A) × Memᴰ x l × Memᴰ y (f x)
  unfolding flat_map
  of-flat_map f y [] h = absurd (Memᴰ.not-nil h)
  of-flat_map f y (z ∷ l) h = go (of-flat_map f y l) (Memᴰ.append_cases (f z) h)
    where
      go : (Memᴰ y (flat_map f l) → (x : A) × Memᴰ x l × Memᴰ y (f x)) → Memᴰ y (f z) ⊎ Memᴰ y (flat_map f l) → (x : A) × Memᴰ x (z ∷ l) × Memᴰ y (f x)
      go ih (inl k) = (z, Memᴰ.head refl, k)
      go ih (inr k) = let r = ih k in (r.0, Memᴰ.tail r.1, r.2)

-- ---- the numbers below n

pub length-numbers : (n : ℕ) → length (numbers n) ≡ n
unfolding numbers
length-numbers n = length-tabulate 0 n (λ i. i)

pub at-numbers : (n i : ℕ) → i < n → get_or (numbers n) i 0 ≡ i
unfolding numbers
at-numbers n i h = at-tabulate n (λ i. i) i 0 h

pub in-numbers : (n i : ℕ) → i < n → Memᴰ i (numbers n)
unfolding numbers
in-numbers n i h = Memᴰ.cast (sym (zero-add i)) (in-tabulate 0 n (λ i. i) i h)

pub of-numbers : (n i : ℕ) → Memᴰ i (numbers n) → i < n
unfolding numbers
of-numbers n i m = let r = of-tabulate 0 n (λ i. i) i m in omega (arith, r.1, r.2)

pub every-number : (t : ℕ → Bool) (n : ℕ) → every t (numbers n) ≡ true → (i : ℕ) → i < n → t i ≡ true
every-number t n e i h = every-at t (numbers n) e i (in-numbers n i h)

pub number-every : (t : ℕ → Bool) (n : ℕ) → ((i : ℕ) → i < n → t i ≡ true) → every t (numbers n) ≡ true
number-every t n h = at_every t (numbers n) λ i m. h i (of-numbers n i m)

pub every-next : (t : ℕ → Bool) (n : ℕ) → every t (numbers (n + 1)) ≡ (every t (numbers n) && t n)
every-next t n =
    bool-ext (every t (numbers (n + 1))) (every t (numbers n) && t n)
    (λ e. yes_and _ _ (number-every t n (λ i b. every-number t (n + 1) e i (omega arith))) (every-number t (n + 1) e n (omega arith)))
    λ e. let p = and_yes (every t (numbers n)) (t n) e in number-every t (n + 1) (λ i b. go i b (every-number t n p.0) p.1 (ℕ_discrete i n))
  where
    go : (i : ℕ) → i < n + 1 → ((i : ℕ) → i < n → t i ≡ true) → t n ≡ true → Dec (i ≡ n) → t i ≡ true
    go i b f e (yes d) = rw d e
    go i b f e (no ne) = f i (omega arith)
