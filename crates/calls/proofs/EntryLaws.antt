-- Lists of entries: membership by grid, ascending lists, insertion, places.
--
--   Entries, Grids                    ==  lists of entries, of grids
--   holds-in, in-holds                ==  the test of membership decides it
--   grid-in, of-grids                 ==  an entry's grid is among the grids, and each of these is an entry's
--   insert-front, insert-later        ==  an insertion before the first entry, and one after it
--   of-insert, in_insert, length-insert  ==  what is in a list after an insertion, and its length
--   insert-asc                        ==  an entry with a new grid inserted into an ascending list leaves it ascending
--   same-entry                        ==  two entries of an ascending list with one grid are one
--   asc-ext                           ==  ascending lists with the same members are equal
--   select-asc, select-once           ==  selecting keeps a list ascending and free of repeats
--   held-line, new_line               ==  a place is the entry's line, the first being 1: of a held grid, and of one that is inserted
use mathlib.Core.Path.{◌≡◌, refl, sym, ap, ap₂, ◌∙◌}
use mathlib.Core.List.Memᴰ
use mathlib.Core.List.{List, [], ◌∷◌, Memᴰ}
use mathlib.Core.Bool.{Bool, true, false}
use mathlib.Core.Logic.{◌⊎◌, inl, inr}
use Prim.Native.Nat.{ℕ, suc, ◌-◌}
use native.Mathlib.Omega.{arith}
use lib.ListN.{length, get_or}
use Rattle.permutations.specs.Lists.{select}
use Rattle.permutations.proofs.BoolLaws.{yes_or_no, refuted}
use Rattle.permutations.proofs.ListLaws.{some_at, at_some}
use Rattle.permutations.proofs.SelectLaws.{of-select, select_yes, select_no, select-none}
use Rattle.grids.specs.Order.{◌≼◌, ◌≺◌, leq, less, equal}
use Rattle.grids.proofs.OrderLaws.{≼_refl, ≼-antisymm, ≼-dec, ≼-leq, leq-yes, ≺-≼, ≺-trans, ≼-≺, less-decides, equal-eq, eq-equal}
use Rattle.layout.specs.Layout.{Entry, grids_of, Ascends}
use Rattle.calls.specs.Entries.{holds, place_in, insert, Once}

abbrev pub Entries : Type 0
Entries = List Entry

abbrev pub Grids : Type 0
Grids = List (List ℕ)

pub holds-in : (r : List ℕ) (l : Grids) → holds r l ≡ true → Memᴰ r l
unfolding holds
holds-in r l e = let s = some_at (equal r) l e in Memᴰ.cast (equal-eq r s.0 s.2) s.1

pub in-holds : (r : List ℕ) (l : Grids) → Memᴰ r l → holds r l ≡ true
unfolding holds
in-holds r l m = at_some (equal r) l r m (eq-equal r r refl)

pub grid-in : (l : Entries) (e : Entry) → Memᴰ e l → Memᴰ e.grid (grids_of l)
grid-in l e m = Memᴰ.map (λ (x : Entry). x.grid) m

pub of-grids : (l : Entries) (r : List ℕ) → Memᴰ r (grids_of l) → (e : Entry) × Memᴰ e l × (e.grid ≡ r)
of-grids l r m = Memᴰ.of_map (λ (x : Entry). x.grid) l m

-- ---- insertion

pub insert-front : (r x : Entry) (l : Entries) → r.grid ≼ x.grid → insert r (x ∷ l) ≡ r ∷ x ∷ l
unfolding insert
insert-front r x l h = rw (≼-leq r.grid x.grid h, insert)

pub insert-later : (r x : Entry) (l : Entries) → (r.grid ≼ x.grid → ⊥) → insert r (x ∷ l) ≡ x ∷ insert r l
unfolding insert
insert-later r x l h = go (yes_or_no (leq r.grid x.grid))
  where
    go : (leq r.grid x.grid ≡ true) ⊎ (leq r.grid x.grid ≡ false) → insert r (x ∷ l) ≡ x ∷ insert r l
    go (inl e) = absurd (h (leq-yes r.grid x.grid e))
    go (inr e) = rw (e, insert)

pub of-insert : (r : Entry) (l : Entries) (y : Entry) → Memᴰ y (insert r l) → (y ≡ r) ⊎ Memᴰ y l
unfolding insert
of-insert r [] y h = Memᴰ.cases_cons h
of-insert r (x ∷ l) y h = go (of-insert r l y) (≼-dec r.grid x.grid)
  where
    lift : (y ≡ r) ⊎ Memᴰ y l → (y ≡ r) ⊎ Memᴰ y (x ∷ l)
    lift (inl e) = inl e
    lift (inr m) = inr (Memᴰ.tail m)

    later : (Memᴰ y (insert r l) → (y ≡ r) ⊎ Memᴰ y l) → (y ≡ x) ⊎ Memᴰ y (insert r l) → (y ≡ r) ⊎ Memᴰ y (x ∷ l)
    later ih (inl e) = inr (Memᴰ.head e)
    later ih (inr k) = lift (ih k)

    go : (Memᴰ y (insert r l) → (y ≡ r) ⊎ Memᴰ y l) → Dec (r.grid ≼ x.grid) → (y ≡ r) ⊎ Memᴰ y (x ∷ l)
    go ih (yes p) = Memᴰ.cases_cons (rw (insert-front r x l p) at h)
    go ih (no p) = later ih (Memᴰ.cases_cons (rw (insert-later r x l p) at h))

pub in_insert : (r : Entry) (l : Entries) (y : Entry) → (y ≡ r) ⊎ Memᴰ y l → Memᴰ y (insert r l)
unfolding insert
in_insert r [] y (inl e) = Memᴰ.head e
in_insert r [] y (inr m) = absurd (Memᴰ.not-nil m)
in_insert r (x ∷ l) y k = go (in_insert r l y) (≼-dec r.grid x.grid) k
  where
    cons : (y ≡ r) ⊎ Memᴰ y (x ∷ l) → Memᴰ y (r ∷ x ∷ l)
    cons (inl e) = Memᴰ.head e
    cons (inr m) = Memᴰ.tail m

    split : (y ≡ x) ⊎ Memᴰ y l → ((y ≡ r) ⊎ Memᴰ y l → Memᴰ y (insert r l)) → Memᴰ y (x ∷ insert r l)
    split (inl e) ih = Memᴰ.head e
    split (inr m) ih = Memᴰ.tail (ih (inr m))

    later : ((y ≡ r) ⊎ Memᴰ y l → Memᴰ y (insert r l)) → (y ≡ r) ⊎ Memᴰ y (x ∷ l) → Memᴰ y (x ∷ insert r l)
    later ih (inl e) = Memᴰ.tail (ih (inl e))
    later ih (inr m) = split (Memᴰ.cases_cons m) ih

    go : ((y ≡ r) ⊎ Memᴰ y l → Memᴰ y (insert r l)) → Dec (r.grid ≼ x.grid) → (y ≡ r) ⊎ Memᴰ y (x ∷ l) → Memᴰ y (insert r (x ∷ l))
    go ih (yes p) k = rw (insert-front r x l p) (cons k)
    go ih (no p) k = rw (insert-later r x l p) (later ih k)

-- the grids after an insertion
of-insert-grids : (r : Entry) (l : Entries) (y : List ℕ) → Memᴰ y (grids_of (insert r l)) → (y ≡ r.grid) ⊎ Memᴰ y (grids_of l)
of-insert-grids r l y m = let p = of-grids (insert r l) y m in go p.0 p.2 (of-insert r l p.0 p.1)
  where
    go : (e : Entry) → e.grid ≡ y → (e ≡ r) ⊎ Memᴰ e l → (y ≡ r.grid) ⊎ Memᴰ y (grids_of l)
    go e d (inl q) = inl (sym d ∙ ap (λ (x : Entry). x.grid) q)
    go e d (inr k) = inr (Memᴰ.cast (sym d) (grid-in l e k))

pub insert-asc : (r : Entry) (l : Entries) → Ascends (grids_of l) → (Memᴰ r.grid (grids_of l) → ⊥) → Ascends (grids_of (insert r l))
unfolding insert
insert-asc r [] a nr = (λ y k. absurd (Memᴰ.not-nil k), tt)
insert-asc r (x ∷ l) a nr = go (insert-asc r l a.1 (λ k. nr (Memᴰ.tail k))) (≼-dec r.grid x.grid)
  where
    first : r.grid ≺ x.grid → (y : List ℕ) → (y ≡ x.grid) ⊎ Memᴰ y (grids_of l) → r.grid ≺ y
    first p y (inl e) = rw e p
    first p y (inr k) = ≺-trans r.grid x.grid y p (a.0 y k)

    rest : x.grid ≺ r.grid → (y : List ℕ) → (y ≡ r.grid) ⊎ Memᴰ y (grids_of l) → x.grid ≺ y
    rest p y (inl e) = rw e p
    rest p y (inr k) = a.0 y k

    go : Ascends (grids_of (insert r l)) → Dec (r.grid ≼ x.grid) → Ascends (grids_of (insert r (x ∷ l)))
    go ih (yes p) = rw (insert-front r x l p) (λ y k. first (≼-≺ r.grid x.grid p (λ e. nr (Memᴰ.head e))) y (Memᴰ.cases_cons k), a)
    go ih (no p) = rw (insert-later r x l p) (λ y k. rest p y (of-insert-grids r l y k), ih)

pub length-insert : (r : Entry) (l : Entries) → length (insert r l) ≡ suc (length l)
unfolding insert
length-insert r [] = refl
length-insert r (x ∷ l) = go (length-insert r l) (≼-dec r.grid x.grid)
  where
    go : length (insert r l) ≡ suc (length l) → Dec (r.grid ≼ x.grid) → length (insert r (x ∷ l)) ≡ suc (suc (length l))
    go ih (yes p) = rw (insert-front r x l p)
    go ih (no p) = rw (insert-later r x l p) (ap suc ih)

-- ---- ascending lists

-- the first of an ascending list comes no later than any member
first-no-later : (u : List ℕ) (l : Grids) → ((z : List ℕ) → Memᴰ z l → u ≺ z) → (z : List ℕ) → (z ≡ u) ⊎ Memᴰ z l → u ≼ z
first-no-later u l h z (inl e) = rw e (≼_refl u)
first-no-later u l h z (inr k) = ≺-≼ u z (h z k)

-- none of a list stands before all of it
no-first : (u : Entry) (l : Entries) → ((z : List ℕ) → Memᴰ z (grids_of l) → u.grid ≺ z) → (z : Entry) → Memᴰ z l → u.grid ≡ z.grid → ⊥
no-first u l h z k e = h z.grid (grid-in l z k) (rw e (≼_refl z.grid))

pub same-entry : (l : Entries) → Ascends (grids_of l) → (x y : Entry) → Memᴰ x l → Memᴰ y l → x.grid ≡ y.grid → x ≡ y
same-entry [] a x y j k e = absurd (Memᴰ.not-nil j)
same-entry (z ∷ l) a x y j k e = go (same-entry l a.1 x y) (Memᴰ.cases_cons j) (Memᴰ.cases_cons k)
  where
    go : (Memᴰ x l → Memᴰ y l → x.grid ≡ y.grid → x ≡ y) → (x ≡ z) ⊎ Memᴰ x l → (y ≡ z) ⊎ Memᴰ y l → x ≡ y
    go ih (inl p) (inl q) = p ∙ sym q
    go ih (inl p) (inr q) = absurd (no-first z l a.0 y q (ap (λ (u : Entry). u.grid) (sym p) ∙ e))
    go ih (inr p) (inl q) = absurd (no-first z l a.0 x p (ap (λ (u : Entry). u.grid) (sym q) ∙ sym e))
    go ih (inr p) (inr q) = ih p q e

-- a later member of the one list is no first of the other
later-too : (u v : Entry) (l m : Entries) → u ≡ v → ((z : List ℕ) → Memᴰ z (grids_of l) → u.grid ≺ z) → (z : Entry) → Memᴰ z l → (z ≡ v) ⊎ Memᴰ z m → Memᴰ z m
later-too u v l m e h z k (inl d) = absurd (no-first u l h z k (ap (λ (x : Entry). x.grid) (e ∙ sym d)))
later-too u v l m e h z k (inr n) = n

pub asc-ext : (a b : Entries) → Ascends (grids_of a) → Ascends (grids_of b) → ((y : Entry) → Memᴰ y a → Memᴰ y b) → ((y : Entry) → Memᴰ y b → Memᴰ y a) → a ≡ b
asc-ext [] [] p q f g = refl
asc-ext [] (y ∷ b) p q f g = absurd (Memᴰ.not-nil (g y (Memᴰ.head refl)))
asc-ext (x ∷ a) [] p q f g = absurd (Memᴰ.not-nil (f x (Memᴰ.head refl)))
asc-ext (x ∷ a) (y ∷ b) p q f g = ap₂ (λ (u : Entry) (v : Entries). u ∷ v) same (asc-ext a b p.1 q.1 to back)
  where
    grids : x.grid ≡ y.grid
    grids = ≼-antisymm x.grid y.grid
        (first-no-later x.grid (grids_of a) p.0 y.grid (Memᴰ.cases_cons (grid-in (x ∷ a) y (g y (Memᴰ.head refl)))))
        (first-no-later y.grid (grids_of b) q.0 x.grid (Memᴰ.cases_cons (grid-in (y ∷ b) x (f x (Memᴰ.head refl)))))

    same : x ≡ y
    same = same-entry (y ∷ b) q x y (f x (Memᴰ.head refl)) (Memᴰ.head refl) grids

    to : (z : Entry) → Memᴰ z a → Memᴰ z b
    to z k = later-too x y a b same p.0 z k (Memᴰ.cases_cons (f z (Memᴰ.tail k)))

    back : (z : Entry) → Memᴰ z b → Memᴰ z a
    back z k = later-too y x b a (sym same) q.0 z k (Memᴰ.cases_cons (g z (Memᴰ.tail k)))

-- ---- what passes a test

-- the grids of those that are selected
of-select-grids : (t : Entry → Bool) (l : Entries) (r : List ℕ) → Memᴰ r (grids_of (select t l)) → Memᴰ r (grids_of l)
of-select-grids t l r m = let p = of-grids (select t l) r m in Memᴰ.cast (sym p.2) (grid-in l p.0 (of-select t p.0 l p.1).0)

pub select-asc : (t : Entry → Bool) (l : Entries) → Ascends (grids_of l) → Ascends (grids_of (select t l))
unfolding select
select-asc t [] a = tt
select-asc t (x ∷ l) a = go (select-asc t l a.1) (yes_or_no (t x))
  where
    go : Ascends (grids_of (select t l)) → (t x ≡ true) ⊎ (t x ≡ false) → Ascends (grids_of (select t (x ∷ l)))
    go ih (inl e) = rw (select_yes t x l e) (λ y k. a.0 y (of-select-grids t l y k), ih)
    go ih (inr e) = rw (select_no t x l e) ih

pub select-once : (t : Entry → Bool) (l : Entries) → Once (grids_of l) → Once (grids_of (select t l))
unfolding select
select-once t [] a = tt
select-once t (x ∷ l) a = go (select-once t l a.1) (yes_or_no (t x))
  where
    go : Once (grids_of (select t l)) → (t x ≡ true) ⊎ (t x ≡ false) → Once (grids_of (select t (x ∷ l)))
    go ih (inl e) = rw (select_yes t x l e) (λ k. a.0 (of-select-grids t l x.grid k), ih)
    go ih (inr e) = rw (select_no t x l e) ih

-- ---- places

-- none of an ascending list comes before its first
none_before : (x : List ℕ) (l : Grids) → Ascends (x ∷ l) → (y : List ℕ) → Memᴰ y (x ∷ l) → less y x ≡ true → ⊥
none_before x l a y m t = (less-decides y x).0 t (first-no-later x l a.0 y (Memᴰ.cases_cons m))

-- as many entries come before a grid of an ascending list as stand before it
stands_at : (l : Grids) → Ascends l → (r : List ℕ) → Memᴰ r l → get_or l (length (select (λ x. less x r) l)) [] ≡ r
stands_at [] a r m = absurd (Memᴰ.not-nil m)
stands_at (x ∷ l) a r m = go (stands_at l a.1 r) (Memᴰ.cases_cons m)
  where
    go : (Memᴰ r l → get_or l (length (select (λ y. less y r) l)) [] ≡ r) → (r ≡ x) ⊎ Memᴰ r l → get_or (x ∷ l) (length (select (λ y. less y r) (x ∷ l))) [] ≡ r
    go ih (inl e) = rw (e, select-none (λ y. less y x) (x ∷ l) (none_before x l a))
    go ih (inr k) = rw (select_yes (λ y. less y r) x l ((less-decides x r).1 (a.0 r k))) (ih k)

select-insert : (t : List ℕ → Bool) (r : Entry) (l : Entries) → t r.grid ≡ false → select t (grids_of (insert r l)) ≡ select t (grids_of l)
unfolding insert select
select-insert t r [] e = select_no t r.grid [] e
select-insert t r (x ∷ l) e = go (select-insert t r l e) (≼-dec r.grid x.grid) (yes_or_no (t x.grid))
  where
    go : select t (grids_of (insert r l)) ≡ select t (grids_of l) → Dec (r.grid ≼ x.grid) → (t x.grid ≡ true) ⊎ (t x.grid ≡ false) → select t (grids_of (insert r (x ∷ l))) ≡ select t (grids_of (x ∷ l))
    go ih (yes p) d = ap (λ (k : Entries). select t (grids_of k)) (insert-front r x l p) ∙ select_no t r.grid (grids_of (x ∷ l)) e
    go ih (no p) (inl d) = ap (λ (k : Entries). select t (grids_of k)) (insert-later r x l p) ∙ select_yes t x.grid (grids_of (insert r l)) d ∙ ap (λ (y : Grids). x.grid ∷ y) ih ∙ sym (select_yes t x.grid (grids_of l) d)
    go ih (no p) (inr d) = ap (λ (k : Entries). select t (grids_of k)) (insert-later r x l p) ∙ select_no t x.grid (grids_of (insert r l)) d ∙ ih ∙ sym (select_no t x.grid (grids_of l) d)

-- the place of a held grid is its line, the first being 1
pub held-line : (l : Grids) → Ascends l → (r : List ℕ) → Memᴰ r l → get_or l (place_in l r - 1) [] ≡ r
unfolding place_in
held-line l a r m = let e : suc (length (select (λ x. less x r) l)) - 1 ≡ length (select (λ x. less x r) l) = omega arith in rw e (stands_at l a r m)

-- the place of a new grid is its line once it is inserted
pub new_line : (l : Entries) → Ascends (grids_of l) → (r : Entry) → (Memᴰ r.grid (grids_of l) → ⊥) → get_or (grids_of (insert r l)) (place_in (grids_of l) r.grid - 1) [] ≡ r.grid
unfolding place_in
new_line l a r new =
    let g = r.grid in
    let e : suc (length (select (λ x. less x g) (grids_of l))) - 1 ≡ length (select (λ x. less x g) (grids_of l)) = omega arith in
    rw (e, ← (select-insert (λ x. less x g) r l (refuted (less g g) (less-decides g g) (λ h. h (≼_refl g)))))
    (stands_at (grids_of (insert r l)) (insert-asc r l a new) g (grid-in (insert r l) r (in_insert r l r (inl refl))))
