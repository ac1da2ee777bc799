-- The machine's set: sorting it, and other holdings for a class.
--
--   of-sorted, in-sorted, sorted-asc  ==  a sorted list has the same members, and ascends if no grid stands twice
--   length-sorted, count-sorted, holds-sorted  ==  sorting changes no length, no count and no membership
--   sorted-select    ==  sorting commutes with selecting
--   sorted-holdings  ==  sorting changes no holdings
--   put-becomes      ==  after put the set has these holdings for the class, and the same for every other
use mathlib.Core.Path.{◌≡◌, refl, sym, ap, ◌∙◌}
use mathlib.Core.List.Memᴰ
use mathlib.Core.List.{List, [], ◌∷◌, Memᴰ}
use mathlib.Core.Bool.{Bool, true, false}
use mathlib.Core.Logic.{◌⊎◌, inl, inr}
use Prim.Native.Nat.{ℕ, suc}
use lib.ListN.{length, length-map}
use Rattle.permutations.specs.Lists.{select}
use Rattle.permutations.proofs.BoolLaws.{yes_or_no, bool-ext}
use Rattle.permutations.proofs.SelectLaws.{in-select, of-select, select_yes, select_no}
use Rattle.grids.specs.Order.{equal}
use Rattle.layout.specs.Layout.{Entry, clients, grids_of, Ascends, some_held}
use Rattle.calls.specs.Entries.{Once, holds, holdings_in, insert}
use Rattle.calls.proofs.EntryLaws.{Entries, Grids, holds-in, in-holds, grid-in, of-grids, of-insert, in_insert, length-insert, insert-asc, asc-ext, select-asc, select-once}
use Rattle.calls.proofs.HoldingLaws.{here, later, chosen, Becomes, inserted, front-becomes, gone-becomes}
use Rattle.machine.specs.Machine.{sorted, put}

pub of-sorted : (l : Entries) (y : Entry) → Memᴰ y (sorted l) → Memᴰ y l
unfolding sorted
of-sorted [] y h = h
of-sorted (x ∷ l) y h = go (of-sorted l y) (of-insert x (sorted l) y h)
  where
    go : (Memᴰ y (sorted l) → Memᴰ y l) → (y ≡ x) ⊎ Memᴰ y (sorted l) → Memᴰ y (x ∷ l)
    go ih (inl e) = Memᴰ.head e
    go ih (inr k) = Memᴰ.tail (ih k)

pub in-sorted : (l : Entries) (y : Entry) → Memᴰ y l → Memᴰ y (sorted l)
unfolding sorted
in-sorted [] y h = h
in-sorted (x ∷ l) y h = go (in-sorted l y) (Memᴰ.cases_cons h)
  where
    go : (Memᴰ y l → Memᴰ y (sorted l)) → (y ≡ x) ⊎ Memᴰ y l → Memᴰ y (insert x (sorted l))
    go ih (inl e) = in_insert x (sorted l) y (inl e)
    go ih (inr k) = in_insert x (sorted l) y (inr (ih k))

-- the same of the grids
of-sorted-grids : (l : Entries) (r : List ℕ) → Memᴰ r (grids_of (sorted l)) → Memᴰ r (grids_of l)
of-sorted-grids l r m = let p = of-grids (sorted l) r m in Memᴰ.cast (sym p.2) (grid-in l p.0 (of-sorted l p.0 p.1))

in-sorted-grids : (l : Entries) (r : List ℕ) → Memᴰ r (grids_of l) → Memᴰ r (grids_of (sorted l))
in-sorted-grids l r m = let p = of-grids l r m in Memᴰ.cast (sym p.2) (grid-in (sorted l) p.0 (in-sorted l p.0 p.1))

pub sorted-asc : (l : Entries) → Once (grids_of l) → Ascends (grids_of (sorted l))
unfolding sorted
sorted-asc [] h = tt
sorted-asc (x ∷ l) h = insert-asc x (sorted l) (sorted-asc l h.1) (λ k. h.0 (of-sorted-grids l x.grid k))

pub length-sorted : (l : Entries) → length (sorted l) ≡ length l
unfolding sorted
length-sorted [] = refl
length-sorted (x ∷ l) = length-insert x (sorted l) ∙ ap suc (length-sorted l)

pub sorted-select : (t : Entry → Bool) (l : Entries) → Once (grids_of l) → select t (sorted l) ≡ sorted (select t l)
sorted-select t l o =
    asc-ext (select t (sorted l)) (sorted (select t l)) (select-asc t (sorted l) (sorted-asc l o)) (sorted-asc (select t l) (select-once t l o))
    (λ y k. let p = of-select t y (sorted l) k in in-sorted (select t l) y (in-select t y l (of-sorted l y p.0) p.1))
    (λ y k. let p = of-select t y l (of-sorted (select t l) y k) in in-select t y (sorted l) (in-sorted l y p.0) p.1)

-- a test of the grids
grids-select : (t : List ℕ → Bool) (l : Entries) → select t (grids_of l) ≡ grids_of (select (λ e. t e.grid) l)
unfolding select
grids-select t [] = refl
grids-select t (x ∷ l) = go (grids-select t l) (yes_or_no (t x.grid))
  where
    go : select t (grids_of l) ≡ grids_of (select (λ e. t e.grid) l) → (t x.grid ≡ true) ⊎ (t x.grid ≡ false) → select t (grids_of (x ∷ l)) ≡ grids_of (select (λ e. t e.grid) (x ∷ l))
    go ih (inl e) = select_yes t x.grid (grids_of l) e ∙ ap (λ (k : Grids). x.grid ∷ k) ih ∙ ap (λ (k : Entries). grids_of k) (sym (select_yes (λ e. t e.grid) x l e))
    go ih (inr e) = select_no t x.grid (grids_of l) e ∙ ih ∙ ap (λ (k : Entries). grids_of k) (sym (select_no (λ e. t e.grid) x l e))

pub count-sorted : (t : List ℕ → Bool) (l : Entries) → Once (grids_of l) → length (select t (grids_of (sorted l))) ≡ length (select t (grids_of l))
count-sorted t l o =
    ap length (grids-select t (sorted l)) ∙ length-map (select (λ e. t e.grid) (sorted l)) _
    ∙ ap length (sorted-select (λ e. t e.grid) l o) ∙ length-sorted (select (λ e. t e.grid) l)
    ∙ sym (ap length (grids-select t l) ∙ length-map (select (λ e. t e.grid) l) _)

pub holds-sorted : (r : List ℕ) (l : Entries) → holds r (grids_of (sorted l)) ≡ holds r (grids_of l)
holds-sorted r l =
    bool-ext (holds r (grids_of (sorted l))) (holds r (grids_of l))
    (λ e. in-holds r (grids_of l) (of-sorted-grids l r (holds-in r (grids_of (sorted l)) e)))
    (λ e. in-holds r (grids_of (sorted l)) (in-sorted-grids l r (holds-in r (grids_of l) e)))

pub sorted-holdings : (l : Entries) → Once (grids_of l) → (a : List ℕ) → holdings_in a (sorted l) ≡ holdings_in a l
unfolding sorted
sorted-holdings [] o a = refl
sorted-holdings (x ∷ l) o a =
    inserted x (sorted l) (λ m. let p = of-grids (sorted l) x.grid m in o.0 (Memᴰ.cast (sym p.2) (grid-in l p.0 (of-sorted l p.0 p.1)))) a
    ∙ go (sorted-holdings l o.1 a) (yes_or_no (equal a x.grid))
  where
    go : holdings_in a (sorted l) ≡ holdings_in a l → (equal a x.grid ≡ true) ⊎ (equal a x.grid ≡ false) → holdings_in a (x ∷ sorted l) ≡ holdings_in a (x ∷ l)
    go ih (inl k) = here a x (sorted l) k ∙ sym (here a x l k)
    go ih (inr k) = later a x (sorted l) k ∙ ih ∙ sym (later a x l k)

pub put-becomes : (r h : List ℕ) (l : Entries) → length h ≡ clients → Becomes l r h (put r h l)
unfolding put
put-becomes r h l z a = go (yes_or_no (some_held h))
  where
    go : (some_held h ≡ true) ⊎ (some_held h ≡ false) → holdings_in a (put r h l) ≡ chosen (equal r a) h (holdings_in a l)
    go (inl t) = rw (t, put) (front-becomes r h l a)
    go (inr t) = rw (t, put) (gone-becomes r h l z t a)
