-- The place of a grid among grids, by index, the entries with other holdings for it, and the steps of a binary search for the place.
--
--   place-lower       ==  the place of r
--   holds-lower, holds-not-end, holds-not-there  ==  r stands in l if it stands at p, and only then
--   kept_new, kept_there, kept-gone  ==  an ascending list with other holdings for r: r is new and put in at p; it stands at p; it stands there and all are 0
--   asc-once          ==  in an ascending list no grid stands twice
--   there-held        ==  the holdings of the grid at p are those of the entry at p
--   asc-at            ==  grids of an ascending list are in order by their indices
--   between_start, between-low, between-high, between_lower  ==  a binary search: its start, its two steps, its end
use mathlib.Core.Path.{◌≡◌, refl, sym, ap, ◌∙◌}
use mathlib.Core.List.Memᴰ
use mathlib.Core.List.{List, [], ◌∷◌, ◌++◌, Memᴰ}
use mathlib.Core.Bool.{true, false, true≢false}
use Prim.Native.Nat.{ℕ, zero, suc, ◌+◌, ◌≤◌, ◌<◌}
use native.Mathlib.Nat.{not-suc-le-zero}
use native.Mathlib.Decide.{dec_lt}
use native.Mathlib.Omega.{arith}
use lib.ListN.{length, get_or, take, drop}
use Rattle.permutations.specs.Lists.{select}
use Rattle.permutations.proofs.BoolLaws.{refuted}
use Rattle.permutations.proofs.ListLaws.{mem-at, of_mem, at_map}
use Rattle.permutations.proofs.SelectLaws.{select_yes, select_no}
use Rattle.grids.specs.Order.{◌≼◌, ◌≺◌, less, equal}
use Rattle.grids.proofs.OrderLaws.{≼_refl, ≼_trans, ≺-≼, ≺-trans, less-decides, equal-eq, eq-equal}
use Rattle.layout.specs.Layout.{Entry, grids_of, some_held, Ascends}
use Rattle.layout.specs.Lines.{no_entry}
use Rattle.calls.specs.Entries.{holds, place_in, holdings_in, insert, without, Once}
use Rattle.calls.specs.Calls.{kept}
use Rattle.calls.specs.Places.{Lower, Between}
use Rattle.calls.proofs.EntryLaws.{Entries, Grids, holds-in, in-holds, grid-in, insert-front, insert-later}
use Rattle.calls.proofs.HoldingLaws.{held-member, differs}

-- without the first grid, which comes before r
later : {x : List ℕ} {l : Grids} {r : List ℕ} {p : ℕ} → Lower (x ∷ l) r (suc p) → Lower l r p
later h = record { within = omega (arith, h.within); before = λ i b. h.before (suc i) (omega arith); after = λ i a b. h.after (suc i) (omega arith) (omega arith) }

-- without the first grid, which does not
none : {x : List ℕ} {l : Grids} {r : List ℕ} → Lower (x ∷ l) r zero → Lower l r zero
none h = record { within = omega arith; before = λ i b. absurd (not-suc-le-zero b); after = λ i a b. h.after (suc i) (omega arith) (omega arith) }

-- ---- the place

count-lower : (l : Grids) (r : List ℕ) (p : ℕ) → Lower l r p → length (select (λ x. less x r) l) ≡ p
unfolding select
count-lower [] r p h = omega (arith, h.within)
count-lower (x ∷ l) r zero h =
    ap length (select_no (λ y. less y r) x l (refuted (less x r) (less-decides x r) (λ k. k (h.after 0 (omega arith) (omega arith)))))
    ∙ count-lower l r zero (none h)
count-lower (x ∷ l) r (suc p) h =
    ap length (select_yes (λ y. less y r) x l ((less-decides x r).1 (h.before 0 (omega arith))))
    ∙ ap suc (count-lower l r p (later h))

pub place-lower : {l : Grids} {r : List ℕ} {p : ℕ} → Lower l r p → place_in l r ≡ suc p
unfolding place_in
place-lower {l} {r} {p} h = ap suc (count-lower l r p h)

insert-at : (l : Entries) (e : Entry) (p : ℕ) → Lower (grids_of l) e.grid p → insert e l ≡ take p l ++ (e ∷ drop p l)
unfolding insert
insert-at [] e zero h = refl
insert-at [] e (suc p) h = absurd (not-suc-le-zero h.within)
insert-at (x ∷ l) e zero h = insert-front e x l (h.after 0 (omega arith) (omega arith))
insert-at (x ∷ l) e (suc p) h = insert-later e x l (h.before 0 (omega arith)) ∙ ap (λ (y : Entries). x ∷ y) (insert-at l e p (later h))

-- ---- order by index

pub asc-at : (l : Grids) → Ascends l → (i j : ℕ) → i < j → j < length l → get_or l i [] ≺ get_or l j []
asc-at [] a i j h k = absurd (not-suc-le-zero k)
asc-at (x ∷ l) a i zero h k = absurd (not-suc-le-zero h)
asc-at (x ∷ l) a zero (suc j) h k = a.0 (get_or l j []) (mem-at l [] j (omega arith))
asc-at (x ∷ l) a (suc i) (suc j) h k = asc-at l a.1 i j (omega arith) (omega arith)

-- ---- whether it is held

pub holds-lower : {l : Grids} {r : List ℕ} {p : ℕ} → Lower l r p → p < length l → get_or l p [] ≡ r → holds r l ≡ true
holds-lower {l} {r} {p} h inside e = in-holds r l (Memᴰ.cast (sym e) (mem-at l [] p inside))

holds-no : (r : List ℕ) (l : Grids) → ((i : ℕ) → i < length l → get_or l i [] ≡ r → ⊥) → holds r l ≡ false
holds-no r l h = refuted (holds r l) (holds-in r l, in-holds r l) λ m. let s = of_mem l [] r m in h s.0 s.1 (sym s.2)

-- what comes before r is not r
not-before : (x r : List ℕ) → x ≺ r → x ≡ r → ⊥
not-before x r h e = h (rw e (≼_refl r))

pub holds-not-end : {l : Grids} {r : List ℕ} {p : ℕ} → Lower l r p → length l ≤ p → holds r l ≡ false
holds-not-end {l} {r} {p} h end = holds-no r l λ i b e. not-before (get_or l i []) r (h.before i (omega arith)) e

pub holds-not-there : {l : Grids} {r : List ℕ} {p : ℕ} → Ascends l → Lower l r p → (get_or l p [] ≡ r → ⊥) → holds r l ≡ false
holds-not-there {l} {r} {p} a h ne = holds-no r l λ i b e. go i b e (dec_lt i p) (dec_lt p i)
  where
    go : (i : ℕ) → i < length l → get_or l i [] ≡ r → Dec (i < p) → Dec (p < i) → ⊥
    go i b e (yes k) d = not-before (get_or l i []) r (h.before i k) e
    go i b e (no k) (yes m) = asc-at l a p i m b (rw e (h.after p (omega arith) (omega arith)))
    go i b e (no k) (no m) = let q : p ≡ i = omega arith in ne (rw q e)

-- ---- its holdings

pub asc-once : (l : Grids) → Ascends l → Once l
asc-once [] a = tt
asc-once (x ∷ l) a = (λ m. a.0 x m (≼_refl x), asc-once l a.1)

pub there-held : (l : Entries) → Ascends (grids_of l) → (r : List ℕ) (p : ℕ) → p < length l → get_or (grids_of l) p [] ≡ r → holdings_in r l ≡ (get_or l p no_entry).holdings
there-held l a r p inside e =
    let g = at_map (λ (x : Entry). x.grid) l p no_entry [] inside in
    ap (λ (x : List ℕ). holdings_in x l) (sym e ∙ g) ∙ held-member l (asc-once (grids_of l) a) (get_or l p no_entry) (mem-at l no_entry p inside)

-- ---- other holdings for it

differ : (r : List ℕ) (x : Entry) → (x.grid ≡ r → ⊥) → differs r x ≡ true
differ r x ne = rw (refuted (equal r x.grid) (equal-eq r x.grid, eq-equal r x.grid) (λ e. ne (sym e)))

select-all : (r : List ℕ) (l : Entries) → ((x : Entry) → Memᴰ x l → x.grid ≡ r → ⊥) → select (differs r) l ≡ l
unfolding select
select-all r [] h = refl
select-all r (x ∷ l) h = select_yes (differs r) x l (differ r x (h x (Memᴰ.head refl))) ∙ ap (λ (y : Entries). x ∷ y) (select-all r l (λ y m. h y (Memᴰ.tail m)))

-- the entries after the first of an ascending list have other grids
others : (x : Entry) (l : Entries) (r : List ℕ) → Ascends (grids_of (x ∷ l)) → x.grid ≡ r → select (differs r) l ≡ l
others x l r a e = select-all r l (λ y m q. a.0 y.grid (grid-in l y m) (rw (q, e) (≼_refl r)))

without_at : (l : Entries) (r : List ℕ) (p : ℕ) → Ascends (grids_of l) → Lower (grids_of l) r p → p < length l → get_or (grids_of l) p [] ≡ r → select (differs r) l ≡ take p l ++ drop (suc p) l
without_at [] r p a h inside e = absurd (not-suc-le-zero inside)
without_at (x ∷ l) r zero a h inside e = select_no (differs r) x l (rw (eq-equal r x.grid (sym e))) ∙ others x l r a e
without_at (x ∷ l) r (suc p) a h inside e =
    select_yes (differs r) x l (differ r x (not-before x.grid r (h.before 0 (omega arith))))
    ∙ ap (λ (y : Entries). x ∷ y) (without_at l r p a.1 (later h) (omega arith) e)

-- an entry before all of a list
insert-first : (l : Entries) (x : Entry) → ((y : List ℕ) → Memᴰ y (grids_of l) → x.grid ≺ y) → insert x l ≡ x ∷ l
unfolding insert
insert-first [] x h = refl
insert-first (y ∷ l) x h = insert-front x y l (≺-≼ x.grid y.grid (h y.grid (Memᴰ.head refl)))

replaced-at : (l : Entries) (x : Entry) (p : ℕ) → Ascends (grids_of l) → Lower (grids_of l) x.grid p → p < length l → get_or (grids_of l) p [] ≡ x.grid →
    insert x (select (differs x.grid) l) ≡ take p l ++ (x ∷ drop (suc p) l)
replaced-at [] x p a h inside e = absurd (not-suc-le-zero inside)
replaced-at (y ∷ l) x zero a h inside e =
    ap (insert x) (select_no (differs x.grid) y l (rw (eq-equal x.grid y.grid (sym e))) ∙ others y l x.grid a e)
    ∙ insert-first l x (λ z m. rw e at (a.0 z m))
replaced-at (y ∷ l) x (suc p) a h inside e =
    ap (insert x) (select_yes (differs x.grid) y l (differ x.grid y (not-before y.grid x.grid (h.before 0 (omega arith)))))
    ∙ insert-later x y (select (differs x.grid) l) (h.before 0 (omega arith))
    ∙ ap (λ (z : Entries). y ∷ z) (replaced-at l x p a.1 (later h) (omega arith) e)

module _ (l : Entries) (r h : List ℕ) (p : ℕ) (w : Lower (grids_of l) r p) where
  pub kept_new : holds r (grids_of l) ≡ false → some_held h ≡ true → kept r h l ≡ take p l ++ (record { grid = r; holdings = h } ∷ drop p l)
  unfolding kept without
  kept_new new t =
      rw (t, kept)
      (ap (insert (record { grid = r; holdings = h })) (select-all r l (λ x m e. true≢false (sym (in-holds r (grids_of l) (Memᴰ.cast (sym e) (grid-in l x m))) ∙ new)))
      ∙ insert-at l (record { grid = r; holdings = h }) p w)

  module _ (a : Ascends (grids_of l)) (inside : p < length l) (e : get_or (grids_of l) p [] ≡ r) where
    pub kept_there : some_held h ≡ true → kept r h l ≡ take p l ++ (record { grid = r; holdings = h } ∷ drop (suc p) l)
    unfolding kept without
    kept_there t = rw (t, kept) (replaced-at l (record { grid = r; holdings = h }) p a w inside e)

    pub kept-gone : some_held h ≡ false → kept r h l ≡ take p l ++ drop (suc p) l
    unfolding kept without
    kept-gone t = rw (t, kept) (without_at l r p a w inside e)

-- ---- a binary search

pub between_start : (l : Grids) (r : List ℕ) → Between l r 0 (length l)
between_start l r = record { ordered = omega arith; within = omega arith; before = λ i b. absurd (not-suc-le-zero b); after = λ i a b. absurd (omega arith) }

pub between-low : {l : Grids} {r : List ℕ} {low high : ℕ} → Ascends l → Between l r low high → (mid : ℕ) → low ≤ mid → mid < high → get_or l mid [] ≺ r → Between l r (mid + 1) high
between-low {l} {r} {low} {high} a h mid lm mh below = record { ordered = omega arith; within = h.within; before = λ i b. go i b (dec_lt i mid); after = h.after }
  where
    go : (i : ℕ) → i < mid + 1 → Dec (i < mid) → get_or l i [] ≺ r
    go i b (yes k) = ≺-trans (get_or l i []) (get_or l mid []) r (asc-at l a i mid k (omega (arith, h.within))) below
    go i b (no k) = let q : i ≡ mid = omega arith in rw q below

pub between-high : {l : Grids} {r : List ℕ} {low high : ℕ} → Ascends l → Between l r low high → (mid : ℕ) → low ≤ mid → mid < high → r ≼ get_or l mid [] → Between l r low mid
between-high {l} {r} {low} {high} a h mid lm mh above = record { ordered = lm; within = omega (arith, h.within); before = h.before; after = λ i b c. go i b c (dec_lt mid i) }
  where
    go : (i : ℕ) → mid ≤ i → i < length l → Dec (mid < i) → r ≼ get_or l i []
    go i b c (yes k) = ≼_trans r (get_or l mid []) (get_or l i []) above (≺-≼ (get_or l mid []) (get_or l i []) (asc-at l a mid i k c))
    go i b c (no k) = let q : i ≡ mid = omega arith in rw q above

pub between_lower : {l : Grids} {r : List ℕ} {low high : ℕ} → Between l r low high → high ≤ low → Lower l r low
between_lower h end = record { within = omega (arith, h.ordered, h.within); before = h.before; after = λ i a b. h.after i (omega arith) b }
