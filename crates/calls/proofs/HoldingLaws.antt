-- The holdings of a grid among entries.
--
--   held-member, held_none, none-by, held-here  ==  the holdings of an entry's grid, of a grid that no entry has, and of one that a client holds
--   here, later        ==  those of a list: the first entry has the grid, or it has not
--   HoldingsFit h      ==  as many as there are clients, each at most 999
--   holdings-fit, changed-fit, fit-held  ==  a register's fit; with one changed; where not all are 0
--   differs r e        ==  the entry e has another grid than r
--   of-without, without-asc, without-once, without-none, without_fewer, without-shorter  ==  without a grid: what is left, in what order, that it is not left, and how many are
--   chosen t x y       ==  x for a yes, y for a no
--   Becomes l r h l'   ==  l' has the holdings h for the grid r, and those of l for every other
--   inserted           ==  an insertion changes none but those of its grid
--   front-becomes, gone-becomes, kept-becomes  ==  so it is with an entry in front of those without its grid; without it, where all are 0; after kept
--   one t              ==  1 for a yes, 0 for a no
--   more-held, fewer-held  ==  what a client holds once one client has one more, one fewer, of a grid
use mathlib.Core.Path.{◌≡◌, refl, sym, ap, subst, ◌∙◌}
use mathlib.Core.List.Memᴰ
use mathlib.Core.List.{List, [], ◌∷◌, Memᴰ}
use mathlib.Core.Bool.{Bool, true, false, true≢false, not, ◌&&◌}
use mathlib.Core.Logic.{◌⊎◌, inl, inr}
use Prim.Native.Nat.{ℕ, ◌+◌, ◌-◌, ◌≤◌, ◌<◌}
use native.Mathlib.Decide.{ℕ_discrete}
use native.Mathlib.Omega.{arith}
use lib.ListN.{length, get_or, set, length-set}
use lib.Seq.{get_or-set_same, get_or-set_other}
use lib.Dec.{eqb}
use borrow.Author.Tests.{eq-eqb, eqb-true}
use Rattle.permutations.specs.Lists.{select}
use Rattle.permutations.proofs.BoolLaws.{and_yes, yes_or_no, refuted}
use Rattle.permutations.proofs.SelectLaws.{select_yes, select_no, of-select, length-select}
use Rattle.grids.specs.Order.{◌≼◌, equal}
use Rattle.grids.proofs.OrderLaws.{≼-dec, equal-eq, eq-equal, equal-sym}
use Rattle.layout.specs.Layout.{Entry, clients, most_held, no_holdings, grids_of, holding, changed, Ascends, IsHoldings, some_held}
use Rattle.layout.proofs.HoldingLaws.{length_none, none-at, holding-changed, holding-other, holding-none, held-some, none-held}
use Rattle.calls.specs.Entries.{more, fewer, holds, holdings_in, held_by, insert, without, Once}
use Rattle.calls.specs.Calls.{kept}
use Rattle.calls.proofs.EntryLaws.{Entries, holds-in, in-holds, grid-in, of-grids, insert-front, insert-later, select-asc, select-once}

-- ---- those of a grid among entries

pub here : (a : List ℕ) (e : Entry) (l : Entries) → equal a e.grid ≡ true → holdings_in a (e ∷ l) ≡ e.holdings
unfolding holdings_in
here a e l t = rw (t, holdings_in)

pub later : (a : List ℕ) (e : Entry) (l : Entries) → equal a e.grid ≡ false → holdings_in a (e ∷ l) ≡ holdings_in a l
unfolding holdings_in
later a e l t = rw (t, holdings_in)

-- two grids, of which a third is only one
other-grid : (a r g : List ℕ) → equal r a ≡ false → r ≡ g → equal a g ≡ false
other-grid a r g n e = rw (← e) (equal-sym a r ∙ n)

pub held-member : (l : Entries) → Once (grids_of l) → (e : Entry) → Memᴰ e l → holdings_in e.grid l ≡ e.holdings
held-member [] o e m = absurd (Memᴰ.not-nil m)
held-member (x ∷ l) o e m = go (held-member l o.1 e) (Memᴰ.cases_cons m)
  where
    other : Memᴰ e l → equal e.grid x.grid ≡ false
    other k = refuted (equal e.grid x.grid) (equal-eq e.grid x.grid, eq-equal e.grid x.grid) (λ d. o.0 (Memᴰ.cast (sym d) (grid-in l e k)))

    go : (Memᴰ e l → holdings_in e.grid l ≡ e.holdings) → (e ≡ x) ⊎ Memᴰ e l → holdings_in e.grid (x ∷ l) ≡ e.holdings
    go ih (inl d) = here e.grid x l (eq-equal e.grid x.grid (ap (λ (y : Entry). y.grid) d)) ∙ ap (λ (y : Entry). y.holdings) (sym d)
    go ih (inr k) = later e.grid x l (other k) ∙ ih k

pub held_none : (l : Entries) (r : List ℕ) → holds r (grids_of l) ≡ false → holdings_in r l ≡ no_holdings
unfolding holdings_in
held_none [] r h = refl
held_none (x ∷ l) r h = go (held_none l r) (equal r x.grid) refl
  where
    rest : holds r (grids_of l) ≡ false
    rest = refuted (holds r (grids_of l)) (holds-in r (grids_of l), in-holds r (grids_of l)) (λ m. true≢false (sym (in-holds r (grids_of (x ∷ l)) (Memᴰ.tail m)) ∙ h))

    go : (holds r (grids_of l) ≡ false → holdings_in r l ≡ no_holdings) → (t : Bool) → equal r x.grid ≡ t → holdings_in r (x ∷ l) ≡ no_holdings
    go ih true e = absurd (true≢false (sym (in-holds r (grids_of (x ∷ l)) (Memᴰ.head (equal-eq r x.grid e))) ∙ h))
    go ih false e = later r x l e ∙ ih rest

pub none-by : (l : Entries) (r : List ℕ) (k : ℕ) → holds r (grids_of l) ≡ false → held_by k r l ≡ 0
unfolding held_by
none-by l r k h = ap (holding k) (held_none l r h) ∙ holding-none k

pub held-here : (l : Entries) (r : List ℕ) (k : ℕ) → 0 < held_by k r l → holds r (grids_of l) ≡ true
held-here l r k p = go (yes_or_no (holds r (grids_of l)))
  where
    go : (holds r (grids_of l) ≡ true) ⊎ (holds r (grids_of l) ≡ false) → holds r (grids_of l) ≡ true
    go (inl t) = t
    go (inr t) = absurd (omega (arith, p, none-by l r k t))

-- what holds of every entry's holdings, and of none, holds of a grid's
holdings-have : (P : List ℕ → Type 0) → P no_holdings → (l : Entries) → ((e : Entry) → Memᴰ e l → P e.holdings) → (r : List ℕ) → P (holdings_in r l)
unfolding holdings_in
holdings-have P n [] h r = n
holdings-have P n (x ∷ l) h r = go (holdings-have P n l (λ e m. h e (Memᴰ.tail m)) r) (yes_or_no (equal r x.grid))
  where
    go : P (holdings_in r l) → (equal r x.grid ≡ true) ⊎ (equal r x.grid ≡ false) → P (holdings_in r (x ∷ l))
    go ih (inl t) = subst P (sym (here r x l t)) (h x (Memᴰ.head refl))
    go ih (inr t) = subst P (sym (later r x l t)) ih

pub record HoldingsFit (h : List ℕ) : Type 0 where
  pub sized : length h ≡ clients
  pub capped : (k : ℕ) → k < clients → get_or h k 0 ≤ most_held

pub holdings-fit : (l : Entries) → ((e : Entry) → Memᴰ e l → IsHoldings e.holdings) → (r : List ℕ) → HoldingsFit (holdings_in r l)
holdings-fit l h = holdings-have HoldingsFit (record { sized = length_none; capped = λ k i. omega (arith, none-at k) }) l (λ e m. record { sized = (h e m).sized; capped = (h e m).capped })

pub changed-fit : (c x : ℕ) (h : List ℕ) → x ≤ most_held → HoldingsFit h → HoldingsFit (changed c x h)
unfolding changed
changed-fit c x h small f = record { sized = length-set h (c - 1) x ∙ f.sized; capped = λ k i. go k i (ℕ_discrete k (c - 1)) }
  where
    go : (k : ℕ) → k < clients → Dec (k ≡ c - 1) → get_or (set h (c - 1) x) k 0 ≤ most_held
    go k i (yes e) = rw e (omega (arith, get_or-set_same h (c - 1) x 0 (omega (arith, f.sized, e)), small))
    go k i (no n) = omega (arith, get_or-set_other h (c - 1) k x 0 n, f.capped k i)

pub fit-held : (h : List ℕ) → HoldingsFit h → some_held h ≡ true → IsHoldings h
unfolding holding
fit-held h f t = let s = held-some h f.sized t in record { sized = f.sized; capped = f.capped; held = (s.0 - 1, omega (arith, s.1, s.2), s.3) }

-- ---- without a grid

abbrev pub differs : List ℕ → Entry → Bool
differs r e = not (equal r e.grid)

pub without-none : (r : List ℕ) (l : Entries) → Memᴰ r (grids_of (without r l)) → ⊥
unfolding without
without-none r l m =
    let p = of-grids (without r l) r m in
    true≢false (sym (of-select (differs r) p.0 l p.1).1 ∙ ap not (eq-equal r p.0.grid (sym p.2)))

pub of-without : (r : List ℕ) (l : Entries) (e : Entry) → Memᴰ e (without r l) → Memᴰ e l
unfolding without
of-without r l e m = (of-select (differs r) e l m).0

pub without-asc : (r : List ℕ) (l : Entries) → Ascends (grids_of l) → Ascends (grids_of (without r l))
unfolding without
without-asc r l a = select-asc (differs r) l a

pub without-once : (r : List ℕ) (l : Entries) → Once (grids_of l) → Once (grids_of (without r l))
unfolding without
without-once r l o = select-once (differs r) l o

pub without_fewer : (r : List ℕ) (l : Entries) → length (without r l) ≤ length l
unfolding without
without_fewer r l = length-select (differs r) l

pub without-shorter : (r : List ℕ) (l : Entries) → Memᴰ r (grids_of l) → length (without r l) < length l
unfolding without
without-shorter r [] m = absurd (Memᴰ.not-nil m)
without-shorter r (x ∷ l) m = go (without-shorter r l) (yes_or_no (equal r x.grid)) (Memᴰ.cases_cons m)
  where
    go : (Memᴰ r (grids_of l) → length (select (differs r) l) < length l) → (equal r x.grid ≡ true) ⊎ (equal r x.grid ≡ false) → (r ≡ x.grid) ⊎ Memᴰ r (grids_of l) →
        length (select (differs r) (x ∷ l)) < length (x ∷ l)
    go ih (inl e) k = rw (select_no (differs r) x l (rw e)) (omega (arith, length-select (differs r) l))
    go ih (inr e) (inl d) = absurd (true≢false (sym (eq-equal r x.grid d) ∙ e))
    go ih (inr e) (inr k) = rw (select_yes (differs r) x l (rw e)) (omega (arith, ih k))

-- ---- after a change

abbrev pub chosen : {A : Type 0} → Bool → A → A → A
chosen t x y = elim t [ true ↦ x | false ↦ y ]

abbrev pub Becomes : Entries → List ℕ → List ℕ → Entries → Type 0
Becomes l r h l' = (a : List ℕ) → holdings_in a l' ≡ chosen (equal r a) h (holdings_in a l)

without-becomes : (r : List ℕ) (l : Entries) → Becomes l r no_holdings (without r l)
unfolding without holdings_in select
without-becomes r [] a = none (equal r a)
  where
    none : (t : Bool) → no_holdings ≡ chosen t no_holdings no_holdings
    none true = refl
    none false = refl
without-becomes r (x ∷ l) a = go (without-becomes r l a) (yes_or_no (equal r x.grid)) (yes_or_no (equal r a)) (yes_or_no (equal a x.grid))
  where
    go : holdings_in a (select (differs r) l) ≡ chosen (equal r a) no_holdings (holdings_in a l) → (equal r x.grid ≡ true) ⊎ (equal r x.grid ≡ false) → (equal r a ≡ true) ⊎ (equal r a ≡ false) → (equal a x.grid ≡ true) ⊎ (equal a x.grid ≡ false) →
        holdings_in a (select (differs r) (x ∷ l)) ≡ chosen (equal r a) no_holdings (holdings_in a (x ∷ l))
    go ih (inl e) (inl d) k = rw (select_no (differs r) x l (rw e), d) (rw d at ih)
    go ih (inl e) (inr d) k = rw (select_no (differs r) x l (rw e), d, later a x l (other-grid a r x.grid d (equal-eq r x.grid e))) (rw d at ih)
    go ih (inr e) (inl d) k = rw (select_yes (differs r) x l (rw e), d, later a x (select (differs r) l) (rw (equal-eq r a d) at e)) (rw d at ih)
    go ih (inr e) (inr d) (inl k) = rw (select_yes (differs r) x l (rw e), d, here a x (select (differs r) l) k, here a x l k)
    go ih (inr e) (inr d) (inr k) = rw (select_yes (differs r) x l (rw e), d, later a x (select (differs r) l) k, later a x l k) (rw d at ih)

pub inserted : (e : Entry) (l : Entries) → (Memᴰ e.grid (grids_of l) → ⊥) → (a : List ℕ) → holdings_in a (insert e l) ≡ holdings_in a (e ∷ l)
unfolding insert
inserted e [] new a = refl
inserted e (x ∷ l) new a = go (inserted e l (λ m. new (Memᴰ.tail m)) a) (≼-dec e.grid x.grid) (yes_or_no (equal a e.grid)) (yes_or_no (equal a x.grid))
  where
    differ : equal a x.grid ≡ true → equal a e.grid ≡ false
    differ k = refuted (equal a e.grid) (equal-eq a e.grid, eq-equal a e.grid) (λ d. new (Memᴰ.head (sym d ∙ equal-eq a x.grid k)))

    go : holdings_in a (insert e l) ≡ holdings_in a (e ∷ l) → Dec (e.grid ≼ x.grid) → (equal a e.grid ≡ true) ⊎ (equal a e.grid ≡ false) → (equal a x.grid ≡ true) ⊎ (equal a x.grid ≡ false) → holdings_in a (insert e (x ∷ l)) ≡ holdings_in a (e ∷ x ∷ l)
    go ih (yes p) d k = ap (holdings_in a) (insert-front e x l p)
    go ih (no p) d (inl k) = ap (holdings_in a) (insert-later e x l p) ∙ here a x (insert e l) k ∙ sym (later a e (x ∷ l) (differ k) ∙ here a x l k)
    go ih (no p) (inl d) (inr k) = ap (holdings_in a) (insert-later e x l p) ∙ later a x (insert e l) k ∙ ih ∙ here a e l d ∙ sym (here a e (x ∷ l) d)
    go ih (no p) (inr d) (inr k) = ap (holdings_in a) (insert-later e x l p) ∙ later a x (insert e l) k ∙ ih ∙ later a e l d ∙ sym (later a e (x ∷ l) d ∙ later a x l k)

pub front-becomes : (r h : List ℕ) (l : Entries) (a : List ℕ) → holdings_in a (record { grid = r; holdings = h } ∷ without r l) ≡ chosen (equal r a) h (holdings_in a l)
front-becomes r h l a = go (equal r a) refl
  where
    go : (t : Bool) → equal r a ≡ t → holdings_in a (record { grid = r; holdings = h } ∷ without r l) ≡ chosen t h (holdings_in a l)
    go true e = here a (record { grid = r; holdings = h }) (without r l) (equal-sym a r ∙ e)
    go false e = later a (record { grid = r; holdings = h }) (without r l) (equal-sym a r ∙ e) ∙ without-becomes r l a ∙ rw e

pub gone-becomes : (r h : List ℕ) (l : Entries) → length h ≡ clients → some_held h ≡ false → Becomes l r h (without r l)
gone-becomes r h l z t a = rw (none-held h z t) (without-becomes r l a)

pub kept-becomes : (r h : List ℕ) (l : Entries) → length h ≡ clients → Becomes l r h (kept r h l)
unfolding kept
kept-becomes r h l z a = go (yes_or_no (some_held h))
  where
    go : (some_held h ≡ true) ⊎ (some_held h ≡ false) → holdings_in a (kept r h l) ≡ chosen (equal r a) h (holdings_in a l)
    go (inl t) = rw (t, kept) (inserted (record { grid = r; holdings = h }) (without r l) (without-none r l) a ∙ front-becomes r h l a)
    go (inr t) = rw (t, kept) (gone-becomes r h l z t a)

-- ---- what a client holds afterwards

abbrev pub one : Bool → ℕ
one t = elim t [ true ↦ 1 | false ↦ 0 ]

module _ (l l' : Entries) (r : List ℕ) (c : ℕ) (low : 1 ≤ c) (high : c ≤ clients) (z : length (holdings_in r l) ≡ clients) (a : List ℕ) (k : ℕ) (first : 1 ≤ k) where
  -- with x for client c's holding of r
  held_after : (x : ℕ) → Becomes l r (changed c x (holdings_in r l)) l' →
      ((t : Bool) → (eqb c k && equal r a) ≡ t → held_by k a l' ≡ chosen t x (held_by k a l))
  unfolding held_by
  held_after x b = go (ℕ_discrete c k) (equal r a) refl
    where
      other : (u : Bool) → equal r a ≡ u → (c ≡ k → ⊥) → holding k (holdings_in a l') ≡ holding k (holdings_in a l)
      other true e n = ap (holding k) (b a ∙ rw e) ∙ holding-other c k x (holdings_in r l) low first n ∙ ap (λ (y : List ℕ). holding k (holdings_in y l)) (equal-eq r a e)
      other false e n = ap (holding k) (b a ∙ rw e)

      same : (u : Bool) → equal r a ≡ u → c ≡ k → holding k (holdings_in a l') ≡ chosen u x (holding k (holdings_in a l))
      same true e q = ap (holding k) (b a ∙ ap (λ (t : Bool). chosen t (changed c x (holdings_in r l)) (holdings_in a l)) e) ∙ ap (λ (j : ℕ). holding j (changed c x (holdings_in r l))) (sym q) ∙ holding-changed c x (holdings_in r l) low (omega arith)
      same false e q = ap (holding k) (b a ∙ rw e)

      both : (s u t : Bool) → (s && u) ≡ t → s ≡ true → u ≡ t
      both s u t e f = rw f at e

      neither : (s u t : Bool) → (s && u) ≡ t → s ≡ false → t ≡ false
      neither s u t e f = sym (rw f at e)

      go : Dec (c ≡ k) → (u : Bool) → equal r a ≡ u → (t : Bool) → (eqb c k && equal r a) ≡ t → holding k (holdings_in a l') ≡ chosen t x (holding k (holdings_in a l))
      go (yes q) u e t f = same t (both (eqb c k) (equal r a) t f (eq-eqb c k q)) q
      go (no n) u e t f =
          rw (neither (eqb c k) (equal r a) t f (refuted (eqb c k) (eqb-true c k, eq-eqb c k) n))
          (other u e n)

  -- the holding that is changed
  theirs : (eqb c k && equal r a) ≡ true → held_by k a l ≡ holding c (holdings_in r l)
  unfolding held_by
  theirs t = let p = and_yes (eqb c k) (equal r a) t in rw (eqb-true c k p.0, equal-eq r a p.1)

  pub more-held : Becomes l r (more c (holdings_in r l)) l' → held_by k a l' ≡ held_by k a l + one (eqb c k && equal r a)
  unfolding more
  more-held b = go (eqb c k && equal r a) refl
    where
      go : (t : Bool) → (eqb c k && equal r a) ≡ t → held_by k a l' ≡ held_by k a l + one t
      go true e = held_after _ b true e ∙ ap (λ (x : ℕ). x + 1) (sym (theirs e))
      go false e = held_after _ b false e ∙ omega arith

  pub fewer-held : 0 < held_by c r l → Becomes l r (fewer c (holdings_in r l)) l' → held_by k a l' + one (eqb c k && equal r a) ≡ held_by k a l
  unfolding fewer held_by
  fewer-held p b = go (eqb c k && equal r a) refl
    where
      whole : holding c (holdings_in r l) - 1 + 1 ≡ holding c (holdings_in r l)
      whole = omega (arith, p)

      go : (t : Bool) → (eqb c k && equal r a) ≡ t → held_by k a l' + one t ≡ held_by k a l
      go true e = ap (λ (x : ℕ). x + 1) (held_after _ b true e) ∙ whole ∙ sym (theirs e)
      go false e = ap (λ (x : ℕ). x + 0) (held_after _ b false e) ∙ omega arith
