-- Two lists of the live classes are the same but for order, so the count and both counts of bounds are what any such list says, of every implementation.
--
--   ascendingly l  ==  the grids of l, ascending
--   lists-one    ==  two lists of the live classes, ascending, are equal
--   lists-inside ==  as many grids of either lie in bounds
--   counts-live  ==  the count is the length of any such list
--   sent-live    ==  an accepted count of bounds counts the grids of any such list that lie in them
--   pruned-live  ==  a count of what prune leaves counts those that lie in the bounds as sent
use mathlib.Core.Path.{◌≡◌, refl, sym, ap, ◌∙◌}
use mathlib.Core.List.Memᴰ
use mathlib.Core.List.{List, [], ◌∷◌, map, Memᴰ}
use mathlib.Core.Bool.{Bool, true}
use Prim.Native.Nat.{ℕ}
use lib.ListN.{length, length-map}
use Rattle.permutations.specs.Lists.{select}
use Rattle.grids.specs.Lent.{Bytes}
use Rattle.layout.specs.Layout.{Shape, Entry, grids_of, count}
use Rattle.calls.specs.Calls.{Outcome, accepted}
use Rattle.machine.specs.CallLists.{Call, Implementation, left}
use Rattle.machine.specs.Machine.{sorted}
use Rattle.calls.specs.Entries.{Once}
use Rattle.machine.specs.Demand3.{live, ListsLive, pruned_for, AfterOpen}
use Rattle.calls.proofs.EntryLaws.{Entries, Grids, asc-ext}
use Rattle.machine.proofs.SetLaws.{in-sorted, of-sorted, sorted-asc, length-sorted, count-sorted}
use Rattle.machine.proofs.CountLaws.{inside}

-- grids as entries, and sorted
abbrev bare : Grids → Entries
bare l = map (λ (r : List ℕ). record { grid = r; holdings = [] }) l

unfoldable pub ascendingly : Grids → Grids
ascendingly l = grids_of (sorted (bare l))

bare-grids : (l : Grids) → grids_of (bare l) ≡ l
bare-grids [] = refl
bare-grids (r ∷ l) = ap (λ (k : Grids). r ∷ k) (bare-grids l)

bare-within : (k l : Grids) → ((r : List ℕ) → Memᴰ r k → Memᴰ r l) → (e : Entry) → Memᴰ e (bare k) → Memᴰ e (bare l)
bare-within k l f e m = let p = Memᴰ.of_map (λ (r : List ℕ). record { grid = r; holdings = [] }) k m in Memᴰ.cast (sym p.2) (Memᴰ.map (λ (r : List ℕ). record { grid = r; holdings = [] }) (f p.0 p.1))

bare-once : (l : Grids) → Once l → Once (grids_of (bare l))
bare-once l o = rw (bare-grids l) o

-- what one list of the live classes has, another has
listed : (m n : ℕ) (live : List ℕ → Bool) (k l : Grids) → ListsLive m n live k → ListsLive m n live l → (r : List ℕ) → Memᴰ r k → Memᴰ r l
listed m n live k l x y r j =
    let p = x.leasts r j in
    Memᴰ.cast (sym p.1) ((y.exact r p.0).0 ((x.exact r p.0).1 (Memᴰ.cast p.1 j)))

pub lists-one : (m n : ℕ) (live : List ℕ → Bool) (k l : Grids) → ListsLive m n live k → ListsLive m n live l → ascendingly k ≡ ascendingly l
unfolding ascendingly
lists-one m n live k l x y =
    ap (λ (es : Entries). grids_of es)
    (asc-ext (sorted (bare k)) (sorted (bare l)) (sorted-asc (bare k) (bare-once k x.once)) (sorted-asc (bare l) (bare-once l y.once))
    (λ e q. in-sorted (bare l) e (bare-within k l (listed m n live k l x y) e (of-sorted (bare k) e q)))
    (λ e q. in-sorted (bare k) e (bare-within l k (listed m n live l k y x) e (of-sorted (bare l) e q))))

length-ascendingly : (l : Grids) → length (ascendingly l) ≡ length l
unfolding ascendingly
length-ascendingly l = length-map (sorted (bare l)) _ ∙ length-sorted (bare l) ∙ sym (length-map (bare l) (λ (e : Entry). e.grid)) ∙ ap length (bare-grids l)

count-ascendingly : (t : List ℕ → Bool) (l : Grids) → Once l → length (select t (ascendingly l)) ≡ length (select t l)
unfolding ascendingly
count-ascendingly t l o = count-sorted t (bare l) (bare-once l o) ∙ ap (λ (k : Grids). length (select t k)) (bare-grids l)

-- so as many of either lie in bounds
pub lists-inside : (s : Shape) (live : List ℕ → Bool) (k l : Grids) → ListsLive s.rows s.columns live k → ListsLive s.rows s.columns live l → (low high : List ℕ) → inside s k low high ≡ inside s l low high
lists-inside s live k l x y low high =
    sym (count-ascendingly _ k x.once)
    ∙ ap (λ (z : Grids). inside s z low high) (lists-one s.rows s.columns live k l x y)
    ∙ count-ascendingly _ l y.once

module _ (i : Implementation) (s : Shape) (b : List ℕ) (calls : List Call) (a : AfterOpen i s b calls) (l : Grids) (y : ListsLive s.rows s.columns (live i s b calls) l) where
  one : ascendingly a.classes ≡ ascendingly l
  one = lists-one s.rows s.columns (live i s b calls) a.classes l a.lists y

  pub counts-live : count (left i b calls) ≡ length l
  counts-live = a.counts ∙ sym (length-ascendingly a.classes) ∙ ap length one ∙ length-ascendingly l

  as_many : (low high : List ℕ) → inside s a.classes low high ≡ inside s l low high
  as_many low high = lists-inside s (live i s b calls) a.classes l a.lists y low high

  pub sent-live : (low high : List ℕ) → Bytes low → Bytes high → accepted (i.counts (left i b calls) low high).number ≡ true →
      (i.counts (left i b calls) low high).place ≡ inside s l low high
  sent-live low high x y h = a.counts-sent low high x y h ∙ as_many low high

  pub pruned-live : (low high : List ℕ) → (pruned_for s low high).number ≡ 0 →
      (i.counts (left i b calls) (pruned_for s low high).low (pruned_for s low high).high).place ≡ inside s l low high
  pruned-live low high z = ap (λ (o : Outcome). o.place) (a.counts-pruned low high z) ∙ as_many low high
