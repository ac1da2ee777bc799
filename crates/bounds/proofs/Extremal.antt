-- Rules that survive when some cells fall and the others rise: one grid decides what they keep, and that is an interval.
-- `falls` says which cells fall.
--
--   Toward t a b                  ==  b ranks no higher than a if t is true, no lower if t is false
--   Directed falls size Rule      ==  the rule passes from a grid to each whose cells rank no higher where cells fall, no lower elsewhere
--   extremal falls size low high  ==  the low of each cell that falls, the high of each other
--   length-extremal, extremal-low, extremal-high  ==  its length and entries
-- For a directed rule, and bounds that questions 6, 7 and 8 let through:
--   obeyed-extremal               ==  some grid in the bounds obeys the rule exactly if the extremal grid does
--   kept-extremal                 ==  a value within the bounds of a cell is kept exactly if the extremal grid with it there obeys the rule
--   kept-interval                 ==  a value that ranks between two kept values is kept
--   kept-exactly                  ==  where some grid obeys the rule, the values kept are those within the new bounds
use mathlib.Core.Path.{◌≡◌, refl, ◌∙◌}
use mathlib.Core.List.{List}
use mathlib.Core.Bool.{Bool, true, false}
use mathlib.Core.Logic.{◌↔◌}
use Prim.Native.Nat.{ℕ, ◌≤◌, ◌<◌}
use native.Mathlib.Decide.{ℕ_discrete}
use native.Mathlib.Omega.{arith}
use lib.ListN.{length, get_or, set, length-set}
use lib.Seq.{get_or-set_same, get_or-set_other}
use Rattle.permutations.specs.Lists.{tabulate}
use Rattle.permutations.proofs.ListLaws.{length-tabulate, at-tabulate}
use Rattle.grids.specs.Order.{rank}
use Rattle.bounds.specs.Bounds.{IsBounds, InBounds}
use Rattle.bounds.specs.Kept.{Obeyed, Kept, kept_low, kept_high}
use Rattle.bounds.proofs.BoundsLaws.{Fits, fit-cells}
use Rattle.bounds.proofs.KeptLaws.{kept-bounds, obeyed-ends}

abbrev pub Toward : Bool → ℕ → ℕ → Type 0
Toward true a b = rank b ≤ rank a
Toward false a b = rank a ≤ rank b

abbrev pub Directed : (ℕ → Bool) → ℕ → (List ℕ → Type 0) → Type 0
Directed falls size Rule =
    (g e : List ℕ) → length g ≡ size → length e ≡ size → ((k : ℕ) → k < size → Toward (falls k) (get_or g k 0) (get_or e k 0)) → Rule g → Rule e

-- ---- the extremal grid

-- a if cells fall, b if they rise
abbrev end : Bool → ℕ → ℕ → ℕ
end t a b = elim t [ true ↦ a | false ↦ b ]

toward-self : (t : Bool) (v : ℕ) → Toward t v v
toward-self true v = omega arith
toward-self false v = omega arith

toward-end : (t : Bool) (a b v : ℕ) → rank a ≤ rank v → rank v ≤ rank b → Toward t v (end t a b)
toward-end true a b v h k = h
toward-end false a b v h k = k

end_fits : (t : Bool) {top a b : ℕ} → a ≤ top → b ≤ top → rank a ≤ rank b → Fits top a b (end t a b)
end_fits true p q h = omega arith
end_fits false p q h = omega arith

unfoldable pub extremal : (ℕ → Bool) → ℕ → List ℕ → List ℕ → List ℕ
extremal falls size low high = tabulate 0 size (λ k. end (falls k) (get_or low k 0) (get_or high k 0))

module _ (falls : ℕ → Bool) (size : ℕ) (low high : List ℕ) where
  pub length-extremal : length (extremal falls size low high) ≡ size
  unfolding extremal
  length-extremal = length-tabulate 0 size _

  at-extremal : (k : ℕ) → k < size → get_or (extremal falls size low high) k 0 ≡ end (falls k) (get_or low k 0) (get_or high k 0)
  unfolding extremal
  at-extremal k b = at-tabulate size (λ k. end (falls k) (get_or low k 0) (get_or high k 0)) k 0 b

  pub extremal-low : (k : ℕ) → k < size → falls k ≡ true → get_or (extremal falls size low high) k 0 ≡ get_or low k 0
  extremal-low k b e = at-extremal k b ∙ rw e

  pub extremal-high : (k : ℕ) → k < size → falls k ≡ false → get_or (extremal falls size low high) k 0 ≡ get_or high k 0
  extremal-high k b e = at-extremal k b ∙ rw e

-- what holds of v at k, and of each entry of x, holds of each entry of x with v at k
set_all : (P : ℕ → ℕ → Type 0) (x : List ℕ) (k v : ℕ) → k < length x → P k v → ((t : ℕ) → P t (get_or x t 0)) → (t : ℕ) → P t (get_or (set x k v) t 0)
set_all P x k v b p f t = go (ℕ_discrete t k)
  where
    go : Dec (t ≡ k) → P t (get_or (set x k v) t 0)
    go (yes e) = rw (e, get_or-set_same x k v 0 b) p
    go (no ne) = rw (get_or-set_other x k t v 0 ne) (f t)

-- ---- what a directed rule keeps

module _ (Rule : List ℕ → Type 0) (falls : ℕ → Bool) (size : ℕ) (directed : Directed falls size Rule) (top : ℕ) (low high : List ℕ) (ok : IsBounds size top low high) where
  toward-extremal : {g : List ℕ} → InBounds size top low high g → (k : ℕ) → k < size → Toward (falls k) (get_or g k 0) (get_or (extremal falls size low high) k 0)
  toward-extremal {g} i k b = rw (at-extremal falls size low high k b) (toward-end (falls k) (get_or low k 0) (get_or high k 0) (get_or g k 0) (i.above k b) (i.below k b))

  extremal-fits : (k : ℕ) → k < size → Fits top (get_or low k 0) (get_or high k 0) (get_or (extremal falls size low high) k 0)
  extremal-fits k b = rw (at-extremal falls size low high k b) (end_fits (falls k) (ok.low-cap k b) (ok.high-cap k b) (ok.in_order k b))

  pub obeyed-extremal : Obeyed Rule size top low high ↔ Rule (extremal falls size low high)
  obeyed-extremal = (
    λ o. directed o.example (extremal falls size low high) o.inside.sized (length-extremal falls size low high) (toward-extremal o.inside) o.obeys,
    λ r. record { example = extremal falls size low high; inside = fit-cells (length-extremal falls size low high) extremal-fits; obeys = r },
  )

  length-set-extremal : (k v : ℕ) → length (set (extremal falls size low high) k v) ≡ size
  length-set-extremal k v = length-set (extremal falls size low high) k v ∙ length-extremal falls size low high

  -- from a grid with u in cell k the rule passes to the extremal grid with v there, v toward the cell's direction from u
  moved : (k u v : ℕ) → k < size → Kept Rule size top low high k u → Toward (falls k) u v → Rule (set (extremal falls size low high) k v)
  moved k u v b h t =
      directed h.example (set (extremal falls size low high) k v) h.inside.sized (length-set-extremal k v)
      (set_all (λ t x. t < size → Toward (falls t) (get_or h.example t 0) x) (extremal falls size low high) k v (omega (arith, length-extremal falls size low high))
      (λ c. rw h.has t) (toward-extremal h.inside))
      h.obeys

  placed : (k v : ℕ) → k < size → Fits top (get_or low k 0) (get_or high k 0) v → Rule (set (extremal falls size low high) k v) → Kept Rule size top low high k v
  placed k v b f r = record {
    example = set (extremal falls size low high) k v;
    inside = fit-cells (length-set-extremal k v)
        (set_all (λ t x. t < size → Fits top (get_or low t 0) (get_or high t 0) x) (extremal falls size low high) k v here (λ c. f) extremal-fits);
    obeys = r;
    has = get_or-set_same (extremal falls size low high) k v 0 here;
  }
    where
      here : k < length (extremal falls size low high)
      here = omega (arith, length-extremal falls size low high)

  pub kept-extremal : (k v : ℕ) → k < size →
      Kept Rule size top low high k v ↔ ((v ≤ top) × (rank (get_or low k 0) ≤ rank v) × (rank v ≤ rank (get_or high k 0)) × Rule (set (extremal falls size low high) k v))
  kept-extremal k v b =
      (λ h. let f = kept-bounds b h in (f.0, f.1, f.2, moved k v v b h (toward-self (falls k) v)), λ p. placed k v b (p.0, p.1, p.2) p.3)

  pub kept-interval : (k u v w : ℕ) → k < size → Kept Rule size top low high k u → Kept Rule size top low high k w →
      v ≤ top → rank u ≤ rank v → rank v ≤ rank w → Kept Rule size top low high k v
  kept-interval k u v w b hu hw t uv vw =
      let p = kept-bounds b hu in
      let q = kept-bounds b hw in
      placed k v b (omega arith) (go (falls k) refl)
    where
      go : (t : Bool) → falls k ≡ t → Rule (set (extremal falls size low high) k v)
      go true e = moved k w v b hw (rw e vw)
      go false e = moved k u v b hu (rw e uv)

  module _ (rule : List ℕ → Bool) (decides : (g : List ℕ) → (rule g ≡ true) ↔ Rule g) (o : Obeyed Rule size top low high) where
    pub kept-exactly : (k v : ℕ) → k < size → v ≤ top →
        Kept Rule size top low high k v ↔ ((rank (get_or (kept_low rule size top low high) k 0) ≤ rank v) × (rank v ≤ rank (get_or (kept_high rule size top low high) k 0)))
    kept-exactly k v b t =
        let e = obeyed-ends Rule rule decides size top low high o k b in
        (e.within v, λ w. kept-interval k _ v _ b e.low-kept e.high-kept t w.0 w.1)
