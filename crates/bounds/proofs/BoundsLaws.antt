-- Laws of bounds.
--
--   Fits top a b v              ==  v is 0 to top and, by rank, within a to b
--   bounds-wider                ==  bounds of values up to a top are bounds of values up to a greater one
--   ranks-within                ==  the test of ranking within a to b
--   between-at                  ==  `between` lists the values that fit, and nothing else
--   between-fewer               ==  narrower bounds have no more values
--   cells_fit, fit-cells        ==  a grid lies in the bounds exactly if it has their size and each cell fits
--   within-listed               ==  `grids_within` lists the grids that lie in the bounds, and nothing else
--   some-within                 ==  some listed grid passes a test exactly if some grid in the bounds does
--   in_bounds-decides            ==  the test of lying in the bounds decides it
--   order-asked                 ==  what question 8 asks
--   bounds-asked, bounds-numbered, bounds-pass  ==  questions 6, 7 and 8 get a yes exactly for bounds
use mathlib.Core.Path.{◌≡◌, refl, ap}
use mathlib.Core.List.Memᴰ
use mathlib.Core.List.{List, [], ◌∷◌, map, Memᴰ}
use mathlib.Core.Bool.{Bool, true}
use mathlib.Core.Logic.{◌↔◌}
use Prim.Native.Nat.{ℕ, zero, suc, ◌+◌, ◌≤◌, ◌<◌}
use native.Mathlib.Nat.{add-zero, zero-add, not-suc-le-zero}
use native.Mathlib.Omega.{arith}
use lib.ListN.{length, get_or}
use lib.Dec.{leb, eqb}
use borrow.Author.Tests.{leb-true, le-leb, eqb-true, eq-eqb}
use Rattle.permutations.specs.Lists.{numbers, select, some}
use Rattle.permutations.proofs.BoolLaws.{and_yes, yes_and}
use Rattle.permutations.proofs.ListLaws.{in-flat_map, of-flat_map, in-numbers, of-numbers, every-number, number-every, some_at, at_some}
use Rattle.permutations.proofs.SelectLaws.{in-select, of-select, length-select, select-within}
use Rattle.grids.specs.Order.{rank}
use Rattle.grids.specs.Grids.{capped}
use Rattle.grids.specs.Questions.{first_no, question6, question7}
use Rattle.grids.proofs.QuestionLaws.{AllYes, Numbered, first-no-zero, capped_at, at-capped, all_two, lengths-asked, cells-asked}
use Rattle.bounds.specs.Bounds.{IsBounds, InBounds, ranks_within, between, in_bounds, fillings, grids_within}
use Rattle.bounds.specs.Prune.{question8, bounds_questions}

abbrev pub Fits : ℕ → ℕ → ℕ → ℕ → Type 0
Fits top a b v = (v ≤ top) × (rank a ≤ rank v) × (rank v ≤ rank b)

pub bounds-wider : {size top cap : ℕ} {low high : List ℕ} → top ≤ cap → IsBounds size top low high → IsBounds size cap low high
bounds-wider h i = record {
  low-size = i.low-size;
  high-size = i.high-size;
  low-cap = λ k b. omega (arith, i.low-cap k b);
  high-cap = λ k b. omega (arith, i.high-cap k b);
  in_order = i.in_order;
}

-- ---- values

pub ranks-within : (a b v : ℕ) → (ranks_within a b v ≡ true) ↔ ((rank a ≤ rank v) × (rank v ≤ rank b))
unfolding ranks_within
ranks-within a b v = (
  λ e. let p = and_yes (leb (rank a) (rank v)) _ e in (leb-true (rank a) (rank v) p.0, leb-true (rank v) (rank b) p.1),
  λ h. yes_and _ _ (le-leb (rank a) (rank v) h.0) (le-leb (rank v) (rank b) h.1),
)

pub between-at : (top a b v : ℕ) → Memᴰ v (between top a b) ↔ Fits top a b v
unfolding between
between-at top a b v = (
  λ m.
      let s = of-select (ranks_within a b) v (numbers (suc top)) m in
      let w = (ranks-within a b v).0 s.1 in
      (omega (arith, of-numbers (suc top) v s.0), w.0, w.1),
  λ h. in-select (ranks_within a b) v (numbers (suc top)) (in-numbers (suc top) v (omega arith)) ((ranks-within a b v).1 (h.1, h.2)),
)

pub between-fewer : (top a b c d : ℕ) → rank a ≤ rank c → rank d ≤ rank b → length (between top c d) ≤ length (between top a b)
unfolding between
between-fewer top a b c d l h =
    rw (select-within (ranks_within c d) (ranks_within a b) (numbers (suc top)) inside) at (length-select (ranks_within c d) (select (ranks_within a b) (numbers (suc top))))
  where
    inside : (v : ℕ) → Memᴰ v (numbers (suc top)) → ranks_within c d v ≡ true → ranks_within a b v ≡ true
    inside v m t = let w = (ranks-within c d v).0 t in (ranks-within a b v).1 (omega arith, omega arith)

-- ---- grids

pub cells_fit : {size top : ℕ} {low high g : List ℕ} → InBounds size top low high g → (k : ℕ) → k < size → Fits top (get_or low k 0) (get_or high k 0) (get_or g k 0)
cells_fit i k b = (i.capped k b, i.above k b, i.below k b)

pub fit-cells : {size top : ℕ} {low high g : List ℕ} → length g ≡ size → ((k : ℕ) → k < size → Fits top (get_or low k 0) (get_or high k 0) (get_or g k 0)) → InBounds size top low high g
fit-cells e f = record { sized = e; capped = λ k b. (f k b).0; above = λ k b. (f k b).1; below = λ k b. (f k b).2 }

module _ (top : ℕ) (low high : List ℕ) where
  -- the n cells of g fit the bounds from cell s on
  abbrev Fill : ℕ → ℕ → List ℕ → Type 0
  Fill s n g = (length g ≡ n) × ((k : ℕ) → k < n → Fits top (get_or low (s + k) 0) (get_or high (s + k) 0) (get_or g k 0))

  fill-cons : (s n x : ℕ) (g : List ℕ) → Fits top (get_or low s 0) (get_or high s 0) x → Fill (suc s) n g → Fill s (suc n) (x ∷ g)
  fill-cons s n x g h f = (ap suc f.0, cells)
    where
      cells : (k : ℕ) → k < suc n → Fits top (get_or low (s + k) 0) (get_or high (s + k) 0) (get_or (x ∷ g) k 0)
      cells zero b = rw (add-zero s) h
      cells (suc k) b = let e : s + suc k ≡ suc s + k = omega arith in rw e (f.1 k (omega arith))

  fill-uncons : (s n x : ℕ) (g : List ℕ) → Fill s (suc n) (x ∷ g) → Fits top (get_or low s 0) (get_or high s 0) x × Fill (suc s) n g
  fill-uncons s n x g f = (
    rw (add-zero s) at (f.1 0 (omega arith)),
    (omega (arith, f.0), λ k b. let e : s + suc k ≡ suc s + k = omega arith in rw e at (f.1 (suc k) (omega arith))),
  )

  of-fillings : (s n : ℕ) (g : List ℕ) → Memᴰ g (fillings top low high s n) → Fill s n g
  unfolding fillings
  of-fillings s zero g m = rw (Memᴰ.eq_of_singleton m) (refl, λ k b. absurd (not-suc-le-zero b))
  of-fillings s (suc n) g m =
      let r = of-flat_map (λ v. map (λ g. v ∷ g) (fillings top low high (suc s) n)) g _ m in
      let t = Memᴰ.of_map (λ (g : List ℕ). r.0 ∷ g) (fillings top low high (suc s) n) r.2 in
      rw (← t.2) (fill-cons s n r.0 t.0 ((between-at top _ _ r.0).0 r.1) (of-fillings (suc s) n t.0 t.1))

  in-fillings : (s n : ℕ) (g : List ℕ) → Fill s n g → Memᴰ g (fillings top low high s n)
  unfolding fillings
  in-fillings s zero [] f = Memᴰ.head refl
  in-fillings s zero (x ∷ g) f = absurd (omega (arith, f.0))
  in-fillings s (suc n) [] f = absurd (omega (arith, f.0))
  in-fillings s (suc n) (x ∷ g) f =
      let u = fill-uncons s n x g f in
      in-flat_map (λ v. map (λ g. v ∷ g) (fillings top low high (suc s) n)) x (x ∷ g) _ ((between-at top _ _ x).1 u.0)
      (Memᴰ.map (λ (g : List ℕ). x ∷ g) (in-fillings (suc s) n g u.1))

module _ (size top : ℕ) (low high g : List ℕ) where
  pub within-listed : Memᴰ g (grids_within size top low high) ↔ InBounds size top low high g
  unfolding grids_within
  within-listed = (
    λ m. let f = of-fillings top low high 0 size g m in fit-cells f.0 (λ k b. rw (zero-add k) at (f.1 k b)),
    λ i. in-fillings top low high 0 size g (i.sized, λ k b. rw (zero-add k) (cells_fit i k b)),
  )

  pub in_bounds-decides : (in_bounds size top low high g ≡ true) ↔ InBounds size top low high g
  unfolding in_bounds
  in_bounds-decides = (to, back)
    where
      to : in_bounds size top low high g ≡ true → InBounds size top low high g
      to e =
          let p = and_yes (eqb (length g) size) _ e in
          fit-cells (eqb-true (length g) size p.0) λ k b.
          let c = and_yes (leb (get_or g k 0) top) _ (every-number _ size p.1 k b) in
          let w = (ranks-within (get_or low k 0) (get_or high k 0) (get_or g k 0)).0 c.1 in
          (leb-true (get_or g k 0) top c.0, w.0, w.1)

      back : InBounds size top low high g → in_bounds size top low high g ≡ true
      back i =
          yes_and _ _ (eq-eqb (length g) size i.sized)
          (number-every _ size λ k b. yes_and _ _ (le-leb (get_or g k 0) top (i.capped k b)) ((ranks-within _ _ (get_or g k 0)).1 (i.above k b, i.below k b)))

pub some-within : (size top : ℕ) (low high : List ℕ) (t : List ℕ → Bool) →
    (some t (grids_within size top low high) ≡ true) ↔ ((g : List ℕ) × InBounds size top low high g × (t g ≡ true))
some-within size top low high t = (
  λ e. let r = some_at t (grids_within size top low high) e in (r.0, (within-listed size top low high r.0).0 r.1, r.2),
  λ r. at_some t (grids_within size top low high) r.0 ((within-listed size top low high r.0).1 r.1) r.2,
)

-- ---- what questions 6, 7 and 8 ask

-- a list of bounds by its length and its test of cells
caps : (size top : ℕ) (l : List ℕ) → length l ≡ size → capped top l ≡ true → (k : ℕ) → k < size → get_or l k 0 ≤ top
caps size top l z t k b = capped_at top l t k (omega arith)

pub order-asked : (size : ℕ) (low high : List ℕ) → ((question8 size low high).answer ≡ true) ↔ ((k : ℕ) → k < size → rank (get_or low k 0) ≤ rank (get_or high k 0))
unfolding question8
order-asked size low high = (
  λ e k b. leb-true (rank (get_or low k 0)) (rank (get_or high k 0)) (every-number _ size e k b),
  λ h. number-every _ size λ k b. le-leb (rank (get_or low k 0)) (rank (get_or high k 0)) (h k b),
)

-- questions 6 to 8 get a yes exactly for bounds
pub bounds-asked : (size top : ℕ) (low high : List ℕ) → AllYes (bounds_questions size top low high) ↔ IsBounds size top low high
unfolding bounds_questions
bounds-asked size top low high = (to, back)
  where
    to : AllYes (bounds_questions size top low high) → IsBounds size top low high
    to h =
        let sizes = (lengths-asked size (low ∷ high ∷ [])).0 h.0 in
        let tests = (cells-asked top (low ∷ high ∷ [])).0 h.1.0 in
        let l = sizes low (Memᴰ.head refl) in
        let u = sizes high (Memᴰ.tail (Memᴰ.head refl)) in
        record {
          low-size = l;
          high-size = u;
          low-cap = caps size top low l (tests low (Memᴰ.head refl));
          high-cap = caps size top high u (tests high (Memᴰ.tail (Memᴰ.head refl)));
          in_order = (order-asked size low high).0 h.1.1.0;
        }

    back : IsBounds size top low high → AllYes (bounds_questions size top low high)
    back i =
        let l = i.low-size in
        let u = i.high-size in (
          (lengths-asked size (low ∷ high ∷ [])).1 (all_two (λ s. length s ≡ size) low high l u),
          (
            (cells-asked top (low ∷ high ∷ [])).1
                (all_two (λ s. capped top s ≡ true) low high (at-capped top low (λ k b. i.low-cap k (omega arith))) (at-capped top high (λ k b. i.high-cap k (omega arith)))),
            ((order-asked size low high).1 i.in_order, tt),
          ),
        )

pub bounds-numbered : (size top : ℕ) (low high : List ℕ) → Numbered (bounds_questions size top low high)
unfolding bounds_questions question6 question7 question8
bounds-numbered size top low high = (omega arith, (omega arith, (omega arith, tt)))

pub bounds-pass : (size top : ℕ) (low high : List ℕ) → (first_no (bounds_questions size top low high) ≡ 0) ↔ IsBounds size top low high
bounds-pass size top low high =
    let z = first-no-zero (bounds_questions size top low high) (bounds-numbered size top low high) in
    let a = bounds-asked size top low high in
    (λ e. a.0 (z.0 e), λ i. z.1 (a.1 i))
