-- Laws of two lines of a register.
--
--   same_none, same_next    ==  no byte, and a byte more
--   agree-none, agree-more  ==  no byte agrees to begin with, and n more do
--   agree_less              ==  fewer agree too
--   same_byte               ==  a byte that agrees, by the place of its cell
--   AgreeBelow b p q k      ==  the cells before cell k agree
--   cells_same, cells-next  ==  cells whose bytes agree, and one cell more
--   before_here, before-never  ==  the ways out of the comparison
use mathlib.Core.Path.{◌≡◌, refl, sym, ap, ◌∙◌}
use mathlib.Core.List.{List}
use mathlib.Core.Bool.{true, false, true≢false, ◌&&◌}
use mathlib.Core.Logic.{◌↔◌}
use Prim.Native.Nat.{ℕ, zero, suc, ◌+◌, ◌-◌, ◌*◌, ◌≤◌, ◌<◌}
use native.Mathlib.Omega.{arith}
use native.Mathlib.Nat.{not-suc-le-zero}
use native.Mathlib.Decide.{dec_lt}
use native.Mathlib.Numerals.{add-one}
use borrow.Author.Tests.{eqb-true, lt-ltb, ltb-true}
use lib.ListN.{get_or, length, take, drop}
use lib.Seq.{drop-drop}
use lib.Dec.{eqb, ltb}
use Rattle.permutations.specs.Lists.{tabulate}
use Rattle.permutations.proofs.BoolLaws.{and_yes}
use Rattle.permutations.proofs.ListLaws.{tabulate-ext}
use Rattle.grids.specs.Order.{rank, ◌≺◌}
use Rattle.grids.proofs.OrderLaws.{≼_refl, tabulate-at, tabulate-by-index}
use Rattle.layout.specs.Decimal.{value}
use Rattle.layout.specs.Layout.{number_at, cells_of}
use Rattle.scan.specs.Cells.{Same, same_from}
use Rattle.scan.specs.Lines.{Precedes}
use Rattle.scan.proofs.CellLaws.{three}

-- ---- bytes

pub same_none : (b : List ℕ) (p q : ℕ) → true ≡ same_from b p q 0
unfolding same_from
same_none b p q = refl

pub same_next : (b : List ℕ) (p q n : ℕ) → same_from b p q (n + 1) ≡ (same_from b p q n && eqb (get_or b (p + n) 0) (get_or b (q + n) 0))
unfolding same_from
same_next b p q n = rw add-one refl

same-all : (b : List ℕ) (p q n : ℕ) → same_from b p q n ≡ true → (j : ℕ) → j < n → get_or b (p + j) 0 ≡ get_or b (q + j) 0
same-all b p q zero e j l = absurd (not-suc-le-zero l)
same-all b p q (suc n) e j l = go (λ f h. same-all b p q n f j h) (dec_lt j n)
  where
    both : (same_from b p q n ≡ true) × (eqb (get_or b (p + n) 0) (get_or b (q + n) 0) ≡ true)
    both = and_yes (same_from b p q n) (eqb (get_or b (p + n) 0) (get_or b (q + n) 0)) (sym (same_next b p q n) ∙ ap (same_from b p q) (omega arith) ∙ e)

    go : (same_from b p q n ≡ true → j < n → get_or b (p + j) 0 ≡ get_or b (q + j) 0) → Dec (j < n) → get_or b (p + j) 0 ≡ get_or b (q + j) 0
    go r (yes h) = r both.0 h
    go r (no h) =
        let z : j ≡ n = omega (arith, l) in
        rw z (eqb-true (get_or b (p + n) 0) (get_or b (q + n) 0) both.1)

pub agree-none : (b : List ℕ) (p q : ℕ) → Same b p q 0
unfolding Same
agree-none b p q j l = absurd (not-suc-le-zero l)

pub agree-more : (b : List ℕ) (p q i n : ℕ) → Same b p q i → same_from b (p + i) (q + i) n ≡ true → Same b p q (i + n)
unfolding Same
agree-more b p q i n s e j l = go (dec_lt j i)
  where
    go : Dec (j < i) → get_or b (p + j) 0 ≡ get_or b (q + j) 0
    go (yes h) = s j h
    go (no h) =
        let u : p + i + (j - i) ≡ p + j = omega arith in
        let v : q + i + (j - i) ≡ q + j = omega arith in
        rw (u, v) at (same-all b (p + i) (q + i) n e (j - i) (omega (arith, l)))

pub agree_less : (b : List ℕ) (p q n m : ℕ) → m ≤ n → Same b p q n → Same b p q m
unfolding Same
agree_less b p q n m h s j l = s j (omega arith)

pub same_byte : (b : List ℕ) (p q n j d : ℕ) → Same b p q n → j + d < n → get_or b (p + j + d) 0 ≡ get_or b (q + j + d) 0
unfolding Same
same_byte b p q n j d s l =
    let u : p + (j + d) ≡ p + j + d = omega arith in
    let v : q + (j + d) ≡ q + j + d = omega arith in
    rw (u, v) at (s (j + d) l)

-- ---- two lines

-- the cells that a line states, by their places in the register
cells-from : (size : ℕ) (b : List ℕ) (at : ℕ) → cells_of size (drop at b) ≡ tabulate 0 size (λ k. number_at 3 (at + 3 * k) b)
unfolding cells_of number_at
cells-from size b at = tabulate-ext 0 size _ _ (λ k h. ap (λ (l : List ℕ). value (take 3 l)) (drop-drop (3 * k) at b))

-- the first value that differs decides, of tabulated lists
first-differs : (n : ℕ) (u v : ℕ → ℕ) (k : ℕ) → k < n → ((i : ℕ) → i < k → u i ≡ v i) → (u k ≡ v k → ⊥) → (rank (u k) < rank (v k)) ↔ (tabulate 0 n u ≺ tabulate 0 n v)
first-differs n u v k kn same ne = (to, back)
  where
    to : rank (u k) < rank (v k) → tabulate 0 n u ≺ tabulate 0 n v
    to l h = let m = tabulate-at n v u h k kn (λ i ik. sym (same i ik)) in omega arith

    later : rank (v k) ≤ rank (u k) → (t : ℕ) → t < n → ((i : ℕ) → i < t → v i ≡ u i) → rank (v t) ≤ rank (u t)
    later l t tn eq = go (dec_lt t k) (dec_lt k t)
      where
        go : Dec (t < k) → Dec (k < t) → rank (v t) ≤ rank (u t)
        go (yes h) d = let e : rank (u t) ≡ rank (v t) = ap rank (same t h) in omega arith
        go (no h) (yes d) = absurd (ne (sym (eq k d)))
        go (no h) (no d) = let z : t ≡ k = omega arith in rw z l

    back : tabulate 0 n u ≺ tabulate 0 n v → rank (u k) < rank (v k)
    back h = go (dec_lt (rank (u k)) (rank (v k)))
      where
        go : Dec (rank (u k) < rank (v k)) → rank (u k) < rank (v k)
        go (yes l) = l
        go (no l) = absurd (h (tabulate-by-index n v u (later (omega arith))))

unfoldable pub AgreeBelow : List ℕ → ℕ → ℕ → ℕ → Type 0
AgreeBelow b p q k = (i : ℕ) → i < k → number_at 3 (p + 3 * i) b ≡ number_at 3 (q + 3 * i) b

pub cells_same : (b : List ℕ) (p q k : ℕ) → p + 3 * k ≤ length b → q + 3 * k ≤ length b → Same b p q (3 * k) → AgreeBelow b p q k
unfolding AgreeBelow number_at Same
cells_same b p q k f g s i l =
    ap value (three b (p + 3 * i) (omega arith)
    ∙ rw (s (3 * i) (omega arith), same_byte b p q (3 * k) (3 * i) 1 s (omega arith), same_byte b p q (3 * k) (3 * i) 2 s (omega arith)) (sym (three b (q + 3 * i) (omega arith))))

pub cells-next : (b : List ℕ) (p q k : ℕ) → AgreeBelow b p q k → number_at 3 (p + 3 * k) b ≡ number_at 3 (q + 3 * k) b → AgreeBelow b p q (k + 1)
unfolding AgreeBelow
cells-next b p q k h e i l = go (dec_lt i k)
  where
    go : Dec (i < k) → number_at 3 (p + 3 * i) b ≡ number_at 3 (q + 3 * i) b
    go (yes m) = h i m
    go (no m) = let z : i ≡ k = omega (arith, l) in rw z e

module _ (b : List ℕ) (p q size k : ℕ) (h : AgreeBelow b p q k) where
  pub before_here : (x y r s : ℕ) → k < size → x ≡ number_at 3 (p + 3 * k) b → y ≡ number_at 3 (q + 3 * k) b → (x ≡ y → ⊥) → r ≡ rank x → s ≡ rank y → (ltb r s ≡ true) ↔ Precedes size b p q
  unfolding AgreeBelow Precedes
  before_here x y r s l e f n u v = rw (cells-from size b p, cells-from size b q) (
    λ t. d.0 (let m = ltb-true r s t in omega (arith, ranks)),
    λ o. let m = d.1 o in lt-ltb r s (omega (arith, ranks)),
  )
    where
      ranks : (r ≡ rank (number_at 3 (p + 3 * k) b)) × (s ≡ rank (number_at 3 (q + 3 * k) b))
      ranks = (u ∙ ap rank e, v ∙ ap rank f)

      d : (rank (number_at 3 (p + 3 * k) b) < rank (number_at 3 (q + 3 * k) b)) ↔ (tabulate 0 size (λ i. number_at 3 (p + 3 * i) b) ≺ tabulate 0 size (λ i. number_at 3 (q + 3 * i) b))
      d = first-differs size (λ i. number_at 3 (p + 3 * i) b) (λ i. number_at 3 (q + 3 * i) b) k l h (λ z. n (e ∙ z ∙ sym f))

  pub before-never : size ≤ k → (false ≡ true) ↔ Precedes size b p q
  unfolding AgreeBelow Precedes
  before-never l = (
    λ t. absurd (true≢false (sym t)),
    λ o. absurd (o (rw (cells-from size b p ∙ tabulate-ext 0 size _ _ (λ i c. h i (omega arith)) ∙ sym (cells-from size b q)) (≼_refl (cells_of size (drop q b))))),
  )
