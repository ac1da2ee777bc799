-- Laws of grids, arrangements and classes.
--
--   length-grid, cell-grid, grid-is, grid-ext      ==  a grid by its cells
--   row-column                                     ==  an index of the cells is a row and a column
--   first_rows                                     ==  the leading cells of a grid are its first rows
--   row_zero, rows-size, beneath                   ==  the first row's cells, and where the others are
--   length-arrangement, cell-arrangement, column-arrangement  ==  an arrangement by its cells and columns
--   arrangement-identity, arrangement-twice        ==  by the identities; twice is once, by the composed permutations
--   class-refl, class-trans, class-sym             ==  being in one class is an equivalence
--   class-length, class-cell, class-grid           ==  what the grids of a class have in common
--   class-passes, passes-class, class-decides      ==  the test decides it
use mathlib.Core.Path.{◌≡◌, sym, ap, ap₂, ◌∙◌}
use mathlib.Core.List.{List}
use mathlib.Core.Bool.{true}
use mathlib.Core.Logic.{◌⊎◌, inl, inr, ◌↔◌}
use Prim.Native.Nat.{zero, ℕ, suc, ◌+◌, ◌*◌, ◌/◌, ◌%◌, ◌≤◌, ◌<◌}
use native.Mathlib.Nat.{div-add-mod', div-lt_iff_lt-mul, mod-lt, eq-zero-or-pos, mul-zero, zero-mul, not-suc-le-zero, mul-le-mul_right}
use native.Mathlib.Omega.{arith}
use lib.ListN.{length, get_or}
use lib.Arith.{digits_lt, digits_div, digits_mod}
use Rattle.permutations.specs.Lists.{tabulate}
use Rattle.permutations.specs.Permutations.{IsPermutation, identity, composed, inverse, permutations}
use Rattle.permutations.proofs.ListLaws.{length-tabulate, at-tabulate, tabulate-is, tabulate-ext, some_at, at_some}
use Rattle.permutations.proofs.PermutationLaws.{at-identity, at-composed, identity-permutation, composed-permutation, inverse-permutation, composed-inverse}
use Rattle.permutations.proofs.PermutationTest.{permutation-listed, listed-permutation}
use Rattle.grids.specs.Sorted.{permuted_column}
use Rattle.grids.specs.Grids.{cell, grid_of, IsGrid, row, column, arrangement, OneClass, one_class}
use Rattle.grids.proofs.OrderLaws.{equal-eq, eq-equal}

-- ---- a grid by its cells

pub length-grid : (m n : ℕ) (f : ℕ → ℕ → ℕ) → length (grid_of m n f) ≡ m * n
unfolding grid_of
length-grid m n f = length-tabulate 0 (m * n) _

columns-pos : (m n k : ℕ) → k < m * n → 0 < n
columns-pos m n k h = go (eq-zero-or-pos n)
  where
    go : (n ≡ 0) ⊎ (0 < n) → 0 < n
    go (inl e) = absurd (not-suc-le-zero (rw (e, mul-zero) at h))
    go (inr p) = p

pub row-column : (m n k : ℕ) → k < m * n → (k / n < m) × (k % n < n) × (k / n * n + k % n ≡ k)
row-column m n k h = let p = columns-pos m n k h in ((div-lt_iff_lt-mul p).1 h, mod-lt k p, div-add-mod' k n)

pub cell-grid : (m n : ℕ) (f : ℕ → ℕ → ℕ) (i j : ℕ) → i < m → j < n → cell n (grid_of m n f) i j ≡ f i j
unfolding grid_of
cell-grid m n f i j a b = at-tabulate (m * n) _ (i * n + j) 0 (digits_lt a b) ∙ ap₂ f (digits_div i b) (digits_mod i b)

pub grid-is : (m n : ℕ) (f : ℕ → ℕ → ℕ) (g : List ℕ) → length g ≡ m * n → ((i j : ℕ) → i < m → j < n → cell n g i j ≡ f i j) → grid_of m n f ≡ g
unfolding grid_of
grid-is m n f g e h =
    tabulate-is 0 g (m * n) _ e λ k b.
    let r = row-column m n k b in
    ap (λ (x : ℕ). get_or g x 0) (sym r.2) ∙ h (k / n) (k % n) r.0 r.1

pub grid-ext : (m n : ℕ) (f h : ℕ → ℕ → ℕ) → ((i j : ℕ) → i < m → j < n → f i j ≡ h i j) → grid_of m n f ≡ grid_of m n h
grid-ext m n f h e = grid-is m n f (grid_of m n h) (length-grid m n h) λ i j a b. cell-grid m n h i j a b ∙ sym (e i j a b)

-- the first k rows of a grid of m rows
pub first_rows : (m k n : ℕ) (f : ℕ → ℕ → ℕ) → k ≤ m → tabulate 0 (k * n) (λ t. get_or (grid_of m n f) t 0) ≡ grid_of k n f
unfolding grid_of
first_rows m k n f km = tabulate-ext 0 (k * n) _ _ λ t b. at-tabulate (m * n) (λ t. f (t / n) (t % n)) t 0 (omega (arith, mul-le-mul_right n km))

-- row 0 is the first n cells
pub row_zero : (n : ℕ) (g : List ℕ) → row n g 0 ≡ tabulate 0 n (λ k. get_or g k 0)
unfolding row
row_zero n g = tabulate-ext 0 n _ _ λ j b. let e : 0 * n + j ≡ j = omega (arith, zero-mul n) in ap (λ (x : ℕ). get_or g x 0) e

-- a grid of some rows has a first row, and the cells of the other rows come after it
pub rows-size : (m n : ℕ) → 0 < m → n ≤ m * n
rows-size zero n h = elim h [ ]
rows-size (suc m) n h = omega arith

pub beneath : (n i j : ℕ) → 0 < i → n ≤ i * n + j
beneath n zero j h = elim h [ ]
beneath n (suc i) j h = omega arith

-- ---- arrangements

pub length-arrangement : (m n : ℕ) (p q g : List ℕ) → length (arrangement m n p q g) ≡ m * n
unfolding arrangement
length-arrangement m n p q g = length-grid m n _

pub cell-arrangement : (m n : ℕ) (p q g : List ℕ) (i j : ℕ) → i < m → j < n → cell n (arrangement m n p q g) i j ≡ cell n g (get_or p i 0) (get_or q j 0)
unfolding arrangement
cell-arrangement m n p q g i j a b = cell-grid m n _ i j a b

-- a column of an arrangement is a column of the grid, its cells in the row order
pub column-arrangement : (m n : ℕ) (p q g : List ℕ) (j : ℕ) → j < n → column m n (arrangement m n p q g) j ≡ permuted_column m n g p (get_or q j 0)
unfolding column permuted_column
column-arrangement m n p q g j h = tabulate-ext 0 m _ _ λ i a. cell-arrangement m n p q g i j a h

pub arrangement-identity : (m n : ℕ) (g : List ℕ) → length g ≡ m * n → arrangement m n (identity m) (identity n) g ≡ g
unfolding arrangement
arrangement-identity m n g e = grid-is m n _ g e λ i j a b. rw (at-identity m i a, at-identity n j b)

pub arrangement-twice : (m n : ℕ) (p q r s g : List ℕ) → IsPermutation m r → IsPermutation n s →
    arrangement m n r s (arrangement m n p q g) ≡ arrangement m n (composed m p r) (composed n q s) g
unfolding arrangement
arrangement-twice m n p q r s g or os =
    grid-ext m n _ _ λ i j a b. cell-arrangement m n p q g (get_or r i 0) (get_or s j 0) (or.within i a) (os.within j b) ∙ rw (at-composed m p r i a, at-composed n q s j b)

-- ---- classes

pub class-refl : (m n : ℕ) (g : List ℕ) → length g ≡ m * n → OneClass m n g g
class-refl m n g e = record {
  rows = identity m;
  columns = identity n;
  row-permutation = identity-permutation m;
  column-permutation = identity-permutation n;
  gives = arrangement-identity m n g e;
}

pub class-trans : (m n : ℕ) (a b c : List ℕ) → OneClass m n a b → OneClass m n b c → OneClass m n a c
class-trans m n a b c x y = record {
  rows = composed m x.rows y.rows;
  columns = composed n x.columns y.columns;
  row-permutation = composed-permutation m x.rows y.rows x.row-permutation y.row-permutation;
  column-permutation = composed-permutation n x.columns y.columns x.column-permutation y.column-permutation;
  gives = sym (arrangement-twice m n x.rows x.columns y.rows y.columns a y.row-permutation y.column-permutation)
      ∙ ap (arrangement m n y.rows y.columns) x.gives ∙ y.gives;
}

pub class-sym : (m n : ℕ) (a b : List ℕ) → length a ≡ m * n → OneClass m n a b → OneClass m n b a
class-sym m n a b e x = record {
  rows = p;
  columns = q;
  row-permutation = op;
  column-permutation = oq;
  gives = ap (arrangement m n p q) (sym x.gives) ∙ arrangement-twice m n x.rows x.columns p q a op oq
      ∙ rw (composed-inverse m x.rows x.row-permutation, composed-inverse n x.columns x.column-permutation) (arrangement-identity m n a e);
}
  where
    p : List ℕ
    p = inverse m x.rows

    q : List ℕ
    q = inverse n x.columns

    op : IsPermutation m p
    op = inverse-permutation m x.rows x.row-permutation

    oq : IsPermutation n q
    oq = inverse-permutation n x.columns x.column-permutation

pub class-length : (m n : ℕ) (a b : List ℕ) → OneClass m n a b → length b ≡ m * n
class-length m n a b x = ap length (sym x.gives) ∙ length-arrangement m n x.rows x.columns a

-- each cell of the one stands in the other
pub class-cell : (m n : ℕ) (a b : List ℕ) → OneClass m n a b → (k : ℕ) → k < m * n → (t : ℕ) × (t < m * n) × (get_or b k 0 ≡ get_or a t 0)
class-cell m n a b x k h =
    let r = row-column m n k h in
    let p = x.rows in
    let q = x.columns in (
      get_or p (k / n) 0 * n + get_or q (k % n) 0,
      digits_lt (x.row-permutation.within (k / n) r.0) (x.column-permutation.within (k % n) r.1),
      ap (λ (l : List ℕ). get_or l k 0) (sym x.gives) ∙ ap (λ (t : ℕ). get_or (arrangement m n p q a) t 0) (sym r.2) ∙ cell-arrangement m n p q a (k / n) (k % n) r.0 r.1,
    )

pub class-grid : (m n top : ℕ) (a b : List ℕ) → IsGrid m n top a → OneClass m n a b → IsGrid m n top b
class-grid m n top a b g x = record {
  sized = class-length m n a b x;
  capped = λ k h. let r = class-cell m n a b x k h in rw r.2 (g.capped r.0 r.1);
}

-- ---- the test

pub passes-class : (m n : ℕ) (a b : List ℕ) → one_class m n a b ≡ true → OneClass m n a b
unfolding one_class
passes-class m n a b e =
    let r = some_at _ (permutations m) e in
    let s = some_at _ (permutations n) r.2 in
    record {
      rows = r.0;
      columns = s.0;
      row-permutation = listed-permutation m r.0 r.1;
      column-permutation = listed-permutation n s.0 s.1;
      gives = equal-eq (arrangement m n r.0 s.0 a) b s.2;
    }

pub class-passes : (m n : ℕ) (a b : List ℕ) → OneClass m n a b → one_class m n a b ≡ true
unfolding one_class
class-passes m n a b x =
    at_some _ (permutations m) x.rows (permutation-listed m x.rows x.row-permutation)
    (at_some _ (permutations n) x.columns (permutation-listed n x.columns x.column-permutation) (eq-equal _ b x.gives))

pub class-decides : (m n : ℕ) (a b : List ℕ) → (one_class m n a b ≡ true) ↔ OneClass m n a b
class-decides m n a b = (passes-class m n a b, class-passes m n a b)
