-- The writing of an arrangement as the loops go, row after row and cell after cell.
--
--   WrittenTo i j m n p q g out  ==  out has the size of the arrangement of g by p and q, and its cells before column j of row i
--   written_none, written-cell, written_row, written_all  ==  before the first cell, after a cell, after a row, at the end
--   cell-index  ==  the index of a cell is below the size, which is at most 128
use mathlib.Core.Path.{◌≡◌, sym, ◌∙◌}
use mathlib.Core.List.{List}
use Prim.Native.Nat.{ℕ, ◌+◌, ◌*◌, ◌≤◌, ◌<◌}
use native.Mathlib.Nat.{zero-mul, suc-mul, mul-le-mul, mul-le-mul_right}
use native.Mathlib.Numerals.{add-one}
use native.Mathlib.Omega.{arith}
use native.Mathlib.Decide.{ℕ_discrete}
use lib.ListN.{length, get_or, set, length-set}
use lib.Seq.{ext_get_or, get_or-set_same, get_or-set_other}
use lib.Arith.{digits_lt}
use Rattle.grids.specs.Grids.{cell, arrangement}
use Rattle.grids.proofs.GridLaws.{length-arrangement, cell-arrangement}

pub cell-index : (m n i j : ℕ) → m ≤ 8 → n ≤ 16 → i < m → j < n → (i * n + j < m * n) × (m * n ≤ 128)
cell-index m n i j mm nn h k = (digits_lt h k, mul-le-mul mm nn)

pub record WrittenTo (i j m n : ℕ) (p q g out : List ℕ) : Type 0 where
  pub size : length out ≡ m * n
  pub before : (t : ℕ) → t < i * n + j → get_or out t 0 ≡ get_or (arrangement m n p q g) t 0

pub written_none : (m n : ℕ) (p q g out : List ℕ) → length out ≡ m * n → WrittenTo 0 0 m n p q g out
written_none m n p q g out e = record { size = e; before = λ t h. absurd (omega (arith, zero-mul n)) }

module _ {i j m n : ℕ} {p q g out : List ℕ} (w : WrittenTo i j m n p q g out) where
  pub written-cell : (x : ℕ) → i < m → j < n → x ≡ cell n g (get_or p i 0) (get_or q j 0) → WrittenTo i (j + 1) m n p q g (set out (i * n + j) x)
  written-cell x h k e = record { size = length-set out (i * n + j) x ∙ w.size; before = λ t b. go t b (ℕ_discrete t (i * n + j)) }
    where
      go : (t : ℕ) → t < i * n + (j + 1) → Dec (t ≡ i * n + j) → get_or (set out (i * n + j) x) t 0 ≡ get_or (arrangement m n p q g) t 0
      go t b (yes d) =
          rw d (get_or-set_same out (i * n + j) x 0 (omega (arith, w.size, digits_lt h k)) ∙ e ∙ sym (cell-arrangement m n p q g i j h k))
      go t b (no d) = get_or-set_other out (i * n + j) t x 0 d ∙ w.before t (omega arith)

  pub written_row : n ≤ j → WrittenTo (i + 1) 0 m n p q g out
  written_row h = record { size = w.size; before = λ t b. w.before t (omega (arith, rw (add-one i, suc-mul i n) at b)) }

  pub written_all : m ≤ i → out ≡ arrangement m n p q g
  written_all h =
      ext_get_or 0 out (arrangement m n p q g) (w.size ∙ sym (length-arrangement m n p q g)) λ t b.
      w.before t (omega (arith, w.size, mul-le-mul_right n h))
