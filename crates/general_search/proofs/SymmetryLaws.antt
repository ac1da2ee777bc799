-- Symmetries of the grid that the search finds: two row orders with one arrangement.
--
--   alike-fewer     ==  a branch that holds a copy of the best is in a larger one that does
--   alike-covered   ==  a branch that is a copy of one tried before is covered
--   alike-last      ==  the last row placed gives the best's arrangement: the branch holds a copy of it
use mathlib.Core.Path.{◌≡◌, sym, ap₂, ◌∙◌}
use mathlib.Core.List.{List}
use Prim.Native.Nat.{ℕ, suc, ◌≤◌, ◌<◌}
use native.Mathlib.Decide.{ℕ_discrete}
use native.Mathlib.Omega.{arith}
use lib.ListN.{get_or, take}
use lib.Seq.{get_or-take}
use Rattle.permutations.specs.Permutations.{swapped}
use Rattle.permutations.specs.Padded.{IsPadded}
use Rattle.permutations.specs.Rows.{row_numbers}
use Rattle.permutations.specs.Columns.{column_numbers}
use Rattle.grids.specs.Grids.{cell, arrangement}
use Rattle.permutations.specs.declared.orders.Orders.{Orders}
use Rattle.branches.specs.Branches.{Begins, Covers}
use Rattle.general_search.specs.Search.{leading_rows, IsOrders, Alike}
use Rattle.branches.proofs.LeadingRows.{leading-is}
use Rattle.branches.proofs.BranchLaws.{covers-agree, placed-stay, placed-next}
use Rattle.branches.proofs.BranchSymmetry.{covers-alike}

-- the orders' own permutations give the arrangement
own : (m n : ℕ) (g : List ℕ) (o : Orders 8) → arrangement m n (take m (row_numbers o.rows)) (take n (column_numbers o.columns)) g ≡ leading_rows m n g o
own m n g o =
    leading-is n g (take m (row_numbers o.rows)) (take n (column_numbers o.columns)) (row_numbers o.rows) (column_numbers o.columns) m λ i j im jn.
    ap₂ (λ (a b : ℕ). cell n g a b) (get_or-take m (row_numbers o.rows) i 0 im) (get_or-take n (column_numbers o.columns) j 0 jn)

pub alike-fewer : (m n : ℕ) (g : List ℕ) (k : ℕ) (next placed : List ℕ) (out : Orders 8) (back : ℕ) → ((i : ℕ) → i < k → get_or next i 0 ≡ get_or placed i 0) →
    Alike m n g (suc k) next out back → Alike m n g k placed out back
unfolding Begins
alike-fewer m n g k next placed out back same a = record {
  rows = a.rows;
  columns = a.columns;
  row-permutation = a.row-permutation;
  column-permutation = a.column-permutation;
  begins = λ i ik. a.begins i (omega arith) ∙ same i ik;
  gives = a.gives;
  agrees = a.agrees;
}

-- The branch of the row at position t holds a copy of out, which begins with the same k rows and goes on with the row at position s.
pub alike-covered : (m n : ℕ) (g : List ℕ) (k s t : ℕ) (p r : List ℕ) (out : Orders 8) → m ≤ 8 → k < m → IsPadded 8 m p → IsOrders m n out → k ≤ s → s < m → k ≤ t → t < m →
    Alike m n g (suc k) (swapped p k t) out k → get_or p s 0 ≡ get_or (row_numbers out.rows) k 0 → Covers m n g (suc k) (swapped p k s) r → Covers m n g (suc k) (swapped p k t) r
unfolding Begins
alike-covered m n g k s t p r out m8 km o io ks sm kt tm a e c =
    covers-agree m n g (suc k) a.rows (swapped p k t) r (λ i ik. sym (a.begins i ik))
    (covers-alike m n g (suc k) (take m o-rows) (take n (column_numbers out.columns)) a.rows a.columns r km io.rows.whole.permutation io.columns.whole.permutation
    a.row-permutation a.column-permutation (own m n g out ∙ sym a.gives) (covers-agree m n g (suc k) (swapped p k s) (take m o-rows) r (λ i ik. go i ik (ℕ_discrete i k)) c))
  where
    o-rows : List ℕ
    o-rows = row_numbers out.rows

    go : (i : ℕ) → i < suc k → Dec (i ≡ k) → get_or (take m o-rows) i 0 ≡ get_or (swapped p k s) i 0
    go i ik (yes z) = get_or-take m o-rows i 0 (omega arith) ∙ rw z (sym e ∙ sym (placed-next m n g k p m8 km o s sm))
    go i ik (no nz) =
        get_or-take m o-rows i 0 (omega arith)
        ∙ sym (a.agrees i (omega arith))
        ∙ a.begins i ik
        ∙ placed-stay m n g k p m8 km o t kt i (omega arith)
        ∙ sym (placed-stay m n g k p m8 km o s ks i (omega arith))

pub alike-last : (m n : ℕ) (g : List ℕ) (k : ℕ) (placed : List ℕ) (next out : Orders 8) (back : ℕ) → k ≤ m → IsOrders m n next → ((i : ℕ) → i < k → get_or (row_numbers next.rows) i 0 ≡ get_or placed i 0) →
    leading_rows m n g next ≡ leading_rows m n g out → ((i : ℕ) → i < back → get_or (row_numbers next.rows) i 0 ≡ get_or (row_numbers out.rows) i 0) → back ≤ m → Alike m n g k placed out back
unfolding Begins
alike-last m n g k placed next out back km io same e common bm = record {
  rows = take m (row_numbers next.rows);
  columns = take n (column_numbers next.columns);
  row-permutation = io.rows.whole.permutation;
  column-permutation = io.columns.whole.permutation;
  begins = λ i ik. get_or-take m (row_numbers next.rows) i 0 (omega arith) ∙ same i ik;
  gives = own m n g next ∙ e;
  agrees = λ i ib. get_or-take m (row_numbers next.rows) i 0 (omega arith) ∙ common i ib;
}
