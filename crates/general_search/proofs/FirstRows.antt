-- The rows that can be first in the least arrangement: those with the greatest counts.
--
--   counts-cover  ==  what comes no later than a row with its cells sorted, by one row, covers the branches of the rows with lesser counts
--   first-bound   ==  the bound with the first row of the greatest counts placed first
use mathlib.Core.Path.{◌≡◌, sym, ap, ◌∙◌}
use mathlib.Core.List.{List}
use mathlib.Core.Bool.{Bool}
use Prim.Native.Nat.{ℕ, ◌≤◌, ◌<◌}
use native.Mathlib.Nat.{not-suc-le-zero}
use native.Mathlib.Omega.{arith}
use lib.ListN.{length, get_or}
use Rattle.permutations.specs.Permutations.{IsPermutation, swapped}
use Rattle.permutations.specs.Rows.{row_numbers}
use Rattle.permutations.specs.Columns.{column_numbers}
use Rattle.permutations.proofs.ListLaws.{length-tabulate, at-tabulate}
use Rattle.std.specs.declared.cmp.Ordering.{Ordering}
use Rattle.grids.specs.Order.{rank, ◌≼◌, ◌≺◌}
use Rattle.std.specs.Ordering.{is_lt}
use Rattle.grids.specs.Comparisons.{compared}
use Rattle.grids.specs.Grids.{cell, row, permuted_row, arrangement}
use Rattle.grids.specs.Sorted.{permuted_column, Ascending}
use Rattle.grids.proofs.OrderLaws.{≼_refl, ≼_trans, ≼-antisymm, ≺-≼, tabulate-at}
use Rattle.permutations.specs.declared.orders.Orders.{Orders}
use Rattle.general_search.specs.declared.state.Bound.{Bound}
use Rattle.general_search.specs.Counts.{counts, CountsRows, FirstGreatest, MarksLess}
use Rattle.general_search.specs.Search.{leading_rows, row_at, lesser_orders, Searching, Candidate, Bounded}
use Rattle.branches.proofs.LeadingRows.{leading-is, leading-row, leading-lower}
use Rattle.branches.proofs.BranchLaws.{placed-next}
use Rattle.general_search.proofs.SearchLaws.{lesser-is, lesser-improves, lesser-lower}
use Rattle.general_search.proofs.BoundLaws.{Branch, strictly-covers}
use Rattle.general_search.proofs.CountLaws.{counts-lower, counts-permuted, counts_whole}

-- the row at position f is placed first, and its cells are sorted
module _ (m n : ℕ) (g : List ℕ) (f : ℕ) (placed : Orders 8) (breaks : List Bool) (best leader : Orders 8) (s : Searching m n g 0 placed breaks best)
    (c : Candidate m n g 0 f placed breaks leader) (fm : f < m) where
  abbrev p : List ℕ
  p = row_numbers placed.rows

  abbrev q : List ℕ
  q = column_numbers leader.columns

  abbrev x : ℕ
  x = get_or (row_numbers leader.rows) 0 0

  leads : x ≡ get_or p f 0
  leads = ap (λ (l : List ℕ). get_or l 0 0) c.rows ∙ placed-next m n g 0 p s.rows_fit (omega arith) s.orders.rows.whole f fm

  up : (a b : ℕ) → a ≤ b → b < n → rank (cell n g x (get_or q a 0)) ≤ rank (cell n g x (get_or q b 0))
  unfolding Ascending permuted_column
  up a b ab bn = tabulate-at 1 _ _ (c.ascending a b ab bn) 0 (omega arith) (λ i z. absurd (not-suc-le-zero z))

  module _ (t : ℕ) (tm : t < m) (less : counts (row n g (get_or p t 0)) < counts (row n g (get_or p f 0))) where
    next : get_or (swapped p 0 t) 0 0 ≡ get_or p t 0
    next = placed-next m n g 0 p s.rows_fit (omega arith) s.orders.rows.whole t tm

    -- the leader's first row comes before every order of the other's cells
    before : (r : List ℕ) → IsPermutation n r → permuted_row n g x q ≺ permuted_row n g (get_or p t 0) r
    unfolding permuted_row
    before r o h =
        omega (
          arith,
          counts-lower (permuted_row n g (get_or p t 0) r) (permuted_row n g x q) (omega (arith, size, length-tabulate 0 n (λ j. cell n g (get_or p t 0) (get_or r j 0)))) (omega (arith, size, s.columns-fit)) ascend h,
          counts-permuted n g (get_or p t 0) r o,
          counts_whole n g x q c.orders.columns.whole,
          ap (λ (i : ℕ). counts (row n g i)) leads,
        )
      where
        size : length (permuted_row n g x q) ≡ n
        size = length-tabulate 0 n (λ j. cell n g x (get_or q j 0))

        ascend : (a b : ℕ) → a ≤ b → b < length (permuted_row n g x q) → rank (get_or (permuted_row n g x q) a 0) ≤ rank (get_or (permuted_row n g x q) b 0)
        ascend a b ab bl =
            rw (at-tabulate n (λ j. cell n g x (get_or q j 0)) a 0 (omega (arith, size)), at-tabulate n (λ j. cell n g x (get_or q j 0)) b 0 (omega (arith, size)))
            (up a b ab (omega (arith, size)))

    -- and so does the whole branch
    lead : (r : List ℕ) → IsPermutation n r → leading_rows 1 n g leader ≼ arrangement 1 n (swapped p 0 t) r g
    lead r o = leading-lower n g (row_numbers leader.rows) q (swapped p 0 t) r 0 none (rw next (≺-≼ (permuted_row n g x q) (permuted_row n g (get_or p t 0) r) (before r o)))
      where
        none : arrangement 0 n (row_numbers leader.rows) q g ≡ arrangement 0 n (swapped p 0 t) r g
        none = leading-is n g (row_numbers leader.rows) q (swapped p 0 t) r 0 (λ i j z. absurd (not-suc-le-zero z))

    apart : (r : List ℕ) → IsPermutation n r → leading_rows 1 n g leader ≡ arrangement 1 n (swapped p 0 t) r g → ⊥
    apart r o e = before r o (rw (← next, ← leading-row n g (row_numbers leader.rows) q (swapped p 0 t) r 0 e) (≼_refl (permuted_row n g x q)))

    pub counts-cover : (out : Orders 8) → leading_rows 1 n g out ≼ leading_rows 1 n g leader → Branch m n g 0 placed t out
    counts-cover out h =
        strictly-covers m n g 0 placed t out (omega arith) (λ r o. ≼_trans (leading_rows 1 n g out) (leading_rows 1 n g leader) _ h (lead r o))
        (λ r o e. apart r o (≼-antisymm (leading_rows 1 n g leader) _ (lead r o) (rw e at h)))

  -- f is the first of the rows with the greatest counts, which `all` holds, and found is the comparison of its cells with the best's first row
  module _ (all : List ℕ) (counted : CountsRows m n g p all) (greatest : FirstGreatest m all f) (found : Ordering) (e : found ≡ compared (row_at n g 0 leader) (row_at n g 0 best)) where
    pub first-bound : (b : Bound) → b.best ≡ lesser_orders found leader best → b.from ≡ f → MarksLess all f b.above → b.made ≡ is_lt found →
        Bounded m n g 0 placed breaks best b
    unfolding MarksLess CountsRows
    first-bound b o z marks w = record {
      improves = lesser-improves m n g 0 f placed breaks best leader b.best found s c (omega arith) e o;
      first = omega arith;
      before = λ t a h. covered t (omega arith) (greatest.before t (omega arith));
      above = λ t a h nz. covered t h (marks t nz);
      candidate = λ y. rw (z, lesser-is found leader best b.best (sym w ∙ y) o) c;
    }
      where
        covered : (t : ℕ) → t < m → get_or all t 0 < get_or all f 0 → Branch m n g 0 placed t b.best
        covered t tm h =
            counts-cover t tm (omega (arith, counted t tm, counted f fm)) b.best (lesser-lower m n g 0 f placed breaks best leader b.best found s c (omega arith) e o)
