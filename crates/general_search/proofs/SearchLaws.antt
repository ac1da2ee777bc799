-- What the search's functions say to each other, from one to the next.
--
--   improves-refl, improves-trans, improves-fewer  ==  improving the best
--   searching-better    ==  the search stands so with a better best as well
--   candidate-of        ==  a candidate: a row more, and the blocks sorted by it
--   candidate-lower     ==  a candidate whose next row is lower improves the best
--   bound-below, bound-above  ==  a best whose next row is no higher comes no later than the candidate, and the other way round
--   equal-not-greater   ==  what was found equal was not found greater
--   lesser-is           ==  the lesser of two orders is the one that was found less
--   lesser-improves, lesser-lower  ==  the lesser of a candidate and the best improves the best, and comes no later than the candidate
--   lesser-equal        ==  its next row is the candidate's, unless the candidate was found greater
use mathlib.Core.Path.{◌≡◌, refl, sym, ◌∙◌}
use mathlib.Core.List.{List}
use mathlib.Core.Bool.{Bool, true, false, true≢false}
use mathlib.Core.Logic.{◌⊎◌, inl, inr, ⊎_elim}
use Prim.Native.Nat.{ℕ, suc, ◌≤◌, ◌<◌}
use native.Mathlib.Omega.{arith}
use lib.ListN.{get_or}
use Rattle.permutations.specs.Permutations.{swapped}
use Rattle.permutations.specs.Rows.{row_numbers}
use Rattle.permutations.specs.Numbered.{Lists}
use Rattle.permutations.specs.Columns.{column_numbers}
use Rattle.permutations.proofs.SwapLaws.{swapped-whole}
use Rattle.std.specs.declared.cmp.Ordering.{Ordering}
use Rattle.std.specs.declared.cmp.Ordering.TheVariants.{Less, Equal, Greater}
use Rattle.grids.specs.Order.{◌≼◌, ◌≺◌}
use Rattle.std.specs.Ordering.{is_lt, is_eq, is_gt}
use Rattle.grids.specs.Comparisons.{compared}
use Rattle.grids.proofs.OrderLaws.{≼_refl, ≼_trans, ≺-≼}
use Rattle.grids.proofs.ComparisonLaws.{compared-less, compared-equal, compared-greater}
use Rattle.permutations.specs.declared.orders.Orders.{Orders}
use Rattle.general_search.specs.Blocks.{BlocksSorted}
use Rattle.general_search.specs.Search.{leading_rows, row_at, lesser_orders, IsOrders, Searching, Candidate, Improves}
use Rattle.general_search.proofs.BlockLaws.{sorted-ascending, sorted-leading}
use Rattle.branches.proofs.LeadingRows.{leading-fewer, leading-lower, leading-row, leading-decides}
use Rattle.branches.proofs.BranchLaws.{placed-stay, placed-next}

-- ---- improving the best

pub improves-refl : (m n : ℕ) (g : List ℕ) (k : ℕ) (o : Orders 8) → IsOrders m n o → Improves m n g k o o
improves-refl m n g k o i = record { orders = i; lower = ≼_refl (leading_rows m n g o); leading = refl }

pub improves-trans : (m n : ℕ) (g : List ℕ) (k : ℕ) (a b c : Orders 8) → Improves m n g k a b → Improves m n g k b c → Improves m n g k a c
improves-trans m n g k a b c i j = record {
  orders = j.orders;
  lower = ≼_trans (leading_rows m n g c) (leading_rows m n g b) (leading_rows m n g a) j.lower i.lower;
  leading = j.leading ∙ i.leading;
}

pub improves-fewer : (m n : ℕ) (g : List ℕ) (k : ℕ) (a b : Orders 8) → Improves m n g (suc k) a b → Improves m n g k a b
improves-fewer m n g k a b i = record {
  orders = i.orders;
  lower = i.lower;
  leading = leading-fewer n g (row_numbers b.rows) (column_numbers b.columns) (row_numbers a.rows) (column_numbers a.columns) k (suc k) (omega arith) i.leading;
}

pub searching-better : (m n : ℕ) (g : List ℕ) (k : ℕ) (placed : Orders 8) (breaks : List Bool) (best out : Orders 8) →
    Searching m n g k placed breaks best → Improves m n g k best out → Searching m n g k placed breaks out
searching-better m n g k placed breaks best out s i = record {
  placed-fits = s.placed-fits;
  rows_fit = s.rows_fit;
  columns-fit = s.columns-fit;
  orders = s.orders;
  blocked = s.blocked;
  best-orders = i.orders;
  leading = i.leading ∙ s.leading;
}

-- ---- a candidate

pub candidate-of : (m n : ℕ) (g : List ℕ) (k t : ℕ) (placed : Orders 8) (breaks : List Bool) (best next : Orders 8) → Searching m n g k placed breaks best → k ≤ t → t < m →
    Lists (swapped (row_numbers placed.rows) k t) placed.rows.size next.rows →
    (x : ℕ) → x ≡ get_or (row_numbers placed.rows) t 0 → BlocksSorted n g x breaks placed.columns n next.columns → Candidate m n g k t placed breaks next
candidate-of m n g k t placed breaks best next s kt tm r x e c' = record {
  orders = record {
    rows = record {
      whole = rw r.numbers (swapped-whole 8 m p k t s.rows_fit (omega arith) tm s.orders.rows.whole);
      size = r.size ∙ s.orders.rows.size;
    };
    columns = record { whole = c.within.columns; size = c.size ∙ s.orders.columns.size };
  };
  rows = r.numbers;
  columns = c;
  ascending = sorted-ascending k n g p (row_numbers next.rows) (column_numbers placed.columns) (column_numbers next.columns) breaks s.blocked begins c.within c.ascends;
  leading = sorted-leading k n g p (row_numbers next.rows) (column_numbers placed.columns) (column_numbers next.columns) breaks s.blocked begins c.within c.ascends;
}
  where
    p : List ℕ
    p = row_numbers placed.rows

    -- the row that comes next is the one at position t
    c : BlocksSorted n g (get_or (row_numbers next.rows) k 0) breaks placed.columns n next.columns
    c = rw (r.numbers, placed-next m n g k p s.rows_fit (omega arith) s.orders.rows.whole t tm, ← e) c'

    begins : (i : ℕ) → i < k → get_or (row_numbers next.rows) i 0 ≡ get_or p i 0
    begins i ik = rw r.numbers (placed-stay m n g k p s.rows_fit (omega arith) s.orders.rows.whole t kt i ik)

module _ (m n : ℕ) (g : List ℕ) (k t : ℕ) (placed : Orders 8) (breaks : List Bool) (best next : Orders 8) (s : Searching m n g k placed breaks best)
    (c : Candidate m n g k t placed breaks next) where
  same-leading : leading_rows k n g next ≡ leading_rows k n g best
  same-leading = c.leading ∙ sym s.leading

  pub bound-below : row_at n g k best ≼ row_at n g k next → leading_rows (suc k) n g best ≼ leading_rows (suc k) n g next
  bound-below h =
      leading-lower n g (row_numbers best.rows) (column_numbers best.columns) (row_numbers next.rows) (column_numbers next.columns) k (sym same-leading) h

  pub bound-above : row_at n g k next ≼ row_at n g k best → leading_rows (suc k) n g next ≼ leading_rows (suc k) n g best
  bound-above h =
      leading-lower n g (row_numbers next.rows) (column_numbers next.columns) (row_numbers best.rows) (column_numbers best.columns) k same-leading h

  pub candidate-lower : k < m → row_at n g k next ≺ row_at n g k best → Improves m n g k best next
  candidate-lower km h = record {
    orders = c.orders;
    lower = leading-decides n g (row_numbers next.rows) (column_numbers next.columns) (row_numbers best.rows) (column_numbers best.columns) m (suc k) km
        (bound-above (≺-≼ (row_at n g k next) (row_at n g k best) h)) differ;
    leading = same-leading;
  }
    where
      differ : leading_rows (suc k) n g next ≡ leading_rows (suc k) n g best → ⊥
      differ e =
          h (rw (leading-row n g (row_numbers next.rows) (column_numbers next.columns) (row_numbers best.rows) (column_numbers best.columns) k e)
          (≼_refl (row_at n g k best)))

-- ---- the lesser of a candidate and the best

pub lesser-is : (found : Ordering) (next best out : Orders 8) → is_lt found ≡ true → out ≡ lesser_orders found next best → out ≡ next
lesser-is Less next best out h o = o
lesser-is Equal next best out h o = absurd (true≢false (sym h))
lesser-is Greater next best out h o = absurd (true≢false (sym h))

-- found is the comparison of the candidate's next row with the best's
module _ (m n : ℕ) (g : List ℕ) (k t : ℕ) (placed : Orders 8) (breaks : List Bool) (best next out : Orders 8) (found : Ordering) (s : Searching m n g k placed breaks best)
    (c : Candidate m n g k t placed breaks next) (km : k < m) (f : found ≡ compared (row_at n g k next) (row_at n g k best)) (o : out ≡ lesser_orders found next best) where
  -- what found says, and which of the two out is
  cases : ((row_at n g k next ≺ row_at n g k best) × (out ≡ next))
      ⊎ (((row_at n g k next ≡ row_at n g k best) × (out ≡ best)) ⊎ ((row_at n g k best ≺ row_at n g k next) × (out ≡ best) × (is_gt found ≡ true)))
  cases = go found f o
    where
      go : (x : Ordering) → x ≡ compared (row_at n g k next) (row_at n g k best) → out ≡ lesser_orders x next best →
          ((row_at n g k next ≺ row_at n g k best) × (out ≡ next))
          ⊎ (((row_at n g k next ≡ row_at n g k best) × (out ≡ best)) ⊎ ((row_at n g k best ≺ row_at n g k next) × (out ≡ best) × (is_gt x ≡ true)))
      go Less e h = inl (compared-less (row_at n g k next) (row_at n g k best) (sym e), h)
      go Equal e h = inr (inl (compared-equal (row_at n g k next) (row_at n g k best) (sym e), h))
      go Greater e h = inr (inr (compared-greater (row_at n g k next) (row_at n g k best) (sym e), h, refl))

  pub lesser-improves : Improves m n g k best out
  lesser-improves =
      ⊎_elim (λ x. rw x.1 (candidate-lower m n g k t placed breaks best next s c km x.0))
      (⊎_elim (λ x. rw x.1 (improves-refl m n g k best s.best-orders)) (λ x. rw x.1 (improves-refl m n g k best s.best-orders))) cases

  -- where the candidate is not above the best, its next row is now the best's
  pub lesser-equal : is_gt found ≡ false → row_at n g k next ≡ row_at n g k out
  lesser-equal e =
      ⊎_elim (λ x. rw x.1) (⊎_elim (λ x. rw x.1 x.0) (λ x. absurd (true≢false (sym x.2 ∙ e)))) cases

  -- and in any case it comes no later, by one row more
  pub lesser-lower : leading_rows (suc k) n g out ≼ leading_rows (suc k) n g next
  lesser-lower =
      ⊎_elim (λ x. rw x.1 (≼_refl (leading_rows (suc k) n g next)))
      (⊎_elim (λ x. rw x.1 (below (rw x.0 (≼_refl (row_at n g k best))))) (λ x. rw x.1 (below (≺-≼ (row_at n g k best) (row_at n g k next) x.0)))) cases
    where
      below : row_at n g k best ≼ row_at n g k next → leading_rows (suc k) n g best ≼ leading_rows (suc k) n g next
      below = bound-below m n g k t placed breaks best next s c

pub equal-not-greater : (c : Ordering) (t : Bool) → t ≡ is_eq c → t ≡ true → is_gt c ≡ false
equal-not-greater Less t e h = refl
equal-not-greater Equal t e h = refl
equal-not-greater Greater t e h = absurd (true≢false (sym h ∙ e))
