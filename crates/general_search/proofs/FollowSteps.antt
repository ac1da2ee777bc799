-- The steps of `follow`, which follows one of the rows that can come next, from a best that covers the branches of the rows before it.
--
--   followed-next   ==  a better best that covers the row's branch: one row more is followed
--   further         ==  how the search stands in a candidate's branch
--   follow-cut      ==  what is returned where the candidate was found greater than the best
--   follow-jump     ==  where the search goes back to where a symmetry began
--   follow-last     ==  where no more than one row is left
--   follow-settled  ==  where its branch was searched, or is a copy of one tried before
--   goes_back       ==  whether the search goes back, by the test
--   follow-again    ==  where its branch was searched again
use mathlib.Core.Path.{◌≡◌, refl, sym, ◌∙◌}
use mathlib.Core.List.{List}
use mathlib.Core.Bool.{Bool, true, false, true≢false}
use mathlib.Core.Logic.{◌⊎◌, ◌↔◌, inl, inr}
use Prim.Native.Nat.{ℕ, suc, ◌+◌, ◌≤◌, ◌<◌}
use native.Mathlib.Decide.{ℕ_discrete, dec_lt}
use native.Mathlib.Omega.{arith}
use native.Mathlib.Numerals.{add-one}
use lib.ListN.{get_or}
use Rattle.std.specs.Prelude.{Option, Some, None, IsTrue, IsSomeAnd, unwrap_or}
use Rattle.permutations.specs.Permutations.{swapped}
use Rattle.permutations.specs.Rows.{row_numbers}
use Rattle.permutations.specs.Columns.{column_numbers}
use Rattle.std.specs.declared.cmp.Ordering.{Ordering}
use Rattle.grids.specs.Order.{◌≺◌}
use Rattle.std.specs.Ordering.{is_gt}
use Rattle.grids.specs.Comparisons.{compared}
use Rattle.grids.proofs.OrderLaws.{≼_refl, ≺-≼}
use Rattle.grids.proofs.ComparisonLaws.{greater-yes}
use Rattle.permutations.specs.declared.orders.Orders.{Orders}
use Rattle.general_search.specs.declared.state.Found.{Found}
use Rattle.general_search.specs.Blocks.{Split}
use Rattle.branches.specs.Branches.{Covers}
use Rattle.general_search.specs.Search.{leading_rows, row_at, lesser_orders, Searching, Candidate, Improves, Settled, Searched, back_to, BranchOutcome, Followed, FollowOutcome}
use Rattle.general_search.proofs.BlockLaws.{blocked-next}
use Rattle.branches.proofs.LeadingRows.{leading-more, leading-row}
use Rattle.branches.proofs.BranchLaws.{covers-lower, covers-cut, placed-stay}
use Rattle.general_search.proofs.SymmetryLaws.{alike-fewer, alike-covered}
use Rattle.general_search.proofs.SearchLaws.{improves-refl, improves-trans, improves-fewer, bound-below, lesser-improves, lesser-equal}

pub followed-next : (m n : ℕ) (g : List ℕ) (k t : ℕ) (placed best out new : Orders 8) → Followed m n g k t placed best out → Improves m n g k out new →
    Covers m n g (suc k) (swapped (row_numbers placed.rows) k t) (leading_rows m n g new) → Followed m n g k (t + 1) placed best new
followed-next m n g k t placed best out new h i c = record { improves = improves-trans m n g k best out new h.improves i; covers = λ r a b. go r a b (ℕ_discrete r t) }
  where
    go : (r : ℕ) → k ≤ r → r < t + 1 → Dec (r ≡ t) → Covers m n g (suc k) (swapped (row_numbers placed.rows) k r) (leading_rows m n g new)
    go r a b (yes e) = rw e c
    go r a b (no ne) =
        covers-lower m n g (suc k) (swapped (row_numbers placed.rows) k r) (leading_rows m n g out) (leading_rows m n g new) i.lower (h.covers r a (omega arith))

-- what is returned where the row is followed
goes-on-with : (m n : ℕ) (g : List ℕ) (k t : ℕ) (placed best : Orders 8) (jumps : Bool) (f : Found) → k ≤ back_to m f → Followed m n g k (t + 1) placed best f.best →
    FollowOutcome m n g k t placed best jumps f
goes-on-with m n g k t placed best jumps f kb h = record { returns = λ b. absurd (omega arith); goes_on = λ b. h }

-- the candidate at position t is `next`, and found is the comparison of its next row with the best's
module _ (m n : ℕ) (g : List ℕ) (k t : ℕ) (placed : Orders 8) (breaks : List Bool) (best next : Orders 8) (found : Ordering) (s : Searching m n g k placed breaks best) (kt : k ≤ t)
    (tm : t < m) (h : Followed m n g k t placed best best) (c : Candidate m n g k t placed breaks next) (e : found ≡ compared (row_at n g k next) (row_at n g k best)) where
  km : k < m
  km = omega arith

  begins : (i : ℕ) → i < k → get_or (row_numbers next.rows) i 0 ≡ get_or (row_numbers placed.rows) i 0
  begins i ik = rw c.rows (placed-stay m n g k (row_numbers placed.rows) s.rows_fit km s.orders.rows.whole t kt i ik)

  pub follow-cut : (jumps b : Bool) (f : Found) → b ≡ is_gt found → b ≡ true → f.best ≡ best → back_to m f ≡ m → FollowOutcome m n g k t placed best jumps f
  follow-cut jumps b f test y is-best is_m =
      goes-on-with m n g k t placed best jumps f (omega arith)
      (rw is-best
      (followed-next m n g k t placed best best best h (improves-refl m n g k best s.best-orders)
      (rw c.rows at
      (covers-cut m n g (suc k) (row_numbers next.rows) (column_numbers next.columns) (row_numbers best.rows) (column_numbers best.columns) km c.orders.columns.whole
      c.ascending (bound-below m n g k t placed breaks best next s c (≺-≼ (row_at n g k best) (row_at n g k next) above)) λ z.
      above (rw (leading-row n g (row_numbers best.rows) (column_numbers best.columns) (row_numbers next.rows) (column_numbers next.columns) k z) (≼_refl (row_at n g k next)))))))
    where
      above : row_at n g k best ≺ row_at n g k next
      above = greater-yes (row_at n g k next) (row_at n g k best) found b e test y

  -- the best is now the lesser of the two, `new`
  module _ (new : Orders 8) (o : new ≡ lesser_orders found next best) where
    better : Improves m n g k best new
    better = lesser-improves m n g k t placed breaks best next new found s c km e o

    pub further : (b : Bool) → b ≡ is_gt found → b ≡ false → (breaks' : List Bool) → Split n g (get_or (row_numbers next.rows) k 0) breaks (column_numbers next.columns) breaks' →
        Searching m n g (k + 1) next breaks' new
    further b test y breaks' split = rw add-one (record {
      placed-fits = km;
      rows_fit = s.rows_fit;
      columns-fit = s.columns-fit;
      orders = c.orders;
      blocked = blocked-next k n g (row_numbers placed.rows) (row_numbers next.rows) (column_numbers placed.columns) (column_numbers next.columns) breaks s.blocked begins
          c.columns.within c.columns.ascends breaks' split;
      best-orders = better.orders;
      leading = leading-more n g (row_numbers new.rows) (column_numbers new.columns) (row_numbers next.rows) (column_numbers next.columns) k
          (better.leading ∙ s.leading ∙ sym c.leading) (sym (lesser-equal m n g k t placed breaks best next new found s c km e o (sym test ∙ y)));
    })

    -- the search of the candidate's branch found `f`
    module _ (jumps : Bool) (f : Found) (found-deeper : BranchOutcome m n g (k + 1) next new jumps f) where
      deeper : BranchOutcome m n g (suc k) next new jumps f
      deeper = rw add-one at found-deeper

      deeper-improves : Improves m n g k best f.best
      deeper-improves = improves-trans m n g k best new f.best better (improves-fewer m n g k new f.best deeper.improves)

      -- the search goes back to before position k
      pub follow-jump : back_to m f < k → FollowOutcome m n g k t placed best jumps f
      follow-jump b = record {
        returns = λ z. record {
          improves = deeper-improves;
          covers = λ y. absurd (omega arith);
          alike = λ y. alike-fewer m n g k (row_numbers next.rows) (row_numbers placed.rows) f.best (back_to m f) begins (deeper.alike (omega arith));
          stays = λ y. let w = deeper.stays y in omega arith;
        };
        goes_on = λ z. absurd (omega arith);
      }

      -- no more than one row is left: the branch was searched, also where the search goes back
      pub follow-last : Searched m n g (k + 1) next new f.best → FollowOutcome m n g k t placed best jumps f
      follow-last z = record {
        returns = λ b. (follow-jump b).returns b;
        goes_on = λ b. followed-next m n g k t placed best best f.best h deeper-improves (rw c.rows at (rw add-one at z.covers));
      }

      -- the branch was searched, or it is a copy of one tried before
      pub follow-settled : k ≤ back_to m f → (b : Bool) → Settled m (row_numbers placed.rows) k t f b → b ≡ true → FollowOutcome m n g k t placed best jumps f
      follow-settled kb b z y =
          goes-on-with m n g k t placed best jumps f kb (followed-next m n g k t placed best best f.best h deeper-improves (go (dec_lt k (back_to m f)) (z.searched-or-tried y)))
        where
          go : Dec (k < back_to m f) → (k < back_to m f) ⊎ ((r : ℕ) × (k ≤ r) × (r < t) × (get_or (row_numbers placed.rows) r 0 ≡ get_or (row_numbers f.best.rows) k 0)) →
              Covers m n g (suc k) (swapped (row_numbers placed.rows) k t) (leading_rows m n g f.best)
          go (yes x) d = rw c.rows at (deeper.covers x)
          go (no x) (inl d) = absurd (x d)
          go (no x) (inr d) =
              let w : back_to m f ≡ k = omega arith in
              alike-covered m n g k d.0 t (row_numbers placed.rows) (leading_rows m n g f.best) f.best s.rows_fit km s.orders.rows.whole deeper.improves.orders d.1
              (omega (arith, d.2)) kt tm (rw (w, c.rows) at (deeper.alike (omega arith))) d.3
              (covers-lower m n g (suc k) (swapped (row_numbers placed.rows) k d.0) (leading_rows m n g best) (leading_rows m n g f.best) deeper-improves.lower (h.covers d.0 d.1 d.2))

      -- the branch was searched again, without jumps
      pub follow-again : (again : Found) → BranchOutcome m n g (k + 1) next f.best false again → FollowOutcome m n g k t placed best jumps again
      follow-again again a =
          let a' = rw add-one at a in
          let kb = a'.stays refl in
          goes-on-with m n g k t placed best jumps again (omega arith)
          (followed-next m n g k t placed best best again.best h
          (improves-trans m n g k best f.best again.best deeper-improves (improves-fewer m n g k f.best again.best a'.improves)) (rw c.rows at (a'.covers kb)))

-- whether the search goes back to a position before k
pub goes_back : (m k : ℕ) (f : Found) (t : Bool) → k ≤ m → IsTrue t ↔ IsSomeAnd f.back (λ b. b < k) → (t ≡ true → back_to m f < k) × (t ≡ false → k ≤ back_to m f)
goes_back m k f t km e = go f.back e
  where
    go : (o : Option ℕ) → IsTrue t ↔ IsSomeAnd o (λ b. b < k) → (t ≡ true → unwrap_or o m < k) × (t ≡ false → k ≤ unwrap_or o m)
    go None e = (λ y. absurd (e.0 y), λ y. km)
    go (Some b) e = (λ y. e.0 y, λ y. at_least b e y (dec_lt b k))
      where
        at_least : (b : ℕ) → IsTrue t ↔ (b < k) → t ≡ false → Dec (b < k) → k ≤ b
        at_least b e y (yes h) = absurd (true≢false (sym (e.1 h) ∙ y))
        at_least b e y (no h) = omega arith
