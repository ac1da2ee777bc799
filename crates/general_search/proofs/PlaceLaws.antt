-- The steps of `place`, which follows the rows that can come next one after another.
--
--   followed-above      ==  past a candidate that the bound covers
--   followed-repeated   ==  past a row that repeats one before it
--   followed-self, followed-better  ==  a row is followed from what the rows before it gave, and what that gives
--   followed-all        ==  at the end: the branch is searched
--   outcome-better      ==  from a better best
--   outcome-searched, outcome-alike  ==  what is returned where the branch was searched, and where it also gave the best's arrangement
--   placed-last         ==  a branch with one row left is searched with that row placed
--   placed-all          ==  a branch with all rows placed is searched
--   root-searching      ==  how the search stands at first
--   searched-least, outcome-least  ==  the branch with no row placed, searched, gives the least
use mathlib.Core.Path.{◌≡◌, refl, sym, ap₂, ◌∙◌}
use mathlib.Core.List.{List}
use mathlib.Core.Bool.{Bool, true, false, true≢false}
use Prim.Native.Nat.{ℕ, suc, ◌+◌, ◌*◌, ◌≤◌, ◌<◌}
use native.Mathlib.Decide.{dec_lt}
use native.Mathlib.Omega.{arith}
use lib.ListN.{length, get_or, take, get_or-replicate}
use lib.Seq.{get_or-take}
use Rattle.permutations.specs.Permutations.{swapped}
use Rattle.permutations.specs.Rows.{row_numbers}
use Rattle.permutations.specs.Columns.{column_numbers}
use Rattle.permutations.proofs.SwapLaws.{identity-whole}
use Rattle.grids.specs.Order.{◌≼◌}
use Rattle.grids.specs.Grids.{cell, row, OneClass}
use Rattle.grids.proofs.LeastLaws.{is-least}
use Rattle.permutations.specs.declared.orders.Orders.{Orders}
use Rattle.general_search.specs.declared.state.Branch.{Branch}
use Rattle.general_search.specs.declared.state.Found.{Found}
use Rattle.branches.specs.Branches.{Covers}
use Rattle.permutations.specs.Numbered.{InCommon}
use Rattle.general_search.specs.Search.{leading_rows, row_at, IsOrders, Searching, Candidate, Improves, Searched, back_to, BranchOutcome, Followed, IsRoot, LeastOrders}
use Rattle.general_search.proofs.BlockLaws.{blocked-ascending, blocked-start}
use Rattle.branches.proofs.LeadingRows.{leading-is, leading-more}
use Rattle.general_search.proofs.RepeatedRows.{row-cells}
use Rattle.branches.proofs.BranchLaws.{covers-lower, covers-placed, covers-next, covers-equal, covers-least, placed-stay}
use Rattle.general_search.proofs.SymmetryLaws.{alike-last}
use Rattle.general_search.proofs.SearchLaws.{improves-refl, improves-trans}
use Rattle.general_search.proofs.FollowSteps.{followed-next}

pub placed-all : (m n : ℕ) (g : List ℕ) (k : ℕ) (placed : Orders 8) (breaks : List Bool) (best : Orders 8) → k ≡ m → Searching m n g k placed breaks best → Searched m n g k placed best best
placed-all m n g k placed breaks best e s = record {
  improves = improves-refl m n g k best s.best-orders;
  covers = rw e
      (covers-placed m n g (row_numbers placed.rows) (column_numbers placed.columns) (row_numbers best.rows) (column_numbers best.columns) s.blocked.columns
      (blocked-ascending m n g (row_numbers placed.rows) (column_numbers placed.columns) breaks (rw e at s.blocked)) (rw e at s.leading));
}

-- the last row is placed, and the columns are sorted by it
pub placed-last : (m n : ℕ) (g : List ℕ) (k : ℕ) (placed : Orders 8) (breaks : List Bool) (best next out : Orders 8) → suc k ≡ m → Searching m n g k placed breaks best →
    Candidate m n g k k placed breaks next → Improves m n g k best out → leading_rows (suc k) n g out ≼ leading_rows (suc k) n g next → Searched m n g k placed best out
placed-last m n g k placed breaks best next out e s c i l = record {
  improves = i;
  covers = covers-next m n g k (row_numbers placed.rows) s.rows_fit (omega arith) s.orders.rows.whole (leading_rows m n g out) λ t kt tm.
      let z : t ≡ k = omega arith in
      rw z whole;
}
  where
    whole : Covers m n g (suc k) (swapped (row_numbers placed.rows) k k) (leading_rows m n g out)
    whole =
        rw (← c.rows, e)
        (covers-lower m n g m (row_numbers next.rows) (leading_rows m n g next) (leading_rows m n g out) (rw e at l)
        (covers-placed m n g (row_numbers next.rows) (column_numbers next.columns) (row_numbers next.rows) (column_numbers next.columns) c.orders.columns.whole
        (rw e at c.ascending) refl))

module _ (m n : ℕ) (g : List ℕ) (k t : ℕ) (placed : Orders 8) (breaks : List Bool) (best out : Orders 8) (s : Searching m n g k placed breaks best)
    (h : Followed m n g k t placed best out) where
  pub followed-all : m ≤ t → Searched m n g k placed best out
  followed-all mt = go (dec_lt k m)
    where
      go : Dec (k < m) → Searched m n g k placed best out
      go (yes km) = record {
        improves = h.improves;
        covers = covers-next m n g k (row_numbers placed.rows) s.rows_fit km s.orders.rows.whole (leading_rows m n g out) (λ r a b. h.covers r a (omega arith));
      }
      go (no km) = record {
        improves = h.improves;
        covers = covers-lower m n g k (row_numbers placed.rows) (leading_rows m n g best) (leading_rows m n g out) h.improves.lower
            (placed-all m n g k placed breaks best (omega (arith, s.placed-fits)) s).covers;
      }

  -- the best to begin with covers the branch already
  pub followed-above : Covers m n g (suc k) (swapped (row_numbers placed.rows) k t) (leading_rows m n g best) → Followed m n g k (t + 1) placed best out
  followed-above c =
      followed-next m n g k t placed best out out h (improves-refl m n g k out h.improves.orders)
      (covers-lower m n g (suc k) (swapped (row_numbers placed.rows) k t) (leading_rows m n g best) (leading_rows m n g out) h.improves.lower c)

  pub followed-repeated : (r : ℕ) → k ≤ r → r < t → t < m → row n g (get_or (row_numbers placed.rows) r 0) ≡ row n g (get_or (row_numbers placed.rows) t 0) →
      Followed m n g k (t + 1) placed best out
  followed-repeated r kr rt tm e =
      followed-next m n g k t placed best out out h (improves-refl m n g k out h.improves.orders)
      (covers-equal m n g k (row_numbers placed.rows) s.rows_fit (omega arith) s.orders.rows.whole r t (leading_rows m n g out) kr (omega arith) (omega arith) tm
      (row-cells n g (get_or (row_numbers placed.rows) r 0) (get_or (row_numbers placed.rows) t 0) e) (h.covers r kr rt))

  -- the search goes on from out: it is followed, and it stands so with out as the best
  pub followed-self : Followed m n g k t placed out out
  followed-self = record { improves = improves-refl m n g k out h.improves.orders; covers = h.covers }

  pub followed-better : (new : Orders 8) → Followed m n g k (t + 1) placed out new → Followed m n g k (t + 1) placed best new
  followed-better new f = record { improves = improves-trans m n g k best out new h.improves f.improves; covers = f.covers }

-- ---- what the search of a branch returns

pub outcome-better : (m n : ℕ) (g : List ℕ) (k : ℕ) (placed best mid : Orders 8) (jumps : Bool) (f : Found) → Improves m n g k best mid → BranchOutcome m n g k placed mid jumps f → BranchOutcome m n g k placed best jumps f
outcome-better m n g k placed best mid jumps f i o = record {
  improves = improves-trans m n g k best mid f.best i o.improves;
  covers = o.covers;
  alike = o.alike;
  stays = o.stays;
}

pub outcome-searched : (m n : ℕ) (g : List ℕ) (k : ℕ) (placed best : Orders 8) (jumps : Bool) (f : Found) → k ≤ back_to m f → Searched m n g k placed best f.best →
    BranchOutcome m n g k placed best jumps f
outcome-searched m n g k placed best jumps f kb s = record {
  improves = s.improves;
  covers = λ h. s.covers;
  alike = λ h. absurd (omega arith);
  stays = λ h. kb;
}

-- the last row placed gives the best's arrangement
pub outcome-alike : (m n : ℕ) (g : List ℕ) (k : ℕ) (placed : Orders 8) (breaks : List Bool) (best next : Orders 8) (jumps : Bool) (f : Found) → suc k ≡ m → jumps ≡ true →
    Searching m n g k placed breaks best → Candidate m n g k k placed breaks next → Searched m n g k placed best f.best → row_at n g k next ≡ row_at n g k f.best →
    InCommon (row_numbers next.rows) (row_numbers f.best.rows) m (back_to m f) → BranchOutcome m n g k placed best jumps f
outcome-alike m n g k placed breaks best next jumps f e j s c h r common = record {
  improves = h.improves;
  covers = λ z. h.covers;
  alike = λ z. alike-last m n g k (row_numbers placed.rows) next f.best (back_to m f) (omega arith) c.orders begins whole common.same common.up_to;
  stays = λ z. absurd (true≢false (sym j ∙ z));
}
  where
    begins : (i : ℕ) → i < k → get_or (row_numbers next.rows) i 0 ≡ get_or (row_numbers placed.rows) i 0
    begins i ik = rw c.rows (placed-stay m n g k (row_numbers placed.rows) s.rows_fit (omega arith) s.orders.rows.whole k (omega arith) i ik)

    whole : leading_rows m n g next ≡ leading_rows m n g f.best
    whole =
        rw e at
        (leading-more n g (row_numbers next.rows) (column_numbers next.columns) (row_numbers f.best.rows) (column_numbers f.best.columns) k
        (c.leading ∙ sym s.leading ∙ sym h.improves.leading) r)

-- ---- the whole search

pub root-searching : (m n : ℕ) (g : List ℕ) (b : Branch) → m ≤ 8 → n ≤ 16 → IsRoot m n b → Searching m n g b.k b.placed b.breaks b.placed
root-searching m n g b hm hn r = rw r.none-placed (record {
  placed-fits = omega arith;
  rows_fit = hm;
  columns-fit = hn;
  orders = orders;
  blocked = blocked-start n g (row_numbers b.placed.rows) (column_numbers b.placed.columns) b.breaks orders.columns.whole
      (λ j h. rw r.no_breaks (get_or-replicate 16 j false false (omega arith)));
  best-orders = orders;
  leading = refl;
})
  where
    orders : IsOrders m n b.placed
    orders = record {
      rows = record { whole = rw r.rows.numbers (identity-whole 8 m hm); size = r.rows.size };
      columns = record { whole = rw r.columns.numbers (identity-whole 16 n hn); size = r.columns.size };
    }

pub searched-least : (m n : ℕ) (g : List ℕ) (placed best out : Orders 8) → length g ≡ m * n → Searched m n g 0 placed best out → LeastOrders m n g out
searched-least m n g placed best out e s = record {
  orders = s.improves.orders;
  gives = is-least m n g (leading_rows m n g out) e (covers-least m n g (row_numbers placed.rows) (leading_rows m n g out) class s.covers);
}
  where
    p : List ℕ
    p = row_numbers out.rows

    q : List ℕ
    q = column_numbers out.columns

    class : OneClass m n g (leading_rows m n g out)
    class = record {
      rows = take m p;
      columns = take n q;
      row-permutation = s.improves.orders.rows.whole.permutation;
      column-permutation = s.improves.orders.columns.whole.permutation;
      gives = leading-is n g (take m p) (take n q) p q m (λ i j im jn. ap₂ (λ (a b : ℕ). cell n g a b) (get_or-take m p i 0 im) (get_or-take n q j 0 jn));
    }

pub outcome-least : (m n : ℕ) (g : List ℕ) (placed best : Orders 8) (jumps : Bool) (f : Found) → length g ≡ m * n → BranchOutcome m n g 0 placed best jumps f → LeastOrders m n g f.best
outcome-least m n g placed best jumps f e o = searched-least m n g placed best f.best e (record { improves = o.improves; covers = o.covers (omega arith) })
