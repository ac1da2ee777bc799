-- The loop that lowers the bound over all candidates.
--
--   Lowest m n g k t placed breaks best out from above made  ==  past the candidates before position t: out improves the best, comes after none of them by
--                     one row more, and covers those before `from` and those marked in `above`; where it was made so, it is the candidate at `from`
--   Branch m n g k placed s out   ==  out covers the branch with the row at position s placed next
--   NoLater n g k placed s out    ==  by one row more, out comes no later than that branch
--   strictly-covers ==  what comes before all of a branch, by one row more, covers it
--   none-marked     ==  marks of which none is set
--   lowest-none     ==  at first
--   lowest-less, lowest-greater, lowest-equal  ==  past a candidate that is less, greater, or neither
--   lowest-bound    ==  at the end: the bound
--   bound-none      ==  a bound of which nothing is known
--   bound-placed    ==  with a bound's best as the best, the search stands so and the bound holds
use mathlib.Core.Path.{◌≡◌, sym, ap, ◌∙◌}
use mathlib.Core.List.{List}
use mathlib.Core.Bool.{Bool, true, false, true≢false}
use Prim.Native.Nat.{ℕ, suc, ◌+◌, ◌≤◌, ◌<◌}
use native.Mathlib.Decide.{ℕ_discrete, dec_lt}
use native.Mathlib.Omega.{arith}
use lib.ListN.{length, get_or, set, replicate, length-set, length-replicate, get_or-replicate, get_or-eq_default}
use lib.Seq.{get_or-set_other}
use Rattle.permutations.specs.Permutations.{IsPermutation, swapped}
use Rattle.permutations.specs.Rows.{row_numbers}
use Rattle.permutations.specs.Columns.{column_numbers}
use Rattle.grids.specs.Order.{◌≼◌, ◌≺◌}
use Rattle.grids.specs.Grids.{cell, arrangement}
use Rattle.grids.proofs.OrderLaws.{≼_refl, ≼_trans, ≼-antisymm, ≺-≼}
use Rattle.permutations.specs.declared.orders.Orders.{Orders}
use Rattle.general_search.specs.declared.state.Bound.{Bound}
use Rattle.branches.specs.Branches.{Begins, Covers}
use Rattle.general_search.specs.Search.{leading_rows, row_at, IsOrders, Searching, Candidate, Improves, Bounded}
use Rattle.branches.proofs.LeadingRows.{leading-is, leading-row, leading-decides, best-whole}
use Rattle.branches.proofs.BranchLaws.{covers-lower}
use Rattle.general_search.proofs.SearchLaws.{improves-refl, improves-trans, searching-better, candidate-lower, bound-below, bound-above}

abbrev pub Branch : ℕ → ℕ → List ℕ → ℕ → Orders 8 → ℕ → Orders 8 → Type 0
Branch m n g k placed s out = Covers m n g (suc k) (swapped (row_numbers placed.rows) k s) (leading_rows m n g out)

abbrev pub NoLater : ℕ → List ℕ → ℕ → Orders 8 → ℕ → Orders 8 → Type 0
NoLater n g k placed s out =
    (q : List ℕ) → IsPermutation n q → leading_rows (suc k) n g out ≼ arrangement (suc k) n (swapped (row_numbers placed.rows) k s) q g

pub record Lowest (m n : ℕ) (g : List ℕ) (k t : ℕ) (placed : Orders 8) (breaks : List Bool) (best out : Orders 8) (from : ℕ) (above : List Bool) (made : Bool) : Type 0 where
  pub improves : Improves m n g k best out
  pub first : k ≤ from
  pub last : from ≤ t
  pub size : length above ≡ 8
  pub before : (s : ℕ) → k ≤ s → s < from → Branch m n g k placed s out
  pub lowest : (s : ℕ) → from ≤ s → s < t → NoLater n g k placed s out
  pub fresh : (s : ℕ) → t ≤ s → get_or above s false ≡ false
  pub marked : (s : ℕ) → from ≤ s → s < t → (get_or above s false ≡ true) → Branch m n g k placed s out
  pub candidate : made ≡ true → Candidate m n g k from placed breaks out

pub strictly-covers : (m n : ℕ) (g : List ℕ) (k : ℕ) (placed : Orders 8) (s : ℕ) (out : Orders 8) → k < m → NoLater n g k placed s out →
    ((q : List ℕ) → IsPermutation n q → leading_rows (suc k) n g out ≡ arrangement (suc k) n (swapped (row_numbers placed.rows) k s) q g → ⊥) → Branch m n g k placed s out
unfolding Covers Begins
strictly-covers m n g k placed s out km h ne p op begins q oq =
    leading-decides n g (row_numbers out.rows) (column_numbers out.columns) p q m (suc k) km (rw rows (h q oq)) (λ e. ne q oq (e ∙ rows))
  where
    rows : arrangement (suc k) n p q g ≡ arrangement (suc k) n (swapped (row_numbers placed.rows) k s) q g
    rows = leading-is n g p q (swapped (row_numbers placed.rows) k s) q (suc k) (λ i j ik jn. ap (λ (x : ℕ). cell n g x (get_or q j 0)) (begins i ik))

abbrev pub none : List Bool
none = replicate 8 false

pub none-marked : (s : ℕ) → get_or none s false ≡ false
none-marked s = go (dec_lt s 8)
  where
    go : Dec (s < 8) → get_or none s false ≡ false
    go (yes h) = get_or-replicate 8 s false false h
    go (no h) = get_or-eq_default none false (let e : length none ≡ 8 = length-replicate 8 false in omega arith)

pub lowest-none : (m n : ℕ) (g : List ℕ) (k : ℕ) (placed : Orders 8) (breaks : List Bool) (best : Orders 8) (above : List Bool) → IsOrders m n best → length above ≡ 8 → ((s : ℕ) → get_or above s false ≡ false) →
    Lowest m n g k k placed breaks best best k above false
lowest-none m n g k placed breaks best above o e z = record {
  improves = improves-refl m n g k best o;
  first = omega arith;
  last = omega arith;
  size = e;
  before = λ s a b. absurd (omega arith);
  lowest = λ s a b. absurd (omega arith);
  fresh = λ s a. z s;
  marked = λ s a b. absurd (omega arith);
  candidate = λ y. absurd (true≢false (sym y));
}

pub bound-none : (m n : ℕ) (g : List ℕ) (k : ℕ) (placed : Orders 8) (breaks : List Bool) (best : Orders 8) (b : Bound) →
    (b.best ≡ best) × (b.from ≡ k) × (b.above ≡ none) × (b.made ≡ false) → IsOrders m n best → Bounded m n g k placed breaks best b
bound-none m n g k placed breaks best b u o = record {
  improves = rw u.0 (improves-refl m n g k best o);
  first = omega (arith, u.1);
  before = λ s a c. absurd (omega (arith, u.1));
  above = λ s a c y. absurd (true≢false (sym y ∙ rw u.2 (none-marked s)));
  candidate = λ y. absurd (true≢false (sym y ∙ u.3));
}

pub bound-placed : (m n : ℕ) (g : List ℕ) (k : ℕ) (placed : Orders 8) (breaks : List Bool) (best : Orders 8) (b : Bound) → Searching m n g k placed breaks best → Bounded m n g k placed breaks best b →
    Searching m n g k placed breaks b.best × Bounded m n g k placed breaks b.best b
bound-placed m n g k placed breaks best b s h = (
  searching-better m n g k placed breaks best b.best s h.improves,
  record { improves = improves-refl m n g k b.best h.improves.orders; first = h.first; before = h.before; above = h.above; candidate = h.candidate },
)

pub lowest-bound : (m n : ℕ) (g : List ℕ) (k t : ℕ) (placed : Orders 8) (breaks : List Bool) (best : Orders 8) (b : Bound) → m ≤ t →
    Lowest m n g k t placed breaks best b.best b.from b.above b.made → Bounded m n g k placed breaks best b
lowest-bound m n g k t placed breaks best b mt l = record {
  improves = l.improves;
  first = l.first;
  before = l.before;
  above = λ s a c. l.marked s a (omega arith);
  candidate = l.candidate;
}

-- the candidate at position t is `next`
module _ (m n : ℕ) (g : List ℕ) (k t : ℕ) (placed : Orders 8) (breaks : List Bool) (best out next : Orders 8) (from : ℕ) (above : List Bool) (made : Bool)
    (s : Searching m n g k placed breaks out) (c : Candidate m n g k t placed breaks next) (l : Lowest m n g k t placed breaks best out from above made) (km : k < m) where
  -- no column order does better with the candidate's rows
  least : NoLater n g k placed t next
  least q o = rw (← c.rows) (best-whole (suc k) n g (row_numbers next.rows) (column_numbers next.columns) c.orders.columns.whole c.ascending q o)

  pub lowest-less : row_at n g k next ≺ row_at n g k out → Lowest m n g k (t + 1) placed breaks best next t above true
  lowest-less h = record {
    improves = improves-trans m n g k best out next l.improves i;
    first = omega (arith, l.first, l.last);
    last = omega arith;
    size = l.size;
    before = λ r a b. earlier r a b (dec_lt r from);
    lowest = λ r a b. let e : r ≡ t = omega arith in rw e least;
    fresh = λ r a. l.fresh r (omega arith);
    marked = λ r a b nz. absurd (true≢false (sym nz ∙ l.fresh r a));
    candidate = λ y. c;
  }
    where
      i : Improves m n g k out next
      i = candidate-lower m n g k t placed breaks out next s c km h

      lower : leading_rows (suc k) n g next ≼ leading_rows (suc k) n g out
      lower = bound-above m n g k t placed breaks out next s c (≺-≼ (row_at n g k next) (row_at n g k out) h)

      -- out does not come before the candidate
      strict : leading_rows (suc k) n g out ≼ leading_rows (suc k) n g next → ⊥
      strict z =
          h (rw (leading-row n g (row_numbers next.rows) (column_numbers next.columns) (row_numbers out.rows) (column_numbers out.columns) k
          (≼-antisymm (leading_rows (suc k) n g next) (leading_rows (suc k) n g out) lower z)) (≼_refl (row_at n g k out)))

      earlier : (r : ℕ) → k ≤ r → r < t → Dec (r < from) → Branch m n g k placed r next
      earlier r a b (yes f) =
          covers-lower m n g (suc k) (swapped (row_numbers placed.rows) k r) (leading_rows m n g out) (leading_rows m n g next) i.lower (l.before r a f)
      earlier r a b (no f) =
          let old = l.lowest r (omega arith) b in
          strictly-covers m n g k placed r next km (λ q o. ≼_trans (leading_rows (suc k) n g next) (leading_rows (suc k) n g out) _ lower (old q o))
          (λ q o e. strict (rw e (old q o)))

  -- out stays, and comes no later than the candidate
  stays : (above' : List Bool) → length above' ≡ 8 → ((r : ℕ) → t + 1 ≤ r → get_or above' r false ≡ false) →
      ((r : ℕ) → from ≤ r → r < t + 1 → (get_or above' r false ≡ true) → Branch m n g k placed r out) → row_at n g k out ≼ row_at n g k next → Lowest m n g k (t + 1) placed breaks best out from above' made
  stays above' e z marked h = record {
    improves = l.improves;
    first = l.first;
    last = omega (arith, l.last);
    size = e;
    before = l.before;
    lowest = λ r a b. go r a b (ℕ_discrete r t);
    fresh = z;
    marked = marked;
    candidate = l.candidate;
  }
    where
      go : (r : ℕ) → from ≤ r → r < t + 1 → Dec (r ≡ t) → NoLater n g k placed r out
      go r a b (yes f) = rw f (λ q o. ≼_trans (leading_rows (suc k) n g out) (leading_rows (suc k) n g next) _ (bound-below m n g k t placed breaks out next s c h) (least q o))
      go r a b (no f) = l.lowest r a (omega arith)

  pub lowest-equal : row_at n g k next ≡ row_at n g k out → Lowest m n g k (t + 1) placed breaks best out from above made
  lowest-equal e =
      stays above l.size (λ r a. l.fresh r (omega arith)) (λ r a b nz. go r a b nz (ℕ_discrete r t)) (rw e (≼_refl (row_at n g k out)))
    where
      go : (r : ℕ) → from ≤ r → r < t + 1 → (get_or above r false ≡ true) → Dec (r ≡ t) → Branch m n g k placed r out
      go r a b nz (yes f) = absurd (true≢false (sym nz ∙ l.fresh r (omega arith)))
      go r a b nz (no f) = l.marked r a (omega arith) nz

  pub lowest-greater : t < 8 → row_at n g k out ≺ row_at n g k next → Lowest m n g k (t + 1) placed breaks best out from (set above t true) made
  lowest-greater t8 h =
      stays (set above t true) (length-set above t true ∙ l.size) (λ r a. let ne : r ≡ t → ⊥ = omega arith in get_or-set_other above t r true false ne ∙ l.fresh r (omega arith))
      (λ r a b nz. go r a b nz (ℕ_discrete r t)) (≺-≼ (row_at n g k out) (row_at n g k next) h)
    where
      lower : leading_rows (suc k) n g out ≼ leading_rows (suc k) n g next
      lower = bound-below m n g k t placed breaks out next s c (≺-≼ (row_at n g k out) (row_at n g k next) h)

      strict : leading_rows (suc k) n g next ≼ leading_rows (suc k) n g out → ⊥
      strict z =
          h (rw (leading-row n g (row_numbers next.rows) (column_numbers next.columns) (row_numbers out.rows) (column_numbers out.columns) k
          (≼-antisymm (leading_rows (suc k) n g next) (leading_rows (suc k) n g out) z lower)) (≼_refl (row_at n g k out)))

      go : (r : ℕ) → from ≤ r → r < t + 1 → (get_or (set above t true) r false ≡ true) → Dec (r ≡ t) → Branch m n g k placed r out
      go r a b nz (yes f) =
          rw f (strictly-covers m n g k placed t out km (λ q o. ≼_trans (leading_rows (suc k) n g out) (leading_rows (suc k) n g next) _ lower (least q o))
          (λ q o e. strict (rw e (least q o))))
      go r a b nz (no f) = l.marked r a (omega arith) (rw (get_or-set_other above t r true false f) at nz)
