-- The steps of the code that prunes row 0 with another row.
--
--   LoweredTo c x h h'  ==  the highs h of row 0 have become its lows x before column c, and are as they were from there on
--   lowered_none, lowered-next  ==  at first, and a column further
--   lowered-all, lowered-capped  ==  the highs where the rows do not part, and where they do
--   sorted-within    ==  the values of a sorted row are those of the row
--   row-none, row-pruned  ==  what is said of the two rows, by whether the lows of row 0 lead the highs of the other
--   agree-decided    ==  whether a row comes no later than another, by the column up to which they agree
--   parted-at, above_at  ==  where two rows part, and which of them is above
use mathlib.Core.Path.{◌≡◌, refl, ap, ◌∙◌}
use mathlib.Core.List.{List}
use mathlib.Core.Bool.{Bool, true, false}
use Prim.Native.Nat.{ℕ, ◌+◌, ◌-◌, ◌≤◌, ◌<◌}
use native.Mathlib.Decide.{dec_lt}
use native.Mathlib.Omega.{arith}
use native.Mathlib.Decide.{ℕ_discrete}
use lib.ListN.{length, set, length-set}
use lib.Seq.{get_or-set_same, get_or-set_other}
use Rattle.grids.specs.Order.{rank, lower}
use Rattle.grids.proofs.OrderLaws.{rank-antisymm}
use Rattle.bounds.specs.declared.lows.RowLows.{RowLows}
use Rattle.bounds.specs.Rows.{cell_at, Values, IsSorted, AgreeTo, SaysBelow, NoLater, SaysNoLater, Parted, IsLows, RaisedTo, IsCap, IsHighs, RowOutcome}
use Rattle.bounds.proofs.LeadsLaws.{leads-sorted, agree_same, agree_differ, agree-no-later}
use Rattle.bounds.proofs.ThresholdLaws.{parted-leads}
use Rattle.bounds.proofs.CapLaws.{highs-lowered, lows-raised}

module _ {n : ℕ} {x s : ℕ → ℕ} {from at : ℕ} (g : AgreeTo n x s 0 from at) where
  pub agree-decided : (b : Bool) → SaysBelow b n x s 0 at → SaysNoLater b n x s from
  unfolding NoLater SaysBelow SaysNoLater
  agree-decided true h = agree-no-later g (λ k. let e : at - 0 ≡ at = omega arith in omega (arith, rw e at (h k)))
  agree-decided false h =
      let e : at - 0 ≡ at = omega arith in
      λ k. agree_differ g h.0 (rank-antisymm _ _ (k at g.from_on h.0 (agree_same g)) (rw e at h.1))

pub above_at : {n : ℕ} {x s : ℕ → ℕ} {shift from at : ℕ} → AgreeTo n x s shift from at → SaysBelow false n x s shift at → rank (s (at - shift)) < rank (x at)
unfolding SaysBelow
above_at {n} {x} {s} {shift} {from} {at} g h = go (dec_lt (rank (s (at - shift))) (rank (x at)))
  where
    go : Dec (rank (s (at - shift)) < rank (x at)) → rank (s (at - shift)) < rank (x at)
    go (yes k) = k
    go (no k) = absurd (g.unequal h.0 (rank-antisymm _ _ (omega arith) h.1))

pub parted-at : {n : ℕ} {x s : ℕ → ℕ} {at : ℕ} → AgreeTo n x s 0 0 at → SaysBelow true n x s 0 at → Parted n x s at
unfolding SaysBelow
parted-at {at = at} g h = record { agree = g; before = λ k. let e : at - 0 ≡ at = omega arith in rw e at (h k) }

-- ---- the highs of row 0

pub record LoweredTo (c : ℕ) (x h h' : List ℕ) : Type 0 where
  pub size : length h' ≡ length h
  pub done : (j : ℕ) → j < c → cell_at h' j ≡ cell_at x j
  pub rest : (j : ℕ) → c ≤ j → cell_at h' j ≡ cell_at h j

pub lowered_none : (x h : List ℕ) → LoweredTo 0 x h h
lowered_none x h = record { size = refl; done = λ j b. absurd (omega arith); rest = λ j b. refl }

module _ {c : ℕ} {x h h' : List ℕ} (l : LoweredTo c x h h') where
  pub lowered-next : c < length h → LoweredTo (c + 1) x h (set h' c (cell_at x c))
  lowered-next b = record {
    size = length-set h' c _ ∙ l.size;
    done = λ j k. go j k (ℕ_discrete j c);
    rest = λ j k. get_or-set_other h' c j _ 0 (omega arith) ∙ l.rest j (omega arith);
  }
    where
      go : (j : ℕ) → j < c + 1 → Dec (j ≡ c) → cell_at (set h' c (cell_at x c)) j ≡ cell_at x j
      go j k (yes e) = rw e (get_or-set_same h' c (cell_at x c) 0 (omega (arith, l.size)))
      go j k (no ne) = get_or-set_other h' c j _ 0 ne ∙ l.done j (omega arith)

  module _ {n : ℕ} {s : ℕ → ℕ} (d : Parted n (cell_at x) s c) where
    pub lowered-all : n ≤ c → IsHighs n (cell_at x) s (cell_at h) (cell_at h')
    lowered-all nc = highs-lowered d (cell_at h) (cell_at h') l.done (λ cn. absurd (omega arith)) (λ j cj jn. absurd (omega arith))

    pub lowered-capped : (t : ℕ) → c < length h → IsCap n (cell_at x) s c t → IsHighs n (cell_at x) s (cell_at h) (cell_at (set h' c (lower (cell_at h' c) t)))
    lowered-capped t b k =
        highs-lowered d (cell_at h) (cell_at (set h' c (lower (cell_at h' c) t))) (λ j jc. get_or-set_other h' c j _ 0 (omega arith) ∙ l.done j jc)
        (λ cn. (t, k, get_or-set_same h' c _ 0 (omega (arith, l.size)) ∙ ap (λ (z : ℕ). lower z t) (l.rest c (omega arith))))
        (λ j cj jn. get_or-set_other h' c j _ 0 (omega arith) ∙ l.rest j (omega arith))

-- ---- the lows of the other row, and both rows

pub sorted-within : {n : ℕ} {y s : ℕ → ℕ} (top : ℕ) → IsSorted n y s → Values n top y → Values n top s
sorted-within top o yv t tn = rw (o.values t tn) (yv _ (o.permutation.within t tn))

module _ {n : ℕ} {y s : ℕ → ℕ} (o : IsSorted n y s) (x : ℕ → ℕ) where
  pub row-none : (l h h' l' : ℕ → ℕ) → SaysNoLater false n x s 0 → RowOutcome false n x l y h h' l'
  unfolding RowOutcome SaysNoLater
  row-none l h h' l' b k = b ((leads-sorted x o).0 k)

  pub row-pruned : {at : ℕ} (p : Parted n x s at) (z : RowLows) (l h h' l' : ℕ → ℕ) → IsLows n x s z → RaisedTo n z l y l' → IsHighs n x s h h' → RowOutcome true n x l y h h' l'
  unfolding RowOutcome IsHighs
  row-pruned p z l h h' l' lows raised highs top xv lv yv hv ordered = record {
    leads = parted-leads p o;
    raised = lows-raised z lows top y l l' raised xv (sorted-within top o yv) lv o;
    lowered = highs top y xv (sorted-within top o yv) hv ordered o;
  }
