-- What the search finds where all rows are placed, and how it begins and ends.
--
--   reached-new   ==  a new best: the row order at hand
--   reached-copy  ==  an arrangement that equals the best: where the two row orders part, and the symmetries known
use mathlib.Core.Path.{◌≡◌, sym, ap, ◌∙◌}
use mathlib.Core.List.{List}
use mathlib.Core.Bool.{Bool, true, false, true≢false}
use mathlib.Core.Logic.{inl, inr}
use Prim.Native.Nat.{ℕ, ◌<◌}
use native.Mathlib.Omega.{arith}
use lib.ListN.{get_or, take}
use lib.Seq.{get_or-take}
use Rattle.permutations.specs.Rows.{RowPermutation}
use Rattle.permutations.specs.Rows.{row_numbers}
use Rattle.grids.proofs.OrderLaws.{≼_refl}
use Rattle.branches.specs.Branches.{Begins}
use Rattle.two_values.specs.declared.search.Found.{Found}
use Rattle.two_values.specs.TwoValues.{sorted_rows}
use Rattle.permutations.specs.Numbered.{InCommon}
use Rattle.two_values.specs.Search.{Symmetries, Follows, Standing, Alike, Outcome}
use Rattle.two_values.proofs.SortedRows.{sorted-agree, sorted-placed}

module _ (m n : ℕ) (g : List ℕ) (low : ℕ) (x y : List ℕ) (P : RowPermutation) (a : List ℕ) (fresh : Bool) (before : Found) (s : Standing m n g low x y m P a fresh before) where
  pub reached-new : fresh ≡ true → (f : Found) → f.best ≡ P → f.after ≡ a → f.keys ≡ before.keys → f.back ≡ m → f.kept ≡ before.kept →
      Outcome m n g low m (row_numbers P) fresh before f
  unfolding Begins
  reached-new z f b c k l w = record {
    known = record { rows = rw b s.rows; keys = λ i im. rw (k, b) (s.keys i im); places = rw (b, c) s.places };
    keys-size = rw k s.keys-size;
    leading = ap (λ (o : RowPermutation). sorted_rows m n g (row_numbers o)) b;
    lower = λ e. absurd (true≢false (sym z ∙ e));
    from = inr (λ i im. ap (λ (o : RowPermutation). get_or (row_numbers o) i 0) b);
    covers = λ e. sorted-placed m n g (row_numbers P) (row_numbers f.best) (ap (λ (o : RowPermutation). sorted_rows m n g (row_numbers o)) b);
    alike = λ e. absurd (omega arith);
    symmetries = rw w s.symmetries;
  }

  pub reached-copy : fresh ≡ false → (f : Found) → f.best ≡ before.best → f.after ≡ before.after → f.keys ≡ before.keys → InCommon (row_numbers P) (row_numbers before.best) m f.back →
      Symmetries m n g f.kept.maps f.kept.count → Outcome m n g low m (row_numbers P) fresh before f
  unfolding Begins
  reached-copy z f b c k common symmetries = record {
    known = record { rows = rw b h.known.rows; keys = λ i im. rw (k, b) (h.known.keys i im); places = rw (b, c) h.known.places };
    keys-size = rw k s.keys-size;
    leading = rw b h.leading;
    lower = λ e. rw b (≼_refl (sorted_rows m n g (row_numbers before.best)));
    from = inl (z, ap row_numbers b);
    covers = λ e. sorted-placed m n g (row_numbers P) (row_numbers f.best) (rw b h.leading);
    alike = λ e. rw b (alike e);
    symmetries = symmetries;
  }
    where
      h : Follows m n g low m (row_numbers P) before
      h = s.follows z

      first : (i : ℕ) → i < m → get_or (take m (row_numbers P)) i 0 ≡ get_or (row_numbers P) i 0
      first i im = get_or-take m (row_numbers P) i 0 im

      alike : f.back < m → Alike m n g m (row_numbers P) (row_numbers before.best) f.back
      alike l = record {
        rows = take m (row_numbers P);
        row-permutation = s.rows.whole.permutation;
        begins = first;
        gives = sorted-agree m n g (take m (row_numbers P)) (row_numbers P) first ∙ sym h.leading;
        agrees = λ i ib. first i (omega arith) ∙ common.same i ib;
        parts = λ e. common.parts l (sym (first f.back l) ∙ e);
      }
