-- Count as the code takes it: question 5, questions 6 to 8, then the entries in the bounds.
--
--   count-unlaid  ==  question 5 gets a no
--   count_no      ==  one of questions 6 to 8 does
--   count-sized, count-bounds  ==  where none does, the slices are bounds of the register's grids
--   count-made    ==  and the entries in them are counted
use mathlib.Core.Path.{◌≡◌, refl, sym, ap, ◌∙◌}
use mathlib.Core.List.{List}
use mathlib.Core.Bool.{true, false}
use Prim.Native.Nat.{ℕ, zero, suc}
use lib.ListN.{length}
use Rattle.permutations.specs.Lists.{select}
use Rattle.grids.specs.Questions.{first_no}
use Rattle.grids.proofs.QuestionLaws.{first_no-pass, first_no-stop}
use Rattle.bounds.specs.Bounds.{IsBounds, in_bounds}
use Rattle.bounds.specs.Prune.{bounds_questions}
use Rattle.bounds.proofs.BoundsLaws.{bounds-pass}
use Rattle.layout.specs.Layout.{Shape, grids_of, grid_size, decode_shape, decode, laid_out}
use Rattle.calls.specs.Calls.{answered, question5, count_questions, entries_in, count_register, counted, placed}
use Rattle.calls.proofs.RefusalLaws.{counted-refused}

pub count-unlaid : (b low high : List ℕ) → laid_out b ≡ false → placed 5 0 b ≡ counted b low high
unfolding count_questions question5
count-unlaid b low high e = sym (counted-refused b low high 4 (first_no-stop (question5 b) _ e))

module _ (b low high : List ℕ) (laid : laid_out b ≡ true) {s : Shape} (e : s ≡ decode_shape b) {k : ℕ} (found : k ≡ first_no (bounds_questions (grid_size s) s.top low high)) where
  asked : first_no (count_questions b (decode b) low high) ≡ k
  unfolding count_questions question5 decode
  asked = first_no-pass (question5 b) _ laid ∙ sym (rw e at found)

  pub count_no : (k ≡ 0 → ⊥) → placed k 0 b ≡ counted b low high
  count_no n = go k refl
    where
      go : (j : ℕ) → k ≡ j → placed k 0 b ≡ counted b low high
      go zero z = absurd (n z)
      go (suc j) z = ap (λ (x : ℕ). placed x 0 b) z ∙ sym (counted-refused b low high j (asked ∙ z))

  module _ (z : k ≡ 0) where
    bounds : IsBounds (grid_size s) s.top low high
    bounds = (bounds-pass (grid_size s) s.top low high).0 (sym found ∙ z)

    pub count-sized : length low ≡ grid_size s
    count-sized = bounds.low-size

    pub count-bounds : IsBounds (length low) (decode_shape b).top low high
    count-bounds = rw (bounds.low-size, ap (λ (t : Shape). t.top) (sym e)) bounds

    pub count-made : {r : ℕ} → r ≡ length (select (in_bounds (length low) (decode_shape b).top low high) (grids_of (decode b).entries)) → placed 0 r b ≡ counted b low high
    unfolding counted count_register entries_in answered decode
    count-made q = ap (λ (n : ℕ). placed 0 n b) (rw (bounds.low-size ∙ ap grid_size e) at q) ∙ sym (rw (asked ∙ z) refl)
