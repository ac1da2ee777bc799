-- Counting on the machine's bytes: bounds as sent, and what prune leaves of them.
--
--   inside s l low high  ==  how many grids of the set l lie in the bounds
--   counted-bounds  ==  a count of bounds answers 0 and the number of classes whose least grid lies in them
--   counted-sent    ==  an accepted count has that number
--   sent-bounds     ==  slices that prune answers with 0 are bounds
--   same-inside     ==  as many least grids of the set lie in what prune leaves as in the bounds as sent
--   counted-pruned  ==  so a count of what prune leaves has the number of those in the bounds as sent
--   none_inside     ==  where prune says 102 the slices are bounds, and no least grid of the set lies in them
use mathlib.Core.Path.{◌≡◌, refl, sym, ap, ◌∙◌}
use mathlib.Core.List.{List}
use mathlib.Core.Bool.{true, true≢false}
use Prim.Native.Nat.{ℕ, zero, suc}
use lib.ListN.{length}
use Rattle.permutations.specs.Lists.{select}
use Rattle.permutations.proofs.SelectLaws.{select-ext, select-none}
use Rattle.grids.specs.Questions.{first_no}
use Rattle.bounds.specs.Bounds.{IsBounds, in_bounds}
use Rattle.bounds.specs.Prune.{bounds_questions}
use Rattle.bounds.proofs.BoundsLaws.{bounds-pass}
use Rattle.bounds.proofs.AllpermLaws.{least-allperm}
use Rattle.bounds.proofs.PruneLaws.{prune-pass, pruned-some, says_some, says_none, pruned-is-bounds, least-same-bounds, none-in-bounds}
use Rattle.layout.specs.Layout.{Shape, grids_of, grid_size}
use Rattle.calls.specs.Calls.{Outcome, counted, placed, accepted}
use Rattle.machine.specs.Machine.{shown, step_unless, count_classes, outcome}
use Rattle.machine.specs.Demand3.{pruned_for}
use Rattle.calls.proofs.EntryLaws.{Entries, Grids}
use Rattle.machine.proofs.MachineLaws.{Good, self-least, count_same}
use Rattle.machine.proofs.LiveLaws.{bounds-refused}

abbrev pub inside : Shape → Grids → List ℕ → List ℕ → ℕ
inside s l low high = length (select (in_bounds (grid_size s) s.top low high) l)

module _ (s : Shape) (l : Entries) (g : Good s l) (low high : List ℕ) where
  pub counted-bounds : IsBounds (grid_size s) s.top low high → counted (shown s l) low high ≡ placed 0 (inside s (grids_of l) low high) (shown s l)
  unfolding step_unless count_classes outcome
  counted-bounds i = count_same s l g low high ∙ ap (λ (k : ℕ). outcome s (step_unless k l (count_classes s l low high))) ((bounds-pass (grid_size s) s.top low high).1 i)

  pub counted-sent : accepted (counted (shown s l) low high).number ≡ true → (counted (shown s l) low high).place ≡ inside s (grids_of l) low high
  unfolding step_unless count_classes outcome
  counted-sent h = ap (λ (o : Outcome). o.place) same ∙ go k refl (sym (ap (λ (o : Outcome). accepted o.number) same) ∙ h)
    where
      k : ℕ
      k = first_no (bounds_questions (grid_size s) s.top low high)

      same : counted (shown s l) low high ≡ outcome s (step_unless k l (count_classes s l low high))
      same = count_same s l g low high

      go : (j : ℕ) → k ≡ j → accepted (step_unless j l (count_classes s l low high)).number ≡ true → (step_unless j l (count_classes s l low high)).place ≡ inside s (grids_of l) low high
      go zero e a = refl
      go (suc j) e a = absurd (true≢false (sym a ∙ bounds-refused (grid_size s) s.top low high j e))

module _ (s : Shape) (low high : List ℕ) where
  pub sent-bounds : (pruned_for s low high).number ≡ 0 → IsBounds (grid_size s) s.top low high
  sent-bounds z = ((prune-pass s.rows s.columns s.top low high).0 (says_some s.rows s.columns s.top low high z).0).1

  module _ (l : Entries) (g : Good s l) where
    pub same-inside : (pruned_for s low high).number ≡ 0 → inside s (grids_of l) (pruned_for s low high).low (pruned_for s low high).high ≡ inside s (grids_of l) low high
    same-inside z =
        let w = says_some s.rows s.columns s.top low high z in
        rw (pruned-some s.rows s.columns s.top low high w.0 w.1)
        (ap length (select-ext _ _ (grids_of l) (λ r m. least-same-bounds s.rows s.columns s.top low high w.1 r r (self-least s l g r m))))

    pub counted-pruned : (pruned_for s low high).number ≡ 0 →
        counted (shown s l) (pruned_for s low high).low (pruned_for s low high).high ≡ placed 0 (inside s (grids_of l) low high) (shown s l)
    counted-pruned z =
        counted-bounds s l g (pruned_for s low high).low (pruned_for s low high).high (pruned-is-bounds s.rows s.columns s.top low high z)
        ∙ ap (λ (n : ℕ). placed 0 n (shown s l)) (same-inside z)

    pub none_inside : (pruned_for s low high).number ≡ 102 → IsBounds (grid_size s) s.top low high × (inside s (grids_of l) low high ≡ 0)
    none_inside z =
        let w = says_none s.rows s.columns s.top low high z in (
          ((prune-pass s.rows s.columns s.top low high).0 w.0).1,
          ap length (select-none _ (grids_of l) (λ r m t. none-in-bounds s.rows s.columns s.top low high w.1 r (least-allperm s.rows s.columns r r (self-least s l g r m)) t)),
        )
