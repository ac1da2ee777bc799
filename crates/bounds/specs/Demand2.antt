-- Demand 2's sentence on prune: if some grid within the bounds has allperm, a value is pruned exactly when no such grid has it;
-- if none does, prune answers 102.
--
--   ExactSome m n top low high r, ExactNone low high r  ==  what the outcome r says of bounds in which some grid has allperm, and in which none has
--   Exact m n top low high r  ==  the one or the other
--   PruneProgram              ==  programs for prune, as functions of the numbers and slices that they are lent
--   PruneExact f              ==  the sentence, of a program: for all bounds within the limits
--   Prunes m n top low high r ==  prune's contract: its outcome r is the one determined, and of bounds within the limits it says the above
--   MeetsPrune f              ==  f meets it, on what it can be lent
use Rattle.std.specs.Prelude.{◌≡◌, List, ◌↔◌, ℕ, ◌*◌, ◌≤◌, ◌<◌, get_or, length}
use Rattle.grids.specs.Order.{rank}
use Rattle.grids.specs.Questions.{Limits}
use Rattle.grids.specs.Lent.{Lent}
use Rattle.bounds.specs.Bounds.{IsBounds}
use Rattle.bounds.specs.Kept.{Obeyed, Kept, removed}
use Rattle.bounds.specs.Allperm.{Allperm, allperm}
use Rattle.bounds.specs.Prune.{Pruned, pruned}

-- some grid has allperm: the number is 0, a value lies in the new bounds of a cell exactly if some such grid has it there, the new bounds are
-- such values themselves, and the count is that of the values removed
pub record ExactSome (m n top : ℕ) (low high : List ℕ) (r : Pruned) : Type 0 where
  pub number_is : r.number ≡ 0
  pub low-size : length r.low ≡ m * n
  pub high-size : length r.high ≡ m * n
  pub exact : (k v : ℕ) → k < m * n → v ≤ top →
      Kept (Allperm m n) (m * n) top low high k v ↔ ((rank (get_or r.low k 0) ≤ rank v) × (rank v ≤ rank (get_or r.high k 0)))
  pub ends : (k : ℕ) → k < m * n → Kept (Allperm m n) (m * n) top low high k (get_or r.low k 0) × Kept (Allperm m n) (m * n) top low high k (get_or r.high k 0)
  pub counts : r.count ≡ removed (allperm m n) (m * n) top low high

-- none has it: 102, count 0, and the bounds as sent
pub record ExactNone (low high : List ℕ) (r : Pruned) : Type 0 where
  pub number_is : r.number ≡ 102
  pub counts : r.count ≡ 0
  pub low-kept : r.low ≡ low
  pub high-kept : r.high ≡ high

pub record Exact (m n top : ℕ) (low high : List ℕ) (r : Pruned) : Type 0 where
  pub some : Obeyed (Allperm m n) (m * n) top low high → ExactSome m n top low high r
  pub none : (Obeyed (Allperm m n) (m * n) top low high → ⊥) → ExactNone low high r

abbrev pub PruneProgram : Type 0
PruneProgram = (m n top : ℕ) → (low high : List ℕ) → Pruned

unfoldable pub PruneExact : PruneProgram → Type 0
PruneExact f = (m n top : ℕ) (low high : List ℕ) → Limits m n top → IsBounds (m * n) top low high → Exact m n top low high (f m n top low high)

pub record Prunes (m n top : ℕ) (low high : List ℕ) (r : Pruned) : Type 0 where
  pub determined : r ≡ pruned m n top low high
  pub exactly : Limits m n top → IsBounds (m * n) top low high → Exact m n top low high r

unfoldable pub MeetsPrune : PruneProgram → Type 0
MeetsPrune f = (m n top : ℕ) (low high : List ℕ) → Lent m n top low high → Prunes m n top low high (f m n top low high)
