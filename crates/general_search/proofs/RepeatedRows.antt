-- Rows that repeat one before them.
--
--   row-cells      ==  equal rows, cell by cell
--   rows-equal, rows-differ  ==  rows that have the same cells are equal, and rows that differ in a column are not
--   NoneUpTo n g p k t s   ==  no row from position k up to s equals the one at t
--   none-next      ==  one position further
use mathlib.Core.Path.{◌≡◌, refl, sym, ap, ◌∙◌}
use mathlib.Core.List.{List}
use mathlib.Core.Bool.{Bool, true, false, true≢false}
use mathlib.Core.Logic.{◌↔◌}
use Prim.Native.Nat.{ℕ, ◌+◌, ◌≤◌, ◌<◌}
use native.Mathlib.Decide.{ℕ_discrete}
use native.Mathlib.Omega.{arith}
use lib.ListN.{get_or}
use Rattle.std.specs.Prelude.{IsTrue}
use Rattle.permutations.proofs.ListLaws.{at-tabulate, tabulate-ext}
use Rattle.grids.specs.Grids.{cell, row}

pub row-cells : (n : ℕ) (g : List ℕ) (a b : ℕ) → row n g a ≡ row n g b → (j : ℕ) → j < n → cell n g b j ≡ cell n g a j
unfolding row
row-cells n g a b e j jn =
    sym (at-tabulate n (λ c. cell n g b c) j 0 jn) ∙ ap (λ (l : List ℕ). get_or l j 0) (sym e) ∙ at-tabulate n (λ c. cell n g a c) j 0 jn

pub rows-equal : (n : ℕ) (g : List ℕ) (a b : ℕ) → ((j : ℕ) → j < n → cell n g a j ≡ cell n g b j) → IsTrue true ↔ row n g a ≡ row n g b
unfolding row
rows-equal n g a b h = (λ y. tabulate-ext 0 n _ _ h, λ e. refl)

pub rows-differ : (n : ℕ) (g : List ℕ) (a b j : ℕ) → j < n → (cell n g a j ≡ cell n g b j → ⊥) → IsTrue false ↔ row n g a ≡ row n g b
rows-differ n g a b j jn ne = (λ y. absurd (true≢false (sym y)), λ e. absurd (ne (sym (row-cells n g a b e j jn))))

-- no row from position k up to s equals the one at t
abbrev pub NoneUpTo : ℕ → List ℕ → List ℕ → ℕ → ℕ → ℕ → Type 0
NoneUpTo n g p k t s = (r : ℕ) → k ≤ r → r < s → row n g (get_or p r 0) ≡ row n g (get_or p t 0) → ⊥

pub none-next : (n : ℕ) (g p : List ℕ) (k t s : ℕ) (b : Bool) → IsTrue b ↔ row n g (get_or p s 0) ≡ row n g (get_or p t 0) → b ≡ false → NoneUpTo n g p k t s →
    NoneUpTo n g p k t (s + 1)
none-next n g p k t s b told not h r a l e = go (ℕ_discrete r s)
  where
    go : Dec (r ≡ s) → ⊥
    go (yes w) = true≢false (sym (told.1 (rw w at e)) ∙ not)
    go (no w) = h r a (omega arith) e
