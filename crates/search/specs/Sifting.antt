-- Rows sifted in the bytes of words. Between functions: no answer of a call is defined here.
--
--   IsLevels w       ==  w is a word of eight bytes, each at most 15
--   at_most_one v x    ==  1 where x is at most v, else 0
--   tally v w l i s k  ==  how many of the k columns from place s of the list l on have a level of at most v in row i
--   LeadsTo s w i c rest r  ==  if rest has the rows that lead up to place s, r has those that lead for i places more of the sorted block
use Rattle.std.specs.Prelude.{ℕ, zero, suc, ◌+◌, ◌^◌, ◌<◌, ◌≤◌, true, false, ◌↔◌, List, nat_le}
use Rattle.branches.specs.Sifting.{SortedBlock, Leads}
use Rattle.search.specs.RowSets.{lane, HasRow}
use Rattle.search.specs.ColumnLists.{levels_of}

pub record IsLevels (w : ℕ) : Type 0 where
  pub bytes : w < 2 ^ 64
  pub small : (r : ℕ) → r < 8 → lane r w ≤ 15

unfoldable pub at_most_one : ℕ → ℕ → ℕ
at_most_one v x = elim (nat_le x v) [ true ↦ 1 | false ↦ 0 ]

unfoldable pub tally : ℕ → List ℕ → ℕ → ℕ → ℕ → ℕ → ℕ
tally v w l i s zero = 0
tally v w l i s (suc k) = tally v w l i s k + at_most_one v (levels_of w l s i k)

unfoldable pub LeadsTo : ℕ → ℕ → ℕ → (ℕ → ℕ → ℕ) → ℕ → ℕ → Type 0
LeadsTo s w i c rest r =
    (all : ℕ) (K : ℕ → ℕ → ℕ) → ((x : ℕ) → HasRow all x → SortedBlock s w (c x) (K x)) → ((x : ℕ) → HasRow rest x ↔ Leads s (HasRow all) K x) → (x : ℕ) →
    HasRow r x ↔ Leads (s + i) (HasRow all) K x
