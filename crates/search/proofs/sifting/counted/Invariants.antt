-- `counted` meets its contract. The invariant: the bytes hold the counts of the columns before u.
use Rattle.std.proofs.Common.{◌≡◌, ℕ, ◌-◌, ◌*◌, ◌<◌, ◌≤◌}
use Rattle.search.specs.RowSets.{lane}
use Rattle.search.specs.Sifting.{tally}
use Rattle.search.proofs.sifting.counted.Given as goal

abbrev pub invariant-loop-u : goal.invariant-loop-u
invariant-loop-u l =
    (l.count ≤ (l.u - l.s) * 72340172838076673) × ((i : ℕ) → i < 8 → lane i l.count ≡ tally l.v l.tables.words l.columns.0 i l.s (l.u - l.s))
