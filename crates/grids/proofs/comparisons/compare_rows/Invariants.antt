-- The loop's invariant: what is left of the two rows from `j` on decides.
use lib.ListN.{get_or}
use Rattle.grids.specs.Grids.{cell, permuted_row}
use Rattle.grids.proofs.ComparisonSteps.{LeftFrom}
use Rattle.grids.proofs.comparisons.compare_rows.Given as goal

abbrev pub invariant-loop-j : goal.invariant-loop-j
invariant-loop-j l =
    LeftFrom l.j l.n (λ t. cell l.n l.grid l.a.0 (get_or l.p.at t 0)) l.n (λ t. cell l.n l.grid l.b.0 (get_or l.q.at t 0))
    (permuted_row l.n l.grid l.a.0 l.p.at) (permuted_row l.n l.grid l.b.0 l.q.at)
