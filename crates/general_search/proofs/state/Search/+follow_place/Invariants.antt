-- From one `place` to the next one inside it the number of rows that are not placed falls: the measure is twice that number, and
-- one more in `place`. The loop's invariant: what is found improves the best, covers the branches of the rows before position t,
-- does not go back to before position k; the bound's best is the candidate at t where it was made so.
use mathlib.Core.Path.{◌≡◌}
use mathlib.Core.Bool.{true}
use Prim.Native.Nat.{◌≤◌, ◌+◌, ◌*◌, ◌-◌}
use Rattle.general_search.specs.Search.{back_to, IsCandidate, FollowedTo}
use Rattle.general_search.proofs.state.Search.+follow_place.Given as goal

abbrev pub decreases-follow : goal.decreases-follow
decreases-follow l = 2 * (l.self.now.m - l.branch.now.k)

abbrev pub decreases-place : goal.decreases-place
decreases-place l = 2 * (l.self.now.m - l.branch.now.k) + 1

abbrev pub invariant-place-loop-t : goal.invariant-place-loop-t
invariant-place-loop-t l =
    FollowedTo l.self l.branch l.t l.initial.found.best l.found.best
    × (l.branch.k ≤ back_to l.self.m l.found)
    × (l.made ≡ true → IsCandidate l.self l.branch l.t l.lowest)
