-- Count, from what the code finds to what the entries are counted by.
--
--   count-ready  ==  where no question gets a no, what counting requires
--   count_small  ==  the count is a small number
use mathlib.Core.Path.{◌≡◌}
use mathlib.Core.List.{List}
use mathlib.Core.Bool.{Bool, true}
use Prim.Native.Nat.{ℕ, ◌*◌, ◌≤◌}
use native.Mathlib.Omega.{arith}
use lib.ListN.{length, length-map}
use Rattle.permutations.specs.Lists.{select}
use Rattle.permutations.proofs.SelectLaws.{length-select}
use Rattle.grids.specs.Questions.{first_no}
use Rattle.bounds.specs.Bounds.{IsBounds}
use Rattle.bounds.specs.Prune.{bounds_questions}
use Rattle.layout.specs.Layout.{Entry, grids_of, decode_shape, decode, laid_out}
use Rattle.lines.specs.declared.head.Head.{Head}
use Rattle.lines.specs.Head.{States}
use Rattle.calls.specs.Valid.{Valid}
use Rattle.calls.proofs.ValidLaws.{valid-count, valid-sizes}
use Rattle.calls.proofs.CountSteps.{count-sized, count-bounds}
use Rattle.register.proofs.AskSteps.{head-valid}

pub count-ready : {b : List ℕ} {h : Head} (laid : laid_out b ≡ true) (st : States b h) (low high : List ℕ) {k : ℕ} → k ≡ first_no (bounds_questions (h.rows * h.columns) h.top low high) → k ≡ 0 →
    Valid (length low) h.count b × IsBounds (length low) (decode_shape b).top low high
count-ready {b} laid st low high found z = (rw (count-sized b low high laid st.shape found z) (head-valid laid st), count-bounds b low high laid st.shape found z)

pub count_small : {size n : ℕ} {b : List ℕ} → Valid size n b → (t : List ℕ → Bool) {r : ℕ} → r ≡ length (select t (grids_of (decode b).entries)) → r ≤ 500
count_small {b = b} k t e = let z = valid-sizes k in omega (arith, e, length-select t (grids_of (decode b).entries), length-map (decode b).entries (λ (x : Entry). x.grid), valid-count k, z.count_fits, z.capacity-fits)
