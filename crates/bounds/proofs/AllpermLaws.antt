-- Laws of allperm.
--
--   allperm-decides   ==  the test decides it
--   allperm-directed  ==  it survives when row 0 falls and the other rows rise
--   allperm-one-row   ==  a grid of one row has it
--   least-allperm     ==  the least grid of a class has it
use mathlib.Core.Path.{◌≡◌, refl, ◌∙◌}
use mathlib.Core.List.{List, Memᴰ}
use mathlib.Core.Bool.{true}
use mathlib.Core.Logic.{◌↔◌}
use Prim.Native.Nat.{ℕ, ◌+◌, ◌-◌, ◌*◌, ◌≤◌, ◌<◌}
use native.Mathlib.Nat.{zero-mul}
use native.Mathlib.Omega.{arith}
use lib.ListN.{length, get_or}
use lib.Arith.{digits_lt}
use lib.Dec.{ltb}
use borrow.Author.Tests.{lt-ltb, le-ltb}
use Rattle.permutations.specs.Lists.{tabulate}
use Rattle.permutations.specs.Permutations.{permutations}
use Rattle.permutations.proofs.ListLaws.{in-tabulate, of-tabulate, tabulate-ext, tabulate-get_or, every-at, at_every}
use Rattle.permutations.proofs.PermutationTest.{permutation-listed, listed-permutation}
use Rattle.permutations.proofs.Transpositions.{exchange-first, transposition, transposition-permutation, at-transposition}
use Rattle.grids.specs.Order.{rank, ◌≼◌}
use Rattle.grids.specs.Grids.{cell, row, permuted_row, arrangement, OneClass}
use Rattle.grids.specs.Least.{IsLeast}
use Rattle.grids.proofs.OrderLaws.{leq-yes, ≼-leq, ≼-prefix}
use Rattle.grids.proofs.GridLaws.{row_zero, rows-size, beneath, length-arrangement, cell-arrangement, class-trans, class-length}
use Rattle.bounds.specs.Allperm.{Allperm, allperm}
use Rattle.bounds.specs.Rows.{Leads}
use Rattle.bounds.proofs.Extremal.{Directed}
use Rattle.bounds.proofs.LeadsLaws.{leads-toward}

pub allperm-decides : (m n : ℕ) (g : List ℕ) → (allperm m n g ≡ true) ↔ Allperm m n g
unfolding allperm Allperm
allperm-decides m n g = (to, back)
  where
    others : List ℕ
    others = tabulate 1 (m - 1) (λ i. i)

    to : allperm m n g ≡ true → Allperm m n g
    to e i i0 im q o =
        let p : 1 + (i - 1) ≡ i = omega arith in
        let k : Memᴰ i others = rw p at (in-tabulate 1 (m - 1) (λ i. i) (i - 1) (omega arith)) in
        leq-yes (row n g 0) (permuted_row n g i q) (every-at _ (permutations n) (every-at _ others e i k) q (permutation-listed n q o))

    back : Allperm m n g → allperm m n g ≡ true
    back h =
        at_every _ others λ i k. at_every _ (permutations n) λ q l.
        let r = of-tabulate 1 (m - 1) (λ i. i) i k in
        ≼-leq (row n g 0) (permuted_row n g i q) (h i (omega (arith, r.2)) (omega (arith, r.1, r.2)) q (listed-permutation n q l))

pub allperm-directed : (m n : ℕ) → Directed (λ k. ltb k n) (m * n) (Allperm m n)
unfolding Allperm row permuted_row Leads
allperm-directed m n g e lg le t h i i0 im =
    leads-toward n (λ j. cell n g 0 j) (λ j. cell n e 0 j) (λ j. cell n g i j) (λ j. cell n e i j) (λ j b. first (0 * n + j) (omega (arith, zero-mul n)))
    (λ j b. other (i * n + j) (beneath n i j i0) (digits_lt im b)) (h i i0 im)
  where
    first : (k : ℕ) → k < n → rank (get_or e k 0) ≤ rank (get_or g k 0)
    first k b = rw (lt-ltb k n b) at (t k (omega (arith, rows-size m n (omega arith))))

    other : (k : ℕ) → n ≤ k → k < m * n → rank (get_or g k 0) ≤ rank (get_or e k 0)
    other k b c = rw (le-ltb k n b) at (t k c)

pub allperm-one-row : (n : ℕ) (g : List ℕ) → Allperm 1 n g
unfolding Allperm
allperm-one-row n g i i0 i1 q o = absurd (omega arith)

-- ---- least grids

first-row-≼ : (m n : ℕ) (a b : List ℕ) → 0 < m → length a ≡ m * n → length b ≡ m * n → a ≼ b → row n a 0 ≼ row n b 0
first-row-≼ m n a b m0 la lb h =
    rw (row_zero n a, row_zero n b)
    (≼-prefix (m * n) n (λ k. get_or a k 0) (λ k. get_or b k 0) (rows-size m n m0) (rw (tabulate-get_or 0 a (m * n) la, tabulate-get_or 0 b (m * n) lb) h))

-- rows 0 and i exchanged, the columns in the order q
exchanged-row : (m n : ℕ) (r : List ℕ) (i : ℕ) (q : List ℕ) → i < m → row n (arrangement m n (transposition m 0 i) q r) 0 ≡ permuted_row n r i q
unfolding row permuted_row
exchanged-row m n r i q im =
    tabulate-ext 0 n _ _ λ j b.
    cell-arrangement m n (transposition m 0 i) q r 0 j (omega arith) b ∙ rw (at-transposition m 0 i 0 (omega arith), exchange-first 0 i)

pub least-allperm : (m n : ℕ) (g r : List ℕ) → IsLeast m n g r → Allperm m n r
unfolding Allperm
least-allperm m n g r l i i0 im q o =
    let p = transposition m 0 i in
    let a = arrangement m n p q r in
    let c : OneClass m n r a = record {
      rows = p;
      columns = q;
      row-permutation = transposition-permutation m 0 i (omega arith) im;
      column-permutation = o;
      gives = refl;
    } in
    rw (← (exchanged-row m n r i q im))
    (first-row-≼ m n r a (omega arith) (class-length m n g r l.arranged) (length-arrangement m n p q r) (l.no-later a (class-trans m n g r a l.arranged c)))
