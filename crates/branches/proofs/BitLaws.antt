-- Laws of the numbers that stand for the cells of a grid with two values.
--
--   bit-low, bit_high, bit-most  ==  the number of a value: 0 for the lower, 1 for the higher, at most 1
--   bit-lower, bit-ascends  ==  of two cells, the lower has the lesser number
--   cell-inside         ==  a cell stands within the grid
use mathlib.Core.Path.{◌≡◌, ap}
use mathlib.Core.List.{List}
use Prim.Native.Nat.{ℕ, ◌+◌, ◌*◌, ◌≤◌, ◌<◌}
use native.Mathlib.Decide.{ℕ_discrete}
use native.Mathlib.Omega.{arith}
use lib.ListN.{length, get_or}
use lib.Arith.{digits_lt}
use borrow.Author.Tests.{eq-eqb, ne_eqb}
use Rattle.grids.specs.Order.{rank}
use Rattle.grids.proofs.OrderLaws.{rank-injective}
use Rattle.grids.specs.Values.{TwoValued}
use Rattle.branches.specs.Keys.{bit}

pub bit-low : (low v : ℕ) → v ≡ low → bit low v ≡ 0
unfolding bit
bit-low low v e = rw (eq-eqb v low e, bit)

pub bit_high : (low v : ℕ) → (v ≡ low → ⊥) → bit low v ≡ 1
unfolding bit
bit_high low v ne = rw (ne_eqb v low ne, bit)

pub bit-most : (low v : ℕ) → bit low v ≤ 1
bit-most low v = go (ℕ_discrete v low)
  where
    go : Dec (v ≡ low) → bit low v ≤ 1
    go (yes e) = omega (arith, bit-low low v e)
    go (no ne) = omega (arith, bit_high low v ne)

module _ (g : List ℕ) (low : ℕ) (two : TwoValued g low) where
  pub bit-lower : (i j : ℕ) → i < length g → j < length g → rank (get_or g i 0) < rank (get_or g j 0) → bit low (get_or g i 0) < bit low (get_or g j 0)
  bit-lower i j il jl h = go (ℕ_discrete (get_or g i 0) low)
    where
      upper : get_or g j 0 ≡ low → ⊥
      upper e = let z : rank (get_or g j 0) ≡ rank low = ap rank e in omega (arith, two.lowest i il)

      go : Dec (get_or g i 0 ≡ low) → bit low (get_or g i 0) < bit low (get_or g j 0)
      go (yes e) = omega (arith, bit-low low (get_or g i 0) e, bit_high low (get_or g j 0) upper)
      go (no ne) = let z : rank (get_or g i 0) ≡ rank (get_or g j 0) = ap rank (two.one_more i j il jl ne upper) in absurd (omega arith)

  pub bit-ascends : (i j : ℕ) → i < length g → j < length g → rank (get_or g i 0) ≤ rank (get_or g j 0) → bit low (get_or g i 0) ≤ bit low (get_or g j 0)
  bit-ascends i j il jl h = go (ℕ_discrete (rank (get_or g i 0)) (rank (get_or g j 0)))
    where
      go : Dec (rank (get_or g i 0) ≡ rank (get_or g j 0)) → bit low (get_or g i 0) ≤ bit low (get_or g j 0)
      go (yes e) = omega (arith, ap (bit low) (rank-injective (get_or g i 0) (get_or g j 0) e))
      go (no ne) = omega (arith, bit-lower i j il jl (omega arith))

pub cell-inside : (m n : ℕ) (g : List ℕ) → length g ≡ m * n → (r c : ℕ) → r < m → c < n → r * n + c < length g
cell-inside m n g size r c rm cn = rw size (digits_lt rm cn)
