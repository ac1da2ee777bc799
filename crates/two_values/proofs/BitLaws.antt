-- Laws of the numbers that stand for the cells of a grid with two values.
--
--   bit-low, bit_high, bit-most  ==  the number of a value: 0 for the lower, 1 for the higher, at most 1
--   bit-lower, bit-ascends  ==  of two cells, the lower has the lesser number
--   cell-inside         ==  a cell stands within the grid
--   number-low, number-other  ==  the table by rows has 1 for the lower value and 0 for the higher
--   cells-equal         ==  cells with equal numbers are equal
--   cells-higher        ==  of two cells, the one with the lesser number ranks higher
--   cells-no-higher     ==  a cell ranks no higher than one whose number is no greater
use mathlib.Core.Path.{◌≡◌, sym, ap, ◌∙◌}
use mathlib.Core.List.{List}
use Prim.Native.Nat.{ℕ, ◌+◌, ◌*◌, ◌-◌, ◌≤◌, ◌<◌}
use native.Mathlib.Decide.{ℕ_discrete}
use native.Mathlib.Omega.{arith}
use lib.ListN.{length, get_or}
use lib.Arith.{digits_lt}
use borrow.Author.Tests.{eq-eqb, ne_eqb, lt-ltb}
use Rattle.grids.specs.Order.{rank}
use Rattle.grids.specs.Grids.{cell}
use Rattle.grids.proofs.OrderLaws.{rank-injective}
use Rattle.grids.specs.Values.{TwoValued}
use Rattle.two_values.specs.TwoValues.{bit}
use Rattle.two_values.specs.Tables.{high, ByRows}

pub bit-low : (low v : ℕ) → v ≡ low → bit low v ≡ 0
unfolding bit
bit-low low v e = rw (eq-eqb v low e, bit)

pub bit_high : (low v : ℕ) → (v ≡ low → ⊥) → bit low v ≡ 1
unfolding bit
bit_high low v ne = rw (ne_eqb v low ne, bit)

pub bit-most : (low v : ℕ) → bit low v ≤ 1
bit-most low v = go (ℕ_discrete v low)
  where
    go : Dec (v ≡ low) → bit low v ≤ 1
    go (yes e) = omega (arith, bit-low low v e)
    go (no ne) = omega (arith, bit_high low v ne)

module _ (g : List ℕ) (low : ℕ) (two : TwoValued g low) where
  pub bit-lower : (i j : ℕ) → i < length g → j < length g → rank (get_or g i 0) < rank (get_or g j 0) → bit low (get_or g i 0) < bit low (get_or g j 0)
  bit-lower i j il jl h = go (ℕ_discrete (get_or g i 0) low)
    where
      upper : get_or g j 0 ≡ low → ⊥
      upper e = let z : rank (get_or g j 0) ≡ rank low = ap rank e in omega (arith, two.lowest i il)

      go : Dec (get_or g i 0 ≡ low) → bit low (get_or g i 0) < bit low (get_or g j 0)
      go (yes e) = omega (arith, bit-low low (get_or g i 0) e, bit_high low (get_or g j 0) upper)
      go (no ne) = let z : rank (get_or g i 0) ≡ rank (get_or g j 0) = ap rank (two.one_more i j il jl ne upper) in absurd (omega arith)

  pub bit-ascends : (i j : ℕ) → i < length g → j < length g → rank (get_or g i 0) ≤ rank (get_or g j 0) → bit low (get_or g i 0) ≤ bit low (get_or g j 0)
  bit-ascends i j il jl h = go (ℕ_discrete (rank (get_or g i 0)) (rank (get_or g j 0)))
    where
      go : Dec (rank (get_or g i 0) ≡ rank (get_or g j 0)) → bit low (get_or g i 0) ≤ bit low (get_or g j 0)
      go (yes e) = omega (arith, ap (bit low) (rank-injective (get_or g i 0) (get_or g j 0) e))
      go (no ne) = omega (arith, bit-lower i j il jl (omega arith))

pub cell-inside : (m n : ℕ) (g : List ℕ) → length g ≡ m * n → (r c : ℕ) → r < m → c < n → r * n + c < length g
cell-inside m n g size r c rm cn = rw size (digits_lt rm cn)

-- ---- the table by rows

module _ (m n : ℕ) (g : List ℕ) (low : ℕ) (y : List ℕ) (n16 : n ≤ 16) (size : length g ≡ m * n) (two : TwoValued g low) (by : ByRows m n g low y) where
  inside : (r c : ℕ) → r < m → c < n → r * n + c < length g
  inside = cell-inside m n g size

  number : (r c : ℕ) → r < m → c < n → get_or y (r * 16 + c) 0 ≡ 1 - bit low (cell n g r c)
  unfolding high
  number r c rm cn = rw (lt-ltb c n cn, high) at (by.holds r c rm (omega arith))

  pub number-low : (r c : ℕ) → r < m → c < n → cell n g r c ≡ low → get_or y (r * 16 + c) 0 ≡ 1
  number-low r c rm cn e = omega (arith, number r c rm cn, bit-low low (cell n g r c) e)

  pub number-other : (r c : ℕ) → r < m → c < n → (cell n g r c ≡ low → ⊥) → get_or y (r * 16 + c) 0 ≡ 0
  number-other r c rm cn ne = omega (arith, number r c rm cn, bit_high low (cell n g r c) ne)

  module _ (r c s d : ℕ) (rm : r < m) (cn : c < n) (sm : s < m) (dn : d < n) where
    first : Dec (cell n g r c ≡ low)
    first = ℕ_discrete (cell n g r c) low

    second : Dec (cell n g s d ≡ low)
    second = ℕ_discrete (cell n g s d) low

    pub cells-equal : get_or y (r * 16 + c) 0 ≡ get_or y (s * 16 + d) 0 → cell n g r c ≡ cell n g s d
    cells-equal e = go first second
      where
        go : Dec (cell n g r c ≡ low) → Dec (cell n g s d ≡ low) → cell n g r c ≡ cell n g s d
        go (yes a) (yes b) = a ∙ sym b
        go (yes a) (no b) = absurd (omega (arith, e, number-low r c rm cn a, number-other s d sm dn b))
        go (no a) (yes b) = absurd (omega (arith, e, number-other r c rm cn a, number-low s d sm dn b))
        go (no a) (no b) = two.one_more (r * n + c) (s * n + d) (inside r c rm cn) (inside s d sm dn) a b

    pub cells-higher : get_or y (r * 16 + c) 0 < get_or y (s * 16 + d) 0 → rank (cell n g s d) < rank (cell n g r c)
    cells-higher l = go first second
      where
        apart : cell n g s d ≡ low → (cell n g r c ≡ low → ⊥) → rank (cell n g s d) ≡ rank (cell n g r c) → ⊥
        apart b a e = a (sym (rank-injective (cell n g s d) (cell n g r c) e) ∙ b)

        go : Dec (cell n g r c ≡ low) → Dec (cell n g s d ≡ low) → rank (cell n g s d) < rank (cell n g r c)
        go (no a) (yes b) =
            let f : rank (cell n g s d) ≡ rank low = ap rank b in
            let ne = apart b a in
            omega (arith, two.lowest (r * n + c) (inside r c rm cn))
        go (yes a) (yes b) = absurd (omega (arith, l, number-low r c rm cn a, number-low s d sm dn b))
        go (yes a) (no b) = absurd (omega (arith, l, number-low r c rm cn a, number-other s d sm dn b))
        go (no a) (no b) = absurd (omega (arith, l, number-other r c rm cn a, number-other s d sm dn b))

    pub cells-no-higher : get_or y (r * 16 + c) 0 ≤ get_or y (s * 16 + d) 0 → rank (cell n g s d) ≤ rank (cell n g r c)
    cells-no-higher l = go (ℕ_discrete (get_or y (r * 16 + c) 0) (get_or y (s * 16 + d) 0))
      where
        go : Dec (get_or y (r * 16 + c) 0 ≡ get_or y (s * 16 + d) 0) → rank (cell n g s d) ≤ rank (cell n g r c)
        go (yes e) = let f : rank (cell n g r c) ≡ rank (cell n g s d) = ap rank (cells-equal e) in omega arith
        go (no ne) = omega (arith, cells-higher (omega arith))
