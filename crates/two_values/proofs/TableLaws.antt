-- The tables of a grid's cells as the loops fill them, row after row and cell after cell.
--
--   column_place r c, row_place r c  ==  where the cell in row r, column c stands: column after column, row after row
--   column_apart, column-inside, row_apart, row_inside  ==  places of different cells differ; a place is below 128
--   TableTo place v e n i j x  ==  x holds v r c at the place of each cell before column j of row i, and e past column n
--   table_none, table-cell, table-row  ==  before the first cell, after a cell, after a row
--   bit_byte, unbit-byte       ==  the test of a cell as a number
--   byte-most                  ==  a test as a number is at most 1
--   cell_bit n g low r c, cell_unbit n g low r c  ==  0 where the cell in row r, column c is `low`, else 1; and 1 less that
--   columns-table, rows-table  ==  the tables at the end
use mathlib.Core.Path.{◌≡◌, refl, sym, ap, ◌∙◌}
use mathlib.Core.List.{List}
use mathlib.Core.Bool.{Bool, true, false, not}
use Prim.Native.Nat.{ℕ, ◌+◌, ◌-◌, ◌*◌, ◌≤◌, ◌<◌}
use native.Mathlib.Nat.{not-suc-le-zero}
use native.Mathlib.Decide.{ℕ_discrete, dec_lt}
use native.Mathlib.Omega.{arith}
use lib.ListN.{length, get_or, set, replicate, length-set, length-replicate, get_or-replicate, get_or-eq_default}
use lib.Seq.{get_or-set_same, get_or-set_other}
use lib.Dec.{eqb}
use borrow.Author.Tests.{lt-ltb, le-ltb}
use mir.Val.{bool_byte}
use Rattle.grids.specs.Grids.{cell}
use Rattle.two_values.specs.TwoValues.{bit}
use Rattle.two_values.specs.Tables.{high, ByColumns, ByRows}

-- ---- places

abbrev pub column_place : ℕ → ℕ → ℕ
column_place r c = c * 8 + r

abbrev pub row_place : ℕ → ℕ → ℕ
row_place r c = r * 16 + c

abbrev Apart : (ℕ → ℕ → ℕ) → Type 0
Apart place = (r c s d : ℕ) → r < 8 → c < 16 → s < 8 → d < 16 → place r c ≡ place s d → (r ≡ s) × (c ≡ d)

abbrev Inside : (ℕ → ℕ → ℕ) → Type 0
Inside place = (r c : ℕ) → r < 8 → c < 16 → place r c < 128

pub column_apart : Apart column_place
column_apart r c s d rw8 cw sw dw e = (omega arith, omega arith)

pub column-inside : Inside column_place
column-inside r c rw8 cw = omega arith

pub row_apart : Apart row_place
row_apart r c s d rw8 cw sw dw e = (omega arith, omega arith)

pub row_inside : Inside row_place
row_inside r c rw8 cw = omega arith

-- ---- the loops

pub record TableTo (place v : ℕ → ℕ → ℕ) (e n i j : ℕ) (x : List ℕ) : Type 0 where
  pub size : length x ≡ 128
  pub bits : (t : ℕ) → get_or x t 0 ≤ 1
  pub done : (r c : ℕ) → r < i → c < n → get_or x (place r c) 0 ≡ v r c
  pub row : (c : ℕ) → c < j → get_or x (place i c) 0 ≡ v i c
  pub past : (r c : ℕ) → r < 8 → n ≤ c → c < 16 → get_or x (place r c) 0 ≡ e

module _ (place v : ℕ → ℕ → ℕ) (apart : Apart place) (inside : Inside place) where
  pub table_none : (e n : ℕ) (x : List ℕ) → e ≤ 1 → x ≡ replicate 128 e → TableTo place v e n 0 0 x
  table_none e n x small q = record {
    size = ap length q ∙ length-replicate 128 e;
    bits = λ t. within t (dec_lt t 128);
    done = λ r c b. absurd (not-suc-le-zero b);
    row = λ c b. absurd (not-suc-le-zero b);
    past = λ r c rb nc cb. ap (λ (l : List ℕ). get_or l (place r c) 0) q ∙ get_or-replicate 128 (place r c) e 0 (inside r c rb cb);
  }
    where
      within : (t : ℕ) → Dec (t < 128) → get_or x t 0 ≤ 1
      within t (yes b) = omega (arith, ap (λ (l : List ℕ). get_or l t 0) q, get_or-replicate 128 t e 0 b)
      within t (no b) = omega (arith, get_or-eq_default x 0 {n = t} (omega (arith, ap length q ∙ length-replicate 128 e)))

  module _ {e n i j : ℕ} {x : List ℕ} (h : TableTo place v e n i j x) where
    pub table-cell : (w : ℕ) → i < 8 → n ≤ 16 → j < n → w ≤ 1 → w ≡ v i j → TableTo place v e n i (j + 1) (set x (place i j) w)
    table-cell w ib nb jb small q = record {
      size = length-set x (place i j) w ∙ h.size;
      bits = λ t. at_most t (ℕ_discrete t (place i j));
      done = λ r c b cn. other r c (omega arith) (omega arith) (λ z. omega arith) ∙ h.done r c b cn;
      row = λ c b. next c b (ℕ_discrete c j);
      past = λ r c rb nc cb. kept r c rb cb (λ z. omega arith) ∙ h.past r c rb nc cb;
    }
      where
        at_most : (t : ℕ) → Dec (t ≡ place i j) → get_or (set x (place i j) w) t 0 ≤ 1
        at_most t (yes y) = rw (y, get_or-set_same x (place i j) w 0 (omega (arith, h.size, inside i j ib (omega arith)))) small
        at_most t (no y) = rw (get_or-set_other x (place i j) t w 0 y) (h.bits t)

        other : (r c : ℕ) → r < 8 → c < 16 → (r ≡ i → ⊥) → get_or (set x (place i j) w) (place r c) 0 ≡ get_or x (place r c) 0
        other r c rb cb ne = get_or-set_other x (place i j) (place r c) w 0 (λ z. ne (apart r c i j rb cb ib (omega arith) z).0)

        kept : (r c : ℕ) → r < 8 → c < 16 → (c ≡ j → ⊥) → get_or (set x (place i j) w) (place r c) 0 ≡ get_or x (place r c) 0
        kept r c rb cb ne = get_or-set_other x (place i j) (place r c) w 0 (λ z. ne (apart r c i j rb cb ib (omega arith) z).1)

        next : (c : ℕ) → c < j + 1 → Dec (c ≡ j) → get_or (set x (place i j) w) (place i c) 0 ≡ v i c
        next c b (yes y) = rw y (get_or-set_same x (place i j) w 0 (omega (arith, h.size, inside i j ib (omega arith))) ∙ q)
        next c b (no y) = kept i c ib (omega arith) y ∙ h.row c (omega arith)

    pub table-row : n ≤ j → TableTo place v e n (i + 1) 0 x
    table-row nj = record {
      size = h.size;
      bits = h.bits;
      done = λ r c b cn. go r c b cn (ℕ_discrete r i);
      row = λ c b. absurd (not-suc-le-zero b);
      past = h.past;
    }
      where
        go : (r c : ℕ) → r < i + 1 → c < n → Dec (r ≡ i) → get_or x (place r c) 0 ≡ v r c
        go r c b cn (yes y) = rw y (h.row c (omega arith))
        go r c b cn (no y) = h.done r c (omega arith) cn

-- ---- cells

pub bit_byte : (low v : ℕ) → bool_byte (not (eqb v low)) ≡ bit low v
unfolding bit
bit_byte low v = go (eqb v low)
  where
    go : (b : Bool) → bool_byte (not b) ≡ (elim b as (λ x. ℕ) [ true ↦ 0 | false ↦ 1 ])
    go true = refl
    go false = refl

pub unbit-byte : (low v : ℕ) → bool_byte (eqb v low) ≡ 1 - bit low v
unfolding bit
unbit-byte low v = go (eqb v low)
  where
    go : (b : Bool) → bool_byte b ≡ 1 - (elim b as (λ x. ℕ) [ true ↦ 0 | false ↦ 1 ])
    go true = refl
    go false = refl

pub byte-most : (b : Bool) → bool_byte b ≤ 1
byte-most true = omega arith
byte-most false = omega arith

-- ---- the whole tables

abbrev pub cell_bit : ℕ → List ℕ → ℕ → ℕ → ℕ → ℕ
cell_bit n g low r c = bit low (cell n g r c)

abbrev pub cell_unbit : ℕ → List ℕ → ℕ → ℕ → ℕ → ℕ
cell_unbit n g low r c = 1 - bit low (cell n g r c)

high-inside : (n : ℕ) (g : List ℕ) (low r c : ℕ) → c < n → high n g low r c ≡ bit low (cell n g r c)
unfolding high
high-inside n g low r c b = rw (lt-ltb c n b, high)

high-past : (n : ℕ) (g : List ℕ) (low r c : ℕ) → n ≤ c → high n g low r c ≡ 0
unfolding high
high-past n g low r c b = rw (le-ltb c n b, high)

pub columns-table : (m n : ℕ) (g : List ℕ) (low i : ℕ) (x : List ℕ) → m ≤ 8 → m ≤ i → TableTo column_place (cell_bit n g low) 0 n i 0 x → ByColumns m n g low x
columns-table m n g low i x mb mi h = record { bits = h.bits; holds = λ r c b cb. go r c b cb (dec_lt c n) }
  where
    go : (r c : ℕ) → r < m → c < 16 → Dec (c < n) → get_or x (c * 8 + r) 0 ≡ high n g low r c
    go r c b cb (yes y) = h.done r c (omega arith) y ∙ sym (high-inside n g low r c y)
    go r c b cb (no y) = h.past r c (omega arith) (omega arith) cb ∙ sym (high-past n g low r c (omega arith))

pub rows-table : (m n : ℕ) (g : List ℕ) (low i : ℕ) (x : List ℕ) → m ≤ 8 → m ≤ i → TableTo row_place (cell_unbit n g low) 1 n i 0 x → ByRows m n g low x
rows-table m n g low i x mb mi h = record { bits = h.bits; holds = λ r c b cb. go r c b cb (dec_lt c n) }
  where
    go : (r c : ℕ) → r < m → c < 16 → Dec (c < n) → get_or x (r * 16 + c) 0 ≡ 1 - high n g low r c
    go r c b cb (yes y) = h.done r c (omega arith) y ∙ ap (λ (z : ℕ). 1 - z) (sym (high-inside n g low r c y))
    go r c b cb (no y) = h.past r c (omega arith) (omega arith) cb ∙ ap (λ (z : ℕ). 1 - z) (sym (high-past n g low r c (omega arith)))
