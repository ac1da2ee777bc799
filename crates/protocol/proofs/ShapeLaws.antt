-- Laws of line 1 of planbook's input: which are laid as document 01 says.
--
--   ShapeLaid s l      ==  l is line 1 with the numbers of s, each below 1,000,000
--   shape-stated       ==  then they are read from it
--   shape-laid         ==  question 12 gets a yes exactly if line 1 states some numbers so
--   length-shape, shape-length  ==  how many bytes it has then
use mathlib.Core.Path.{◌≡◌, sym, ap, ◌∙◌}
use mathlib.Core.List.{List, [], ◌∷◌}
use mathlib.Core.Bool.{true}
use mathlib.Core.Logic.{◌↔◌}
use Prim.Native.Nat.{ℕ, ◌*◌, ◌<◌}
use native.Mathlib.Omega.{arith}
use lib.ListN.{length, get_or}
use Rattle.grids.proofs.OrderLaws.{equal-eq, eq-equal}
use Rattle.layout.specs.Decimal.{field, value}
use Rattle.layout.specs.Layout.{Shape, number_at, decode_shape}
use Rattle.layout.proofs.DecimalLaws.{value-field, field-small}
use Rattle.layout.proofs.LayoutLaws.{length-ended, field_at}
use Rattle.protocol.specs.Input.{first_line, shape_line}
use Rattle.protocol.specs.Transcript.{shape_in, question12}

-- ---- line 1

pub record ShapeLaid (s : Shape) (l : List ℕ) : Type 0 where
  pub rows-small : s.rows < 1000000
  pub columns-small : s.columns < 1000000
  pub top_small : s.top < 1000000
  pub capacity-small : s.capacity < 1000000
  pub bytes : l ≡ shape_line s

abbrev numbers_of : Shape → List ℕ
numbers_of s = s.rows ∷ s.columns ∷ s.top ∷ s.capacity ∷ []

-- the field at place i of line 1
shape-field : (s : Shape) (l : List ℕ) (i : ℕ) → l ≡ shape_line s → i < 4 → number_at 6 (i * 6) l ≡ value (field 6 (get_or (numbers_of s) i 0))
unfolding number_at shape_line
shape-field s l i e h = rw e (ap value (field_at 6 (numbers_of s) (10 ∷ []) i h))

shape-read : (s : Shape) (l : List ℕ) (i : ℕ) → l ≡ shape_line s → i < 4 → get_or (numbers_of s) i 0 < 1000000 → number_at 6 (i * 6) l ≡ get_or (numbers_of s) i 0
shape-read s l i e h small = shape-field s l i e h ∙ value-field 5 (get_or (numbers_of s) i 0) small

-- what a line states fits its fields if it is laid out again as it was
shape-small : (l : List ℕ) (i : ℕ) → l ≡ shape_line (decode_shape l) → i < 4 → number_at 6 (i * 6) l < 1000000
shape-small l i e h = rw (shape-field (decode_shape l) l i e h) (field-small 5 (get_or (numbers_of (decode_shape l)) i 0))

shape_of : (s : Shape) (l : List ℕ) → ShapeLaid s l → decode_shape l ≡ s
unfolding decode_shape
shape_of s l o = λ i. record {
  rows = shape-read s l 0 o.bytes (omega arith) o.rows-small i;
  columns = shape-read s l 1 o.bytes (omega arith) o.columns-small i;
  top = shape-read s l 2 o.bytes (omega arith) o.top_small i;
  capacity = shape-read s l 3 o.bytes (omega arith) o.capacity-small i;
}

pub shape-stated : (input : List ℕ) (s : Shape) → ShapeLaid s (first_line input) → shape_in input ≡ s
unfolding shape_in
shape-stated input s o = shape_of s (first_line input) o

pub shape-laid : (input : List ℕ) → ((question12 input).answer ≡ true) ↔ ((s : Shape) × ShapeLaid s (first_line input))
unfolding question12 shape_in decode_shape
shape-laid input = (to, back)
  where
    l : List ℕ
    l = first_line input

    to : (question12 input).answer ≡ true → (s : Shape) × ShapeLaid s l
    to e =
        let d = sym (equal-eq (shape_line (decode_shape l)) l e) in (
          decode_shape l,
          record {
            rows-small = shape-small l 0 d (omega arith);
            columns-small = shape-small l 1 d (omega arith);
            top_small = shape-small l 2 d (omega arith);
            capacity-small = shape-small l 3 d (omega arith);
            bytes = d;
          },
        )

    back : (s : Shape) × ShapeLaid s l → (question12 input).answer ≡ true
    back h = eq-equal (shape_line (decode_shape l)) l (ap shape_line (shape_of h.0 l h.1) ∙ sym h.1.bytes)

pub length-shape : (s : Shape) → length (shape_line s) ≡ 25
unfolding shape_line
length-shape s = length-ended 6 (numbers_of s)

pub shape-length : (input : List ℕ) → (question12 input).answer ≡ true → length (first_line input) ≡ 25
shape-length input e = let h = (shape-laid input).0 e in ap length h.1.bytes ∙ length-shape h.0
