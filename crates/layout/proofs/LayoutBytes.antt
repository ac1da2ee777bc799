-- A layout has bytes: digits, spaces and line feeds.
--
--   each-field, each-fields  ==  the fields of numbers
--   each_layout   ==  every element of a layout is a byte
--   layout-short  ==  a layout within the limits is short
--   layout-bytes  ==  so a register's layout is what a slice of bytes can hold
use mathlib.Core.Path.{◌≡◌, refl}
use mathlib.Core.List.{List, [], ◌∷◌, ◌++◌, map, flatten}
use mathlib.Core.Bool.{true}
use Prim.Native.Nat.{ℕ, zero, suc, ◌+◌, ◌-◌, ◌/◌, ◌%◌, ◌<◌}
use native.Mathlib.Nat.{mul-le-mul}
use native.Mathlib.Omega.{arith}
use lib.ListN.{length, replicate}
use lib.Pow.{are_bytes}
use Rattle.grids.specs.Lent.{Bytes}
use Rattle.grids.proofs.LentLaws.{each_append, each-replicate, short-bytes, limits-few}
use Rattle.layout.specs.Decimal.{lead, field}
use Rattle.layout.specs.Layout.{Shape, Entry, Register, grid_size, fields, number_width, cell_width, entry_width, line_length, entry_line, blank_line, head_list, head_line, layout, layout_length, InLimits, IsRegister}
use Rattle.layout.proofs.LayoutLaws.{length-layout}
use Rattle.layout.proofs.RegisterLaws.{register-sized}
use Rattle.layout.proofs.LineLaws.{line-short}

digit-byte : (x : ℕ) → are_bytes ((48 + x % 10) ∷ []) ≡ true
digit-byte x = each-replicate 1 (48 + x % 10) (omega arith)

ended : (l : List ℕ) → are_bytes l ≡ true → are_bytes (l ++ (10 ∷ [])) ≡ true
ended l h = each_append l (10 ∷ []) h refl

each-lead : (w x : ℕ) → are_bytes (lead w x) ≡ true
unfolding lead
each-lead zero x = refl
each-lead (suc w) zero = each_append (lead w zero) (32 ∷ []) (each-lead w zero) refl
each-lead (suc w) (suc x) = each_append (lead w (suc x / 10)) ((48 + suc x % 10) ∷ []) (each-lead w (suc x / 10)) (digit-byte (suc x))

pub each-field : (w x : ℕ) → are_bytes (field w x) ≡ true
unfolding field
each-field zero x = refl
each-field (suc w) x = each_append (lead w (x / 10)) ((48 + x % 10) ∷ []) (each-lead w (x / 10)) (digit-byte x)

-- lists of lists, each of bytes
each_map : {A : Type 0} (f : A → List ℕ) → ((a : A) → are_bytes (f a) ≡ true) → (l : List A) → are_bytes (flatten (map f l)) ≡ true
unfolding flatten
each_map f h [] = refl
each_map f h (a ∷ l) = each_append (f a) (flatten (map f l)) (h a) (each_map f h l)

each-copies : (n : ℕ) (l : List ℕ) → are_bytes l ≡ true → are_bytes (flatten (replicate n l)) ≡ true
unfolding flatten
each-copies zero l h = refl
each-copies (suc n) l h = each_append l (flatten (replicate n l)) h (each-copies n l h)

pub each-fields : (w : ℕ) (l : List ℕ) → are_bytes (fields w l) ≡ true
unfolding fields
each-fields w l = each_map (field w) (each-field w) l

entry-bytes : (e : Entry) → are_bytes (entry_line e) ≡ true
unfolding entry_line
entry-bytes e = ended (fields cell_width (e.grid ++ e.holdings)) (each-fields cell_width (e.grid ++ e.holdings))

blank-bytes : (size : ℕ) → are_bytes (blank_line size) ≡ true
unfolding blank_line
blank-bytes size = ended (replicate (entry_width size) 32) (each-replicate (entry_width size) 32 (omega arith))

head_bytes : (s : Shape) (n : ℕ) → are_bytes (head_line s n) ≡ true
unfolding head_line
head_bytes s n = ended (fields number_width (head_list s n)) (each-fields number_width (head_list s n))

pub each_layout : (r : Register) → are_bytes (layout r) ≡ true
unfolding layout
each_layout r =
    let blank : List ℕ = blank_line (grid_size r.shape) in
    let k : ℕ = r.shape.capacity - length r.entries in
    let lines : List ℕ = flatten (map entry_line r.entries) in
    each_append (head_line r.shape (length r.entries)) (lines ++ flatten (replicate k blank)) (head_bytes r.shape (length r.entries))
    (each_append lines (flatten (replicate k blank)) (each_map entry_line entry-bytes r.entries) (each-copies k blank (blank-bytes (grid_size r.shape))))

pub layout-short : (s : Shape) → InLimits s → layout_length s < 10000000
unfolding layout_length
layout-short s l =
    let few = limits-few s.rows s.columns s.top l.grid-limits in
    omega (arith, mul-le-mul {n₁ = s.capacity} {m₁ = line_length (grid_size s)} {n₂ = 500} {m₂ = 409} l.capacity-limits.1 (line-short (grid_size s) few))

pub layout-bytes : (r : Register) → IsRegister r → Bytes (layout r)
layout-bytes r i = short-bytes (layout r) (each_layout r) (omega (arith, length-layout r (register-sized r i) i.count_fits, layout-short r.shape i.limits))
