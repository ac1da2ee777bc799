-- Numbers are written into fields as wide as those of line 1, one after another; line 1 is written.
--
--   field-written  ==  a number written into the part of a field from a place on
--   fill-field     ==  a field more
--   with_fields at xs b  ==  b with the numbers xs in the fields from `at` on
--   fill-fields    ==  so many fields more
--   fields-written, fields-whole  ==  numbers written so and a line feed, over the front of a slice, and over all of it
--   head-written   ==  line 1
use Rattle.std.proofs.Common.{◌≡◌, ℕ, suc, ◌+◌, ◌-◌, ◌*◌, ◌<◌, ◌≤◌, List, [], ◌∷◌, ◌++◌, length, take, drop, set, refl, ◌∙◌, append_assoc, append-nil, arith, length-drop, drop_of_length-le, length-take-le, drop_at}
use mathlib.Core.List.{flatten}
use Rattle.layout.specs.Decimal.{field}
use Rattle.layout.specs.Layout.{Shape, fields, number_width, rows_place, columns_place, top_place, capacity_place, count_place, head_length, head_list, head_line}
use Rattle.layout.specs.Lines.{with_field}
use Rattle.lines.proofs.FillLaws.{Filled, fill_none, fill, fill-part, in_place}

width : (at : ℕ) → at + number_width - at ≡ number_width
width at = omega arith

field-long : (b : List ℕ) (at : ℕ) → at + number_width ≤ length b → length (take number_width (drop at b)) ≡ number_width
field-long b at h = length-take-le number_width (drop at b) (omega (arith, length-drop at b))

pub field-written : (b ys : List ℕ) (at x : ℕ) → at + number_width ≤ length b → ys ≡ field (length (take (at + number_width - at) (drop at b))) x → take at b ++ (ys ++ drop (at + number_width - at) (drop at b)) ≡ with_field at x b
unfolding with_field
field-written b ys at x h e = in_place number_width b ys at x h e

pub fill-field : {p l : List ℕ} {k : ℕ} {o : List ℕ} (x : ℕ) → Filled p l k o → k + number_width ≤ length l → Filled (p ++ field number_width x) l (k + number_width) (with_field k x o)
unfolding with_field
fill-field {p} {l} {k} {o} x f h =
    let d : drop k o ≡ drop k l = rw f.bytes (drop_at p (drop k l) k f.front) in
    let y : field number_width x ≡ field (length (take (k + number_width - k) (drop k o))) x = rw (width k, d, field-long l k h) refl in
    rw (width k) at (fill-part (p ++ field number_width x) (k + number_width) x (field number_width x) f (omega arith) h y (rw (width k) refl))

-- the numbers xs written into the fields from a place on
abbrev pub with_fields : ℕ → List ℕ → List ℕ → List ℕ
with_fields at [] b = b
with_fields at (x ∷ xs) b = with_fields (at + number_width) xs (with_field at x b)

fill-fields : {p l : List ℕ} {k : ℕ} {o : List ℕ} (xs : List ℕ) → Filled p l k o → k + length xs * number_width ≤ length l → Filled (p ++ fields number_width xs) l (k + length xs * number_width) (with_fields k xs o)
unfolding fields flatten
fill-fields {p} {l} {k} {o} [] f h =
    let e : k + length {A = ℕ} [] * number_width ≡ k = omega arith in
    rw (append-nil p, e) f
fill-fields {p} {l} {k} {o} (x ∷ xs) f h =
    let e : k + number_width + length xs * number_width ≡ k + suc (length xs) * number_width = omega arith in
    rw (append_assoc p (field number_width x) (fields number_width xs), e) at (fill-fields {p = p ++ field number_width x} {l = l} {k = k + number_width} {o = with_field k x o} xs (fill-field x f (omega arith)) (omega arith))

pub fields-written : (l xs : List ℕ) → length xs * number_width < length l → set (with_fields 0 xs l) (length xs * number_width) 10 ≡ (fields number_width xs ++ (10 ∷ [])) ++ drop (length xs * number_width + 1) l
fields-written l xs h =
    let z : 0 + length xs * number_width ≡ length xs * number_width = omega arith in
    let f = rw z at (fill-fields xs (fill_none l) (omega arith)) in
    (fill (fields number_width xs ++ (10 ∷ [])) 10 f h refl).bytes

-- over all of a slice of their length
pub fields-whole : (l xs : List ℕ) → length l ≡ length xs * number_width + 1 → set (with_fields 0 xs l) (length xs * number_width) 10 ≡ fields number_width xs ++ (10 ∷ [])
fields-whole l xs z = fields-written l xs (omega arith) ∙ rw (drop_of_length-le l {i = length xs * number_width + 1} (omega arith)) (append-nil (fields number_width xs ++ (10 ∷ [])))

pub head-written : (l : List ℕ) {o p q r s : List ℕ} (h : Shape) (n : ℕ) → length l ≡ head_length → o ≡ with_field rows_place h.rows l → p ≡ with_field columns_place h.columns o → q ≡ with_field top_place h.top p →
    r ≡ with_field capacity_place h.capacity q → s ≡ with_field count_place n r → set s (head_length - 1) 10 ≡ head_line h n
unfolding head_line
head-written l h n z a b c d e = rw (e, d, c, b, a) (fields-whole l (head_list h n) z)
