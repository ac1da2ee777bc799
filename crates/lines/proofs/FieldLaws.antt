-- A cell's field by its bytes.
--
--   field-one, field-two  ==  the field of a number below 10, and of one from 10 to 19
--   stated-at             ==  where the field of a number of at most 15 stands, its last two bytes state it
use Rattle.std.proofs.Common.{◌≡◌, ℕ, ◌+◌, ◌/◌, ◌%◌, ◌<◌, ◌≤◌, List, [], ◌∷◌, ◌++◌, get_or, take, drop, sym, refl, ap, ◌∙◌, ap₂, arith, get_or-drop, get_or-take}
use native.Mathlib.Decide.{dec_lt}
use Rattle.layout.specs.Decimal.{field, lead}
use Rattle.lines.specs.Bytes.{above, ten, stated}

pub field-one : (v : ℕ) → v < 10 → field 3 v ≡ 32 ∷ 32 ∷ (48 + v) ∷ []
unfolding field lead
field-one v l =
    let q : v / 10 ≡ 0 = omega arith in
    let r : v % 10 ≡ v = omega arith in
    ap₂ (λ (x y : ℕ). lead 2 x ++ ((48 + y) ∷ [])) q r

pub field-two : (v : ℕ) → 10 ≤ v → v < 20 → field 3 v ≡ 32 ∷ 49 ∷ (38 + v) ∷ []
unfolding field lead
field-two v l m =
    let q : v / 10 ≡ 1 = omega arith in
    let r : 48 + v % 10 ≡ 38 + v = omega arith in
    ap₂ (λ (x y : ℕ). lead 2 x ++ (y ∷ [])) q r

ten-space : ten 32 ≡ 0
unfolding ten
ten-space = refl

ten-digit : ten 49 ≡ 10
unfolding ten
ten-digit = refl

stated-one : (v : ℕ) → v < 10 → stated (48 + v) 32 ≡ v
unfolding stated above
stated-one v l = let e = ten-space in omega arith

stated-two : (v : ℕ) → 10 ≤ v → v < 20 → stated (38 + v) 49 ≡ v
unfolding stated above
stated-two v l m = let e = ten-digit in omega arith

stated-field : (v : ℕ) → v ≤ 15 → stated (get_or (field 3 v) 2 0) (get_or (field 3 v) 1 0) ≡ v
stated-field v l = go (dec_lt v 10)
  where
    go : Dec (v < 10) → stated (get_or (field 3 v) 2 0) (get_or (field 3 v) 1 0) ≡ v
    go (yes h) = rw (field-one v h) (stated-one v h)
    go (no h) = rw (field-two v (omega arith) (omega arith)) (stated-two v (omega arith) (omega arith))

pub stated-at : (l : List ℕ) (i v : ℕ) → v ≤ 15 → take 3 (drop i l) ≡ field 3 v → stated (get_or l (i + 2) 0) (get_or l (i + 1) 0) ≡ v
stated-at l i v h e = ap₂ stated (byte 2 (omega arith)) (byte 1 (omega arith)) ∙ stated-field v h
  where
    byte : (j : ℕ) → j < 3 → get_or l (i + j) 0 ≡ get_or (field 3 v) j 0
    byte j b = sym (get_or-drop i l j 0) ∙ sym (get_or-take 3 (drop i l) j 0 b) ∙ ap (λ (x : List ℕ). get_or x j 0) e
