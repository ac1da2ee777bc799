-- The three bytes of a holding: they are the field of a number of at most 999 exactly where they are of one of its forms.
--
--   holding-field, field-holding   ==  the two are one
--   none-zero, zero-none           ==  such a field ends as that of 0 does exactly where it is that of 0
--   holding-decides, none-decides  ==  the tests of the bytes decide
use mathlib.Core.Path.{◌≡◌, refl, sym, ap, ap₂, ◌∙◌}
use mathlib.Core.List.{List, [], ◌∷◌, ◌++◌}
use mathlib.Core.Bool.{Bool, true, false, true≢false, ◌&&◌, ◌||◌}
use mathlib.Core.Logic.{◌⊎◌, inl, inr, ◌↔◌}
use Prim.Native.Nat.{ℕ, zero, suc, ◌+◌, ◌-◌, ◌*◌, ◌/◌, ◌%◌, ◌≤◌, ◌<◌}
use native.Mathlib.Omega.{arith}
use native.Mathlib.Decide.{dec_lt}
use borrow.Author.Tests.{eqb-true, eq-eqb, leb-true, le-leb}
use lib.ListN.{get_or}
use lib.Dec.{eqb, leb}
use Rattle.permutations.proofs.BoolLaws.{and_yes, yes_and, or_yes}
use Rattle.layout.specs.Decimal.{lead, field, digit, value_from, value}
use Rattle.layout.specs.Layout.{most_held}
use Rattle.lines.proofs.FieldLaws.{field-one}
use Rattle.scan.specs.Holdings.{Digit, First, HoldingBytes, NoneBytes, is_digit, is_first, is_holding, is_none}
use Rattle.scan.proofs.CellLaws.{NumberField, read_back}

-- ---- fields of two and of three digits

lead-one : (w x : ℕ) → 1 ≤ x → x < 10 → lead (suc w) x ≡ lead w 0 ++ ((48 + x) ∷ [])
unfolding lead
lead-one w zero l m = absurd (omega arith)
lead-one w (suc x) l m =
    let q : suc x / 10 ≡ 0 = omega arith in
    let r : suc x % 10 ≡ suc x = omega arith in
    ap₂ (λ (y z : ℕ). lead w y ++ ((48 + z) ∷ [])) q r

lead-two : (x : ℕ) → 10 ≤ x → x < 100 → lead 2 x ≡ (48 + x / 10) ∷ (48 + x % 10) ∷ []
unfolding lead
lead-two zero l m = absurd (omega arith)
lead-two (suc x) l m = ap (λ (y : List ℕ). y ++ ((48 + suc x % 10) ∷ [])) (lead-one 0 (suc x / 10) (omega arith) (omega arith))

field-tens : (v : ℕ) → 10 ≤ v → v < 100 → field 3 v ≡ 32 ∷ (48 + v / 10) ∷ (48 + v % 10) ∷ []
unfolding field lead
field-tens v l m = ap (λ (y : List ℕ). y ++ ((48 + v % 10) ∷ [])) (lead-one 1 (v / 10) (omega arith) (omega arith))

field-hundreds : (v : ℕ) → 100 ≤ v → v < 1000 → field 3 v ≡ (48 + v / 10 / 10) ∷ (48 + v / 10 % 10) ∷ (48 + v % 10) ∷ []
unfolding field
field-hundreds v l m = ap (λ (y : List ℕ). y ++ ((48 + v % 10) ∷ [])) (lead-two (v / 10) (omega arith) (omega arith))

-- ---- the field

-- three bytes, by their numbers
bytes-are : (x y z a b c : ℕ) → x ≡ a → y ≡ b → z ≡ c → ◌≡◌ {A = List ℕ} (x ∷ y ∷ z ∷ []) (a ∷ b ∷ c ∷ [])
bytes-are x y z a b c p q r = rw (p, q, r)

pub holding-field : (a b c : ℕ) → HoldingBytes a b c → NumberField most_held a b c
unfolding HoldingBytes Digit First
holding-field a b c (inl (e, inl f), (p, q)) =
    read_back most_held (c - 48) a b c (omega arith) (omega arith) (field-one (c - 48) (omega arith) ∙ bytes-are _ _ _ a b c (sym e) (sym f) (omega arith))
holding-field a b c (inl (e, inr (s, t)), (p, q)) =
    let v : ℕ = (b - 48) * 10 + (c - 48) in
    read_back most_held v a b c (omega arith) (omega arith) (field-tens v (omega arith) (omega arith) ∙ bytes-are _ _ _ a b c (sym e) (omega arith) (omega arith))
holding-field a b c (inr ((u, w), (s, t)), (p, q)) =
    let v : ℕ = (a - 48) * 100 + (b - 48) * 10 + (c - 48) in
    read_back most_held v a b c (omega arith) (omega arith) (field-hundreds v (omega arith) (omega arith) ∙ bytes-are _ _ _ a b c (omega arith) (omega arith) (omega arith))

-- the three bytes of equal lists
three-are : {a b c x y z : ℕ} → ◌≡◌ {A = List ℕ} (a ∷ b ∷ c ∷ []) (x ∷ y ∷ z ∷ []) → (a ≡ x) × (b ≡ y) × (c ≡ z)
three-are e = (ap (λ (l : List ℕ). get_or l 0 0) e, ap (λ (l : List ℕ). get_or l 1 0) e, ap (λ (l : List ℕ). get_or l 2 0) e)

pub field-holding : (a b c : ℕ) → NumberField most_held a b c → HoldingBytes a b c
unfolding NumberField HoldingBytes Digit First
field-holding a b c (f, l) = go (value (a ∷ b ∷ c ∷ [])) f l (dec_lt (value (a ∷ b ∷ c ∷ [])) 10) (dec_lt (value (a ∷ b ∷ c ∷ [])) 100)
  where
    go : (v : ℕ) → (a ∷ b ∷ c ∷ []) ≡ field 3 v → v ≤ most_held → Dec (v < 10) → Dec (v < 100) →
        (((a ≡ 32) × ((b ≡ 32) ⊎ ((49 ≤ b) × (b ≤ 57)))) ⊎ (((49 ≤ a) × (a ≤ 57)) × ((48 ≤ b) × (b ≤ 57)))) × ((48 ≤ c) × (c ≤ 57))
    go v f l (yes h) d = let e = three-are (f ∙ field-one v h) in (inl (e.0, inl e.1), (omega (arith, e.2), omega (arith, e.2)))
    go v f l (no h) (yes d) =
        let e = three-are (f ∙ field-tens v (omega arith) d) in
        (inl (e.0, inr (omega (arith, e.1), omega (arith, e.1))), (omega (arith, e.2), omega (arith, e.2)))
    go v f l (no h) (no d) =
        let e = three-are (f ∙ field-hundreds v (omega arith) (omega arith)) in
        (inr ((omega (arith, e.0), omega (arith, e.0)), (omega (arith, e.1), omega (arith, e.1))), (omega (arith, e.2), omega (arith, e.2)))

pub zero-none : (a b c : ℕ) → NumberField most_held a b c → value (a ∷ b ∷ c ∷ []) ≡ 0 → NoneBytes b c
unfolding NumberField NoneBytes
zero-none a b c (f, l) z = let e = three-are (f ∙ ap (field 3) z ∙ field-one 0 (omega arith)) in (e.1, e.2)

pub none-zero : (a b c : ℕ) → HoldingBytes a b c → NoneBytes b c → value (a ∷ b ∷ c ∷ []) ≡ 0
unfolding HoldingBytes NoneBytes Digit value value_from digit
none-zero a b c (inl (e, o), d) (p, q) = rw (e, p, q)
none-zero a b c (inr (u, (s, t)), d) (p, q) = absurd (omega arith)

-- ---- the tests

both-decide : {A B : Type 0} (x y : Bool) → (x ≡ true) ↔ A → (y ≡ true) ↔ B → ((x && y) ≡ true) ↔ (A × B)
both-decide x y d e = (λ z. let p = and_yes x y z in (d.0 p.0, e.0 p.1), λ p. yes_and x y (d.1 p.0) (e.1 p.1))

either-decides : {A B : Type 0} (x y : Bool) → (x ≡ true) ↔ A → (y ≡ true) ↔ B → ((x || y) ≡ true) ↔ (A ⊎ B)
either-decides {A} {B} x y d e = (λ z. to (or_yes x y z), back x d)
  where
    to : (x ≡ true) ⊎ (y ≡ true) → A ⊎ B
    to (inl p) = inl (d.0 p)
    to (inr p) = inr (e.0 p)

    back : (x : Bool) → (x ≡ true) ↔ A → A ⊎ B → (x || y) ≡ true
    back true d s = refl
    back false d (inl a) = absurd (true≢false (sym (d.1 a)))
    back false d (inr b) = e.1 b

equal-decides : (x y : ℕ) → (eqb x y ≡ true) ↔ (x ≡ y)
equal-decides x y = (eqb-true x y, eq-eqb x y)

range-decides : (x y c : ℕ) → ((leb x c && leb c y) ≡ true) ↔ ((x ≤ c) × (c ≤ y))
range-decides x y c = both-decide _ _ (leb-true x c, le-leb x c) (leb-true c y, le-leb c y)

digit-decides : (c : ℕ) → (is_digit c ≡ true) ↔ Digit c
unfolding is_digit Digit
digit-decides c = range-decides 48 57 c

first-decides : (c : ℕ) → (is_first c ≡ true) ↔ First c
unfolding is_first First
first-decides c = range-decides 49 57 c

pub holding-decides : (a b c : ℕ) → a < 256 → b < 256 → c < 256 → (is_holding a b c ≡ true) ↔ HoldingBytes a b c
unfolding is_holding HoldingBytes
holding-decides a b c la lb lc =
    both-decide _ _
    (either-decides _ _ (both-decide _ _ (equal-decides a 32) (either-decides _ _ (equal-decides b 32) (first-decides b))) (both-decide _ _ (first-decides a) (digit-decides b)))
    (digit-decides c)

pub none-decides : (b c : ℕ) → (is_none b c ≡ true) ↔ NoneBytes b c
unfolding is_none NoneBytes
none-decides b c = both-decide _ _ (equal-decides b 32) (equal-decides c 48)
