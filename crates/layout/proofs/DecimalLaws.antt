-- Laws of decimal fields.
--
--   length-field                 ==  a field of w bytes has w bytes
--   value-append                 ==  the digits of one list after those of another
--   value-field                  ==  what is printed is read back
--   field-small                  ==  what a field of w bytes reads is below 10 ^ w
--   Justified x s                ==  s is spaces and then digits, some unless x is 0, of which the first is no 0
--   justified-field, zero_field  ==  a field is spaces and then digits of which the first is no 0; for zero, spaces and one 0
use mathlib.Core.Path.{◌≡◌, refl, sym, ap, ◌∙◌}
use mathlib.Core.List.{List, [], ◌∷◌, ◌++◌, append_assoc, append-nil}
use Prim.Native.Nat.{ℕ, zero, suc, ◌+◌, ◌-◌, ◌*◌, ◌/◌, ◌%◌, ◌^◌, ◌≤◌, ◌<◌}
use native.Mathlib.Nat.{div-lt_iff_lt-mul, pow-suc, div-add-mod', mod-lt}
use native.Mathlib.Omega.{arith}
use lib.ListN.{length, length-append, get_or, replicate}
use lib.Dec.{lit<}
use borrow.Author.Tests.{ne_eqb}
use Rattle.layout.specs.Decimal.{lead, field, digit, value_from, value}

pub value-append : (acc : ℕ) (s t : List ℕ) → value_from acc (s ++ t) ≡ value_from (value_from acc s) t
unfolding value_from
value-append acc [] t = refl
value-append acc (b ∷ s) t = value-append (digit acc b) s t

digit-space : (acc : ℕ) → digit acc 32 ≡ acc
unfolding digit
digit-space acc = refl

digit-digit : (acc d : ℕ) → digit acc (48 + d) ≡ acc * 10 + d
unfolding digit
digit-digit acc d =
    let e : 48 + d - 48 ≡ d = omega arith in
    rw (ne_eqb (48 + d) 32 (omega arith), digit) (ap (λ (x : ℕ). acc * 10 + x) e)

snoc-value : (s : List ℕ) (b x : ℕ) → value s ≡ x → value (s ++ (b ∷ [])) ≡ digit x b
unfolding value value_from
snoc-value s b x e = value-append 0 s (b ∷ []) ∙ ap (λ (y : ℕ). digit y b) e

shorter : (w x : ℕ) → x < 10 ^ suc w → x / 10 < 10 ^ w
shorter w x h = (div-lt_iff_lt-mul (lit< {m = 0} {n = 10} tt)).1 (rw pow-suc at h)

value-lead : (w x : ℕ) → x < 10 ^ w → value (lead w x) ≡ x
unfolding lead value value_from
value-lead zero x h = omega arith
value-lead (suc w) zero h = snoc-value (lead w zero) 32 0 (value-lead w zero (omega arith)) ∙ digit-space 0
value-lead (suc w) (suc x) h =
    snoc-value (lead w (suc x / 10)) (48 + suc x % 10) (suc x / 10) (value-lead w (suc x / 10) (shorter w (suc x) h)) ∙ digit-digit (suc x / 10) (suc x % 10) ∙ div-add-mod' (suc x) 10

pub value-field : (w x : ℕ) → x < 10 ^ suc w → value (field (suc w) x) ≡ x
unfolding field
value-field w x h =
    snoc-value (lead w (x / 10)) (48 + x % 10) (x / 10) (value-lead w (x / 10) (shorter w x h)) ∙ digit-digit (x / 10) (x % 10) ∙ div-add-mod' x 10

length-snoc : (s : List ℕ) (b w : ℕ) → length s ≡ w → length (s ++ (b ∷ [])) ≡ suc w
length-snoc s b w e = simp length-append (omega arith)

length-lead : (w x : ℕ) → length (lead w x) ≡ w
unfolding lead
length-lead zero x = refl
length-lead (suc w) zero = length-snoc (lead w zero) 32 w (length-lead w zero)
length-lead (suc w) (suc x) = length-snoc (lead w (suc x / 10)) (48 + suc x % 10) w (length-lead w (suc x / 10))

pub length-field : (w x : ℕ) → length (field w x) ≡ w
unfolding field
length-field zero x = refl
length-field (suc w) x = length-snoc (lead w (x / 10)) (48 + x % 10) w (length-lead w (x / 10))

-- ---- the layout of a field, as document 01 says it

-- every byte of l is a digit
abbrev Digits : List ℕ → Type 0
Digits [] = Unit {0}
Digits (b ∷ l) = (48 ≤ b) × (b ≤ 57) × Digits l

digits-snoc : (l : List ℕ) (d : ℕ) → Digits l → d < 10 → Digits (l ++ ((48 + d) ∷ []))
digits-snoc [] d h k = (omega arith, omega arith, tt)
digits-snoc (b ∷ l) d h k = (h.0, h.1, digits-snoc l d h.2 k)

pub record Justified (x : ℕ) (s : List ℕ) : Type 0 where
  pub spaces : ℕ
  pub digits : List ℕ
  pub split : s ≡ replicate spaces 32 ++ digits
  pub all_digits : Digits digits
  pub no-leading-zero : 0 < length digits → 48 < get_or digits 0 0
  pub some-digit : 0 < x → 0 < length digits

spaces-snoc : (k : ℕ) → ◌≡◌ {A = List ℕ} (replicate k 32 ++ (32 ∷ [])) (replicate (suc k) 32)
spaces-snoc zero = refl
spaces-snoc (suc k) = ap (λ (l : List ℕ). 32 ∷ l) (spaces-snoc k)

lead_zero : (w : ℕ) → lead w 0 ≡ replicate w 32
unfolding lead
lead_zero zero = refl
lead_zero (suc w) = ap (λ (l : List ℕ). l ++ (32 ∷ [])) (lead_zero w) ∙ spaces-snoc w

-- one digit more after a number that is laid so
more : (y d : ℕ) (s : List ℕ) → d < 10 → (y ≡ 0 → 0 < d) → Justified y s → Justified (y * 10 + d) (s ++ ((48 + d) ∷ []))
more y d s dt first j = record {
  spaces = j.spaces;
  digits = j.digits ++ ((48 + d) ∷ []);
  split = ap (λ (l : List ℕ). l ++ ((48 + d) ∷ [])) j.split ∙ append_assoc (replicate j.spaces 32) j.digits ((48 + d) ∷ []);
  all_digits = digits-snoc j.digits d j.all_digits dt;
  no-leading-zero = λ h. front j.digits j.no-leading-zero j.some-digit;
  some-digit = λ h. omega (arith, length-snoc j.digits (48 + d) (length j.digits) refl);
}
  where
    front : (l : List ℕ) → (0 < length l → 48 < get_or l 0 0) → (0 < y → 0 < length l) → 48 < get_or (l ++ ((48 + d) ∷ [])) 0 0
    front [] h k = pick y first k
      where
        pick : (y : ℕ) → (y ≡ 0 → 0 < d) → (0 < y → 0 < 0) → 48 < 48 + d
        pick zero f g = omega (arith, f refl)
        pick (suc z) f g = absurd (omega (arith, g (omega arith)))
    front (b ∷ l) h k = h (omega arith)

justified-lead : (w x : ℕ) → x < 10 ^ w → Justified x (lead w x)
unfolding lead
justified-lead zero x h = record { spaces = 0; digits = []; split = refl; all_digits = tt; no-leading-zero = λ k. absurd (omega arith); some-digit = λ k. absurd (omega arith) }
justified-lead (suc w) zero h = record {
  spaces = suc w;
  digits = [];
  split = ap (λ (l : List ℕ). l ++ (32 ∷ [])) (lead_zero w) ∙ spaces-snoc w ∙ sym (append-nil (replicate (suc w) 32));
  all_digits = tt;
  no-leading-zero = λ k. absurd (omega arith);
  some-digit = λ k. absurd (omega arith);
}
justified-lead (suc w) (suc x) h =
    rw (div-add-mod' (suc x) 10) at
    (more (suc x / 10) (suc x % 10) (lead w (suc x / 10)) (mod-lt (suc x) (lit< {m = 0} {n = 10} tt)) (λ e. omega arith) (justified-lead w (suc x / 10) (shorter w (suc x) h)))

-- a field holds its number's digits after spaces: zero is one 0, any other number begins with no 0
pub justified-field : (w x : ℕ) → 0 < x → x < 10 ^ suc w → Justified x (field (suc w) x)
unfolding field
justified-field w x p h =
    rw (div-add-mod' x 10) at
    (more (x / 10) (x % 10) (lead w (x / 10)) (mod-lt x (lit< {m = 0} {n = 10} tt)) (λ e. omega arith) (justified-lead w (x / 10) (shorter w x h)))

pub zero_field : (w : ℕ) → field (suc w) 0 ≡ replicate w 32 ++ (48 ∷ [])
unfolding field
zero_field w = ap (λ (l : List ℕ). l ++ (48 ∷ [])) (lead_zero w)

-- ---- the value of a field

snoc-small : (s : List ℕ) (w d : ℕ) → value s < 10 ^ w → d < 10 → value (s ++ ((48 + d) ∷ [])) < 10 ^ suc w
unfolding value value_from digit
snoc-small s w d h k =
    let e : 48 + d - 48 ≡ d = omega arith in
    rw (value-append 0 s ((48 + d) ∷ []), ne_eqb (48 + d) 32 (omega arith), digit, e) (omega arith)

lead-small : (w x : ℕ) → value (lead w x) < 10 ^ w
unfolding lead value value_from digit
lead-small zero x = omega arith
lead-small (suc w) zero = rw (value-append 0 (lead w zero) (32 ∷ [])) (omega (arith, lead-small w zero))
lead-small (suc w) (suc x) = snoc-small (lead w (suc x / 10)) w (suc x % 10) (lead-small w (suc x / 10)) (mod-lt (suc x) (lit< {m = 0} {n = 10} tt))

pub field-small : (w x : ℕ) → value (field (suc w) x) < 10 ^ suc w
unfolding field
field-small w x = snoc-small (lead w (x / 10)) w (x % 10) (lead-small w (x / 10)) (mod-lt x (lit< {m = 0} {n = 10} tt))
