-- Laws of the bytes of a word.
--
--   Bytes n w            ==  w has n bytes
--   bytes_8              ==  a word has eight
--   lane-zero, lane-add, lane-sub, lane_and, lane_or  ==  the bytes of 0, of a sum, a difference, what two words have both, and either
--   lane-shift           ==  byte i is reached by a shift
--   lane-drop            ==  the bytes of a word without its lowest k
--   lane_past            ==  past n bytes there is 0
--   lane-at, lane-off    ==  a word with one byte that is not 0
--   lane-found           ==  a word that is not 0 has a byte that is not 0
--   lanes-le             ==  a word whose bytes are at most b
--   ones n, spread-lane  ==  1 in each of n bytes, and t in each
--   compared v n w, compared-lane, word_of  ==  n bytes compared with v at once
--   levels-le            ==  a word of levels is at most what it is taken from
--   at_most_one-le         ==  at_most_one is 0 or 1
--   first_lane           ==  the lowest byte that is not 0 is found by the zeros below its digit
--   sixteens             ==  2 to the power of 4 j
use Rattle.std.proofs.Common.{◌≡◌, ℕ, zero, suc, ◌+◌, ◌-◌, ◌*◌, ◌/◌, ◌%◌, ◌^◌, ◌<◌, ◌≤◌, Bool, true, false, leb, ◌⊎◌, sym, refl, ap, ◌∙◌, ap₂, inl, inr, not-suc-le-zero, mul-le-mul_right, mul_assoc, mul_comm, add-mul, one-mul, pow-suc, mul-one, mul-add, arith, pow-add, shr-shr, le-leb}
use native.Mathlib.Decide.{ℕ_discrete, dec_le}
use borrow.Author.Tests.{lt-leb}
use lib.Bits.{bit_and, bit_or, and_block, or_block, and_mask, and_shr, or_shr, and_lt, or_lt}
use lib.Count.{count_trailing_zeros}
use Rattle.search.specs.RowSets.{lane}
use Rattle.search.specs.Sifting.{at_most_one}

unfoldable pub Bytes : ℕ → ℕ → Type 0
Bytes zero w = w ≡ 0
Bytes (suc n) w = Bytes n (w / 256)

pub bytes_8 : (w : ℕ) → w < 2 ^ 64 → Bytes 8 w
unfolding Bytes
bytes_8 w h = omega arith

pub lane-zero : (i : ℕ) → lane i 0 ≡ 0
unfolding lane
lane-zero zero = refl
lane-zero (suc i) = lane-zero i

-- no byte carries into the next
pub lane-add : (i a b : ℕ) → ((j : ℕ) → j ≤ i → lane j a + lane j b < 256) → lane i (a + b) ≡ lane i a + lane i b
unfolding lane
lane-add zero a b h = omega (arith, h 0 (omega arith))
lane-add (suc i) a b h =
    let e : (a + b) / 256 ≡ a / 256 + b / 256 = omega (arith, h 0 (omega arith)) in
    ap (lane i) e ∙ lane-add i (a / 256) (b / 256) (λ j l. h (suc j) (omega arith))

pub lane-sub : (i a b : ℕ) → b ≤ a → ((j : ℕ) → j ≤ i → lane j b ≤ lane j a) → lane i (a - b) ≡ lane i a - lane i b
unfolding lane
lane-sub zero a b le h = omega (arith, h 0 (omega arith))
lane-sub (suc i) a b le h =
    let e : (a - b) / 256 ≡ a / 256 - b / 256 = omega (arith, h 0 (omega arith)) in
    ap (lane i) e ∙ lane-sub i (a / 256) (b / 256) (omega arith) (λ j l. h (suc j) (omega arith))

pub lane_and : (x a b : ℕ) → lane x (bit_and a b) ≡ bit_and (lane x a) (lane x b)
unfolding lane
lane_and zero a b =
    let ea : a ≡ a / 256 * 2 ^ 8 + a % 256 = omega arith in
    let eb : b ≡ b / 256 * 2 ^ 8 + b % 256 = omega arith in
    let f : bit_and a b ≡ bit_and (a / 256) (b / 256) * 2 ^ 8 + bit_and (a % 256) (b % 256) = ap₂ bit_and ea eb ∙ and_block 8 (a / 256) (b / 256) (a % 256) (b % 256) (omega arith) (omega arith) in
    omega (arith, f, and_lt 8 (a % 256) (b % 256) (omega arith) (omega arith))
lane_and (suc x) a b = ap (lane x) (and_shr a b 8) ∙ lane_and x (a / 256) (b / 256)

pub lane_or : (x a b : ℕ) → lane x (bit_or a b) ≡ bit_or (lane x a) (lane x b)
unfolding lane
lane_or zero a b =
    let ea : a ≡ a / 256 * 2 ^ 8 + a % 256 = omega arith in
    let eb : b ≡ b / 256 * 2 ^ 8 + b % 256 = omega arith in
    let f : bit_or a b ≡ bit_or (a / 256) (b / 256) * 2 ^ 8 + bit_or (a % 256) (b % 256) = ap₂ bit_or ea eb ∙ or_block 8 (a / 256) (b / 256) (a % 256) (b % 256) (omega arith) (omega arith) in
    omega (arith, f, or_lt 8 (a % 256) (b % 256) (omega arith) (omega arith))
lane_or (suc x) a b = ap (lane x) (or_shr a b 8) ∙ lane_or x (a / 256) (b / 256)

pub lane-shift : (i w : ℕ) → lane i w ≡ w / 2 ^ (8 * i) % 256
unfolding lane
lane-shift zero w = omega arith
lane-shift (suc i) w =
    let e : 8 + 8 * i ≡ 8 * suc i = omega arith in
    lane-shift i (w / 256) ∙ ap (λ (z : ℕ). z % 256) (shr-shr w 8 (8 * i) ∙ ap (λ (z : ℕ). w / 2 ^ z) e)

pub lane-drop : (k x w : ℕ) → lane x (w / 2 ^ (8 * k)) ≡ lane (k + x) w
lane-drop k x w =
    let e : 8 * k + 8 * x ≡ 8 * (k + x) = omega arith in
    lane-shift x (w / 2 ^ (8 * k)) ∙ ap (λ (z : ℕ). z % 256) (shr-shr w (8 * k) (8 * x) ∙ ap (λ (z : ℕ). w / 2 ^ z) e) ∙ sym (lane-shift (k + x) w)

pub lane_past : (n w x : ℕ) → Bytes n w → n ≤ x → lane x w ≡ 0
unfolding Bytes lane
lane_past zero w x h l = ap (lane x) h ∙ lane-zero x
lane_past (suc n) w zero h l = absurd (not-suc-le-zero l)
lane_past (suc n) w (suc x) h l = lane_past n (w / 256) x h (omega arith)

power-suc : (k b : ℕ) → b * 2 ^ (8 * suc k) ≡ b * 2 ^ (8 * k) * 256
power-suc k b =
    let e : 8 * suc k ≡ 8 * k + 8 = omega arith in
    ap (λ (z : ℕ). b * 2 ^ z) e ∙ ap (λ (z : ℕ). b * z) (pow-add 2 (8 * k) 8) ∙ sym (mul_assoc b (2 ^ (8 * k)) 256)

pub lane-at : (k b : ℕ) → b < 256 → lane k (b * 2 ^ (8 * k)) ≡ b
unfolding lane
lane-at zero b h = omega arith
lane-at (suc k) b h =
    let e : b * 2 ^ (8 * suc k) / 256 ≡ b * 2 ^ (8 * k) = omega (arith, power-suc k b) in
    ap (lane k) e ∙ lane-at k b h

pub lane-off : (k x b : ℕ) → b < 256 → (x ≡ k → ⊥) → lane x (b * 2 ^ (8 * k)) ≡ 0
unfolding lane
lane-off zero zero b h ne = absurd (ne refl)
lane-off zero (suc x) b h ne = let e : b * 1 / 256 ≡ 0 = omega arith in ap (lane x) e ∙ lane-zero x
lane-off (suc k) zero b h ne = omega (arith, power-suc k b)
lane-off (suc k) (suc x) b h ne =
    let e : b * 2 ^ (8 * suc k) / 256 ≡ b * 2 ^ (8 * k) = omega (arith, power-suc k b) in
    ap (lane x) e ∙ lane-off k x b h (λ z. ne (ap suc z))

pub lane-found : (n w : ℕ) → Bytes n w → (w ≡ 0 → ⊥) → (x : ℕ) × (x < n) × (lane x w ≡ 0 → ⊥)
unfolding Bytes lane
lane-found zero w h ne = absurd (ne h)
lane-found (suc n) w h ne = go (lane-found n (w / 256) h) (ℕ_discrete (w % 256) 0)
  where
    go : ((w / 256 ≡ 0 → ⊥) → (x : ℕ) × (x < n) × (lane x (w / 256) ≡ 0 → ⊥)) → Dec (w % 256 ≡ 0) → (x : ℕ) × (x < suc n) × (lane x w ≡ 0 → ⊥)
    go ih (yes e) = let r = ih (λ z. ne (omega arith)) in (suc r.0, omega (arith, r.1), r.2)
    go ih (no e) = (0, omega arith, e)

-- ---- the same in each byte

unfoldable pub ones : ℕ → ℕ
ones zero = 0
ones (suc n) = ones n * 256 + 1

ones-suc : (n : ℕ) → ones (suc n) ≡ ones n * 256 + 1
unfolding ones
ones-suc n = refl

spread : (o b : ℕ) → (o * 256 + 1) * b ≡ o * b * 256 + b
spread o b = add-mul (o * 256) 1 b ∙ ap₂ (λ (p q : ℕ). p + q) (mul_assoc o 256 b ∙ ap (λ (z : ℕ). o * z) (mul_comm 256 b) ∙ sym (mul_assoc o b 256)) (one-mul b)

pub lanes-le : (n b w : ℕ) → Bytes n w → ((x : ℕ) → x < n → lane x w ≤ b) → w ≤ ones n * b
unfolding Bytes lane ones
lanes-le zero b w h k = omega (arith, h)
lanes-le (suc n) b w h k = omega (arith, spread (ones n) b, lanes-le n b (w / 256) h (λ x l. k (suc x) (omega arith)), k 0 (omega arith))

pub spread-lane : (n t x : ℕ) → t < 256 → x < n → lane x (ones n * t) ≡ t
unfolding lane ones
spread-lane zero t x h l = absurd (not-suc-le-zero l)
spread-lane (suc n) t zero h l = omega (arith, spread (ones n) t)
spread-lane (suc n) t (suc x) h l =
    let e : (ones n * 256 + 1) * t / 256 ≡ ones n * t = omega (arith, spread (ones n) t) in
    ap (lane x) e ∙ spread-lane n t x h (omega arith)

-- ---- bytes compared at once

abbrev Levels : ℕ → ℕ → Type 0
Levels n w = Bytes n w × ((x : ℕ) → x < n → lane x w ≤ 15)

levels-next : (n w : ℕ) → Levels (suc n) w → (w % 256 ≤ 15) × Levels n (w / 256)
unfolding Bytes lane
levels-next n w h = (h.1 0 (omega arith), (h.0, λ x l. h.1 (suc x) (omega arith)))

pub levels-le : (w v : ℕ) → w < 2 ^ 64 → ((x : ℕ) → x < 8 → lane x w ≤ 15) → w ≤ 9259542123273814144 + 72340172838076673 * v
unfolding ones
levels-le w v b h = omega (arith, lanes-le 8 15 w (bytes_8 w b) h)

unfoldable pub compared : ℕ → ℕ → ℕ → ℕ
compared v n w = bit_and (((128 + v) * ones n - w) / 128) (ones n)

at-most-is : (v x : ℕ) → v ≤ 15 → x ≤ 15 → at_most_one v x ≡ (128 + v - x) / 128
unfolding at_most_one
at-most-is v x hv hx = go (dec_le x v)
  where
    go : Dec (x ≤ v) → elim (leb x v) [ true ↦ 1 | false ↦ 0 ] ≡ (128 + v - x) / 128
    go (yes h) = rw (le-leb x v h) (omega arith)
    go (no h) = rw (lt-leb x v (omega arith)) (omega arith)

div-step : (y t : ℕ) → t < 2 → (y * 2 + t) / 256 ≡ y / 128
div-step y t h = omega arith

mod-step : (y t : ℕ) → t < 2 → (y * 2 + t) % 256 % 2 ≡ t
mod-step y t h = omega arith

shift-step : (y x : ℕ) → x < 256 → (y * 256 + x) / 128 ≡ y * 2 + x / 128
shift-step y x h = omega arith

compared-suc : (v n w : ℕ) → v ≤ 15 → Levels (suc n) w → compared v (suc n) w ≡ compared v n (w / 256) * 256 + at_most_one v (w % 256)
unfolding compared
compared-suc v n w hv k =
    let h = levels-next n w k in
    let y : ℕ = (128 + v) * ones n - w / 256 in
    let t : ℕ = (128 + v - w % 256) / 128 in
    let t2 : t < 2 = omega arith in
    let up : w / 256 ≤ (128 + v) * ones n = omega (arith, below v (ones n), lanes-le n 15 (w / 256) h.1.0 h.1.1) in
    let split : (128 + v) * ones (suc n) - w ≡ y * 256 + (128 + v - w % 256) = omega (arith, spread-right v (ones n), ap (λ (x : ℕ). (128 + v) * x) (ones-suc n), h.0, up) in
    let half : ((128 + v) * ones (suc n) - w) / 128 ≡ y * 2 + t = ap (λ (x : ℕ). x / 128) split ∙ shift-step y (128 + v - w % 256) (omega arith) in
    let parts : y * 2 + t ≡ (y / 128) * 2 ^ 8 + (y * 2 + t) % 256 = omega (arith, div-step y t t2) in
    ap₂ bit_and (half ∙ parts) (ones-suc n)
    ∙ and_block 8 (y / 128) (ones n) ((y * 2 + t) % 256) 1 (omega arith) (omega arith)
    ∙ ap (λ (x : ℕ). bit_and (y / 128) (ones n) * 256 + x) (and_mask ((y * 2 + t) % 256) 1 ∙ mod-step y t t2 ∙ sym (at-most-is v (w % 256) hv h.0))
  where
    below : (v x : ℕ) → x * 15 ≤ (128 + v) * x
    below v x = let h : 15 * x ≤ (128 + v) * x = mul-le-mul_right x (omega arith) in omega arith

    spread-right : (v x : ℕ) → (128 + v) * (x * 256 + 1) ≡ (128 + v) * x * 256 + (128 + v)
    spread-right v x = mul-add (128 + v) (x * 256) 1 ∙ ap₂ (λ (p q : ℕ). p + q) (sym (mul_assoc (128 + v) x 256)) (mul-one (128 + v))

at-most-lt : (v x : ℕ) → v ≤ 15 → x ≤ 15 → at_most_one v x < 256
at-most-lt v x hv hx = omega (arith, at-most-is v x hv hx)

pub compared-lane : (v n w i : ℕ) → v ≤ 15 → Bytes n w → ((x : ℕ) → x < n → lane x w ≤ 15) → i < n → lane i (compared v n w) ≡ at_most_one v (lane i w)
unfolding lane
compared-lane v zero w i hv b h l = absurd (not-suc-le-zero l)
compared-lane v (suc n) w zero hv b h l =
    let k = levels-next n w (b, h) in omega (arith, compared-suc v n w hv (b, h), at-most-lt v (w % 256) hv k.0)
compared-lane v (suc n) w (suc i) hv b h l =
    let k = levels-next n w (b, h) in
    let high : compared v (suc n) w / 256 ≡ compared v n (w / 256) = omega (arith, compared-suc v n w hv (b, h), at-most-lt v (w % 256) hv k.0) in
    ap (lane i) high ∙ compared-lane v n (w / 256) i hv k.1.0 k.1.1 (omega arith)

pub word_of : (v w : ℕ) → 9259542123273814144 + 72340172838076673 * v - w ≡ (128 + v) * ones 8 - w
unfolding ones
word_of v w = omega arith

pub at_most_one-le : (v x : ℕ) → at_most_one v x ≤ 1
unfolding at_most_one
at_most_one-le v x = go (leb x v)
  where
    go : (t : Bool) → elim t [ true ↦ 1 | false ↦ 0 ] ≤ 1
    go true = omega arith
    go false = omega arith

-- ---- the lowest byte that is not 0

digits : ℕ → ℕ
digits zero = 0
digits (suc n) = suc (suc (suc (suc (suc (suc (suc (suc (digits n))))))))

trailing_even : (k n : ℕ) → n % 2 ≡ 0 → count_trailing_zeros (suc k) n ≡ suc (count_trailing_zeros k (n / 2))
unfolding count_trailing_zeros
trailing_even k n e = rw e

trailing_odd : (k n : ℕ) → n % 2 ≡ 1 → count_trailing_zeros (suc k) n ≡ 0
unfolding count_trailing_zeros
trailing_odd k n e = rw e

trailing-7 : (k n : ℕ) → n % 128 ≡ 0 → count_trailing_zeros (suc (suc (suc (suc (suc (suc (suc k))))))) n ≡ count_trailing_zeros k (n / 128) + 7
trailing-7 k n e =
    let d : n / 2 / 2 / 2 / 2 / 2 / 2 / 2 ≡ n / 128 = omega arith in
    omega (
      arith,
      trailing_even (suc (suc (suc (suc (suc (suc k)))))) n (omega arith),
      trailing_even (suc (suc (suc (suc (suc k))))) (n / 2) (omega arith),
      trailing_even (suc (suc (suc (suc k)))) (n / 2 / 2) (omega arith),
      trailing_even (suc (suc (suc k))) (n / 2 / 2 / 2) (omega arith),
      trailing_even (suc (suc k)) (n / 2 / 2 / 2 / 2) (omega arith),
      trailing_even (suc k) (n / 2 / 2 / 2 / 2 / 2) (omega arith),
      trailing_even k (n / 2 / 2 / 2 / 2 / 2 / 2) (omega arith),
      ap (count_trailing_zeros k) d,
    )

trailing-8 : (k n : ℕ) → n % 256 ≡ 0 → count_trailing_zeros (suc (suc (suc (suc (suc (suc (suc (suc k)))))))) n ≡ count_trailing_zeros k (n / 256) + 8
trailing-8 k n e =
    let d : n / 128 / 2 ≡ n / 256 = omega arith in
    omega (arith, trailing-7 (suc k) n (omega arith), trailing_even k (n / 128) (omega arith), ap (count_trailing_zeros k) d)

trailing-mark : (k n : ℕ) → n % 256 ≡ 128 → count_trailing_zeros (suc (suc (suc (suc (suc (suc (suc (suc k)))))))) n ≡ 7
trailing-mark k n e = omega (arith, trailing-7 (suc k) n (omega arith), trailing_odd k (n / 128) (omega arith))

first_of : (n w : ℕ) → Bytes n w → ((x : ℕ) → x < n → (lane x w ≡ 0) ⊎ (lane x w ≡ 128)) → (w ≡ 0 → ⊥) →
    (x : ℕ) × (count_trailing_zeros (digits n) w / 8 ≡ x) × (x < n) × (lane x w ≡ 128)
unfolding Bytes lane digits
first_of zero w b f ne = absurd (ne b)
first_of (suc n) w b f ne = go (first_of n (w / 256) b (λ x l. f (suc x) (omega arith))) (f 0 (omega arith))
  where
    go : ((w / 256 ≡ 0 → ⊥) → (x : ℕ) × (count_trailing_zeros (digits n) (w / 256) / 8 ≡ x) × (x < n) × (lane x (w / 256) ≡ 128)) →
        (w % 256 ≡ 0) ⊎ (w % 256 ≡ 128) → (x : ℕ) × (count_trailing_zeros (digits (suc n)) w / 8 ≡ x) × (x < suc n) × (lane x w ≡ 128)
    go ih (inl z) =
        let r = ih (λ y. ne (omega arith)) in
        (suc r.0, omega (arith, trailing-8 (digits n) w z, r.1), omega (arith, r.2), r.3)
    go ih (inr z) = (0, omega (arith, trailing-mark (digits n) w z), omega arith, z)

pub first_lane : (w : ℕ) → w < 2 ^ 64 → ((x : ℕ) → x < 8 → (lane x w ≡ 0) ⊎ (lane x w ≡ 128)) → (w ≡ 0 → ⊥) →
    (x : ℕ) × (count_trailing_zeros 64 w / 8 ≡ x) × (x < 8) × (lane x w ≡ 128)
unfolding digits
first_lane w b f ne = first_of 8 w (bytes_8 w b) f ne

-- ---- digits to base 16

pub sixteens : (j : ℕ) → 2 ^ (4 * j) ≡ 16 ^ j
sixteens zero = refl
sixteens (suc j) =
    let e : 4 * suc j ≡ 4 * j + 4 = omega arith in
    ap (λ (z : ℕ). 2 ^ z) e ∙ pow-add 2 (4 * j) 4 ∙ ap (λ (z : ℕ). z * 16) (sixteens j) ∙ sym (pow-suc 16 j)
