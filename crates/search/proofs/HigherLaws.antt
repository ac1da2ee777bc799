-- Laws of bytes of words.
--
--   lane-add, lane-sub  ==  words are added and subtracted byte by byte, where no byte carries or borrows
--   lane_and         ==  so are they joined by `and`
--   level-word-most  ==  such a word is at most 15 in every byte
--   none-higher      ==  what a test of two such words and a set of rows tells
use Rattle.std.proofs.Common.{◌≡◌, ℕ, zero, suc, ◌+◌, ◌-◌, ◌*◌, ◌/◌, ◌%◌, ◌^◌, ◌<◌, ◌≤◌, List, get_or, sym, ap, ◌∙◌, ap₂, not-suc-le-zero, arith}
use lib.Bits.{bit_and, and_block, and_mask, and_zero_r, and_shr, and_lt}
use Rattle.search.specs.RowSets.{lane, HasRow}
use Rattle.search.specs.ColumnLists.{LevelWords}
use Rattle.search.specs.Domination.{NoneHigher}

pub lane-add : (i a b : ℕ) → ((j : ℕ) → j ≤ i → lane j a + lane j b < 256) → lane i (a + b) ≡ lane i a + lane i b
unfolding lane
lane-add zero a b h = omega (arith, h 0 (omega arith))
lane-add (suc i) a b h =
    let e : (a + b) / 256 ≡ a / 256 + b / 256 = omega (arith, h 0 (omega arith)) in
    ap (lane i) e ∙ lane-add i (a / 256) (b / 256) (λ j l. h (suc j) (omega arith))

pub lane-sub : (i a b : ℕ) → b ≤ a → ((j : ℕ) → j ≤ i → lane j b ≤ lane j a) → lane i (a - b) ≡ lane i a - lane i b
unfolding lane
lane-sub zero a b l h = omega (arith, h 0 (omega arith))
lane-sub (suc i) a b l h =
    let e : (a - b) / 256 ≡ a / 256 - b / 256 = omega (arith, h 0 (omega arith)) in
    ap (lane i) e ∙ lane-sub i (a / 256) (b / 256) (omega arith) (λ j l. h (suc j) (omega arith))

pub lane_and : (x a b : ℕ) → lane x (bit_and a b) ≡ bit_and (lane x a) (lane x b)
unfolding lane
lane_and zero a b =
    let ea : a ≡ a / 256 * 2 ^ 8 + a % 256 = omega arith in
    let eb : b ≡ b / 256 * 2 ^ 8 + b % 256 = omega arith in
    let f : bit_and a b ≡ bit_and (a / 256) (b / 256) * 2 ^ 8 + bit_and (a % 256) (b % 256) = ap₂ bit_and ea eb ∙ and_block 8 (a / 256) (b / 256) (a % 256) (b % 256) (omega arith) (omega arith) in
    omega (arith, f, and_lt 8 (a % 256) (b % 256) (omega arith) (omega arith))
lane_and (suc x) a b = ap (lane x) (and_shr a b 8) ∙ lane_and x (a / 256) (b / 256)

-- the highest bit of a byte
high : (y : ℕ) → bit_and y 128 ≡ (y / 128) % 2 * 128
high y =
    let e : y ≡ y / 128 * 2 ^ 7 + y % 128 = omega arith in
    ap (λ (z : ℕ). bit_and z 128) e ∙ and_block 7 (y / 128) 1 (y % 128) 0 (omega arith) (omega arith)
    ∙ ap₂ (λ (p q : ℕ). p * 128 + q) (and_mask (y / 128) 1) (and_zero_r (y % 128)) ∙ last
  where
    last : (y / 128) % 2 * 128 + 0 ≡ (y / 128) % 2 * 128
    last = omega arith

-- ---- words of levels

ones : ℕ → ℕ
ones zero = 0
ones (suc n) = ones n * 256 + 1

Bytes : ℕ → ℕ → Type 0
Bytes zero w = w ≡ 0
Bytes (suc n) w = Bytes n (w / 256)

bytes_most : (n w : ℕ) → Bytes n w → ((x : ℕ) → x < n → lane x w ≤ 15) → w ≤ 15 * ones n
unfolding Bytes lane ones
bytes_most zero w h k = omega (arith, h)
bytes_most (suc n) w h k = omega (arith, bytes_most n (w / 256) h (λ x l. k (suc x) (omega arith)), k 0 (omega arith))

pub level-word-most : (w : List ℕ) → LevelWords w → (c : ℕ) → c < 16 → get_or w c 0 ≤ 1085102592571150095
unfolding LevelWords Bytes ones
level-word-most w h c c16 = bytes_most 8 (get_or w c 0) (bytes (get_or w c 0) (h c c16).0) (h c c16).1
  where
    bytes : (z : ℕ) → z < 2 ^ 64 → Bytes 8 z
    bytes z l = omega arith

-- 128 in each of n bytes
highs : ℕ → ℕ
highs zero = 0
highs (suc n) = highs n * 256 + 128

at-highs : (n x : ℕ) → x < n → lane x (highs n) ≡ 128
unfolding lane highs
at-highs zero x l = absurd (not-suc-le-zero l)
at-highs (suc n) zero l = omega arith
at-highs (suc n) (suc x) l = let e : (highs n * 256 + 128) / 256 ≡ highs n = omega arith in ap (lane x) e ∙ at-highs n x (omega arith)

high-bytes : (x : ℕ) → x < 8 → lane x 9259542123273814144 ≡ 128
unfolding highs
high-bytes x l = at-highs 8 x l

no-higher-byte : (c d : ℕ) → c ≤ 15 → d ≤ 15 → bit_and (128 + c - d) 128 ≡ 128 → d ≤ c
no-higher-byte c d c15 d15 e = omega (arith, sym (high (128 + c - d)) ∙ e)

pub none-higher : (w : List ℕ) (s c d : ℕ) → LevelWords w → c < 16 → d < 16 → bit_and (9259542123273814144 + get_or w c 0 - get_or w d 0) s ≡ s → NoneHigher w (HasRow s) c d
unfolding LevelWords NoneHigher HasRow
none-higher w s c d h c16 d16 e x row =
    no-higher-byte (lane x a) (lane x b) (small c c16 x row.0) (small d d16 x row.0)
    (sym (ap₂ bit_and (difference x row.0) row.1) ∙ sym (lane_and x (9259542123273814144 + a - b) s) ∙ ap (lane x) e ∙ row.1)
  where
    a : ℕ
    a = get_or w c 0

    b : ℕ
    b = get_or w d 0

    small : (i : ℕ) → i < 16 → (j : ℕ) → j < 8 → lane j (get_or w i 0) ≤ 15
    small i i16 j j8 = (h i i16).1 j j8

    sum : (j : ℕ) → j < 8 → lane j (9259542123273814144 + a) ≡ 128 + lane j a
    sum j j8 =
        lane-add j 9259542123273814144 a (λ i l. omega (arith, high-bytes i (omega arith), small c c16 i (omega arith)))
        ∙ ap (λ (z : ℕ). z + lane j a) (high-bytes j j8)

    difference : (j : ℕ) → j < 8 → lane j (9259542123273814144 + a - b) ≡ 128 + lane j a - lane j b
    difference j j8 =
        lane-sub j (9259542123273814144 + a) b (omega (arith, level-word-most w h d d16))
        (λ i l. omega (arith, sum i (omega arith), small d d16 i (omega arith)))
        ∙ ap (λ (z : ℕ). z - lane j b) (sum j j8)
