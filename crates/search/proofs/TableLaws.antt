-- The tables of a grid's cells as the loops fill them.
--
--   RunTo f p x        ==  x has 128 numbers, f i at each index i before p, and 0 from there on
--   run_none, run-next, run-skip  ==  at first, with a number more, and past numbers that are 0
--   level_at n g i      ==  what the table by rows has at index i
--   level-cell, level-past, row-past  ==  for a cell, and past column n
--   rows-table         ==  the table by rows at the end
--   level-whole        ==  what it has at an index, for 16 columns
--   ReadAs m n g rows width  ==  a grid of 16 columns is read as one row of all its cells, and any other as its m rows
--   read_none, read-next, read-done  ==  the table by rows at first, with a cell more, and with a row more
--   bit_at y v i        ==  what the table by bits has at index i
--   bit-cell           ==  for a cell
--   bits-table         ==  the table by bits at the end
--   word_to y k c       ==  the bytes of the last k rows in column c, as a word
--   words-none, word_next  ==  words at first, and with a byte more
--   columns-table      ==  the table by columns at the end
use Rattle.std.proofs.Common.{◌≡◌, ℕ, ◌⊎◌, inl, inr, zero, suc, ◌+◌, ◌-◌, ◌*◌, ◌/◌, ◌%◌, ◌^◌, ◌<◌, ◌≤◌, Bool, true, false, not, eqb, List, length, get_or, set, replicate, sym, ap, ◌∙◌, ap₂, not-suc-le-zero, mul-suc, arith, length-set, get_or-set_other, get_or-set_same, pow-add, shl_exact, eq-eqb, ne_eqb}
use native.Mathlib.Decide.{ℕ_discrete, dec_lt}
use lib.ListN.{length-replicate, get_or-replicate, get_or-eq_default}
use lib.Arith.{digits_lt}
use lib.Bits.{bit_or, or_shifted}
use mir.Val.{bool_byte}
use Rattle.grids.specs.Grids.{cell}
use Rattle.branches.specs.Keys.{level, bit, Small}
use Rattle.branches.proofs.LevelLaws.{level-most, level-same}
use Rattle.branches.proofs.BitLaws.{bit-low, bit_high}
use Rattle.search.specs.RowSets.{lane}
use Rattle.search.specs.Tables.{entry, ByRows, ByColumns, ByBits}
use Rattle.search.proofs.LoopLaws.{TurnedTo, inside, inside-before, inside_past}

-- ---- tables filled in order

pub record RunTo (f : ℕ → ℕ) (p : ℕ) (x : List ℕ) : Type 0 where
  pub size : length x ≡ 128
  pub before : (i : ℕ) → i < p → i < 128 → get_or x i 0 ≡ f i
  pub rest : (i : ℕ) → p ≤ i → i < 128 → get_or x i 0 ≡ 0

pub run_none : (f : ℕ → ℕ) (x : List ℕ) → x ≡ replicate 128 0 → RunTo f 0 x
run_none f x e = record {
  size = ap length e ∙ length-replicate {A = ℕ} 128 0;
  before = λ i b. absurd (not-suc-le-zero b);
  rest = λ i b ib. ap (λ (l : List ℕ). get_or l i 0) e ∙ get_or-replicate 128 i 0 0 ib;
}

module _ {f : ℕ → ℕ} {p : ℕ} {x : List ℕ} (h : RunTo f p x) where
  pub run-next : (v q : ℕ) → p < 128 → q ≡ suc p → v ≡ f p → RunTo f q (set x p v)
  run-next v q b qe e = record {
    size = length-set x p v ∙ h.size;
    before = λ i ip ib. go i ip ib (ℕ_discrete i p);
    rest = λ i ip ib. get_or-set_other x p i v 0 (omega arith) ∙ h.rest i (omega arith) ib;
  }
    where
      go : (i : ℕ) → i < q → i < 128 → Dec (i ≡ p) → get_or (set x p v) i 0 ≡ f i
      go i ip ib (yes y) = rw y (get_or-set_same x p v 0 (omega (arith, h.size)) ∙ e)
      go i ip ib (no y) = get_or-set_other x p i v 0 y ∙ h.before i (omega arith) ib

  pub run-skip : (q : ℕ) → p ≤ q → ((i : ℕ) → p ≤ i → i < q → f i ≡ 0) → RunTo f q x
  run-skip q pq none = record { size = h.size; before = λ i iq ib. go i iq ib (dec_lt i p); rest = λ i qi ib. h.rest i (omega arith) ib }
    where
      go : (i : ℕ) → i < q → i < 128 → Dec (i < p) → get_or x i 0 ≡ f i
      go i iq ib (yes y) = h.before i y ib
      go i iq ib (no y) = h.rest i (omega arith) ib ∙ sym (none i (omega arith) iq)

  run-most : (b : ℕ) → ((i : ℕ) → f i ≤ b) → (i : ℕ) → get_or x i 0 ≤ b
  run-most b small i = go (dec_lt i 128) (dec_lt i p)
    where
      go : Dec (i < 128) → Dec (i < p) → get_or x i 0 ≤ b
      go (yes y) (yes z) = omega (arith, h.before i z y, small i)
      go (yes y) (no z) = omega (arith, h.rest i (omega arith) y)
      go (no y) d = omega (arith, get_or-eq_default x 0 {n = i} (omega (arith, h.size)))

  run-zero : (i : ℕ) → i < 128 → f i ≡ 0 → get_or x i 0 ≡ 0
  run-zero i ib z = go (dec_lt i p)
    where
      go : Dec (i < p) → get_or x i 0 ≡ 0
      go (yes y) = h.before i y ib ∙ z
      go (no y) = h.rest i (omega arith) ib

-- ---- by rows

unfoldable pub level_at : ℕ → List ℕ → ℕ → ℕ
level_at n g i = inside (i % 16) n (level (cell n g (i / 16) (i % 16)))

module _ (n : ℕ) (g : List ℕ) where
  pub level-cell : (r c : ℕ) → c < n → n ≤ 16 → level_at n g (r * 16 + c) ≡ level (cell n g r c)
  unfolding level_at
  level-cell r c b n16 =
      inside-before _ _ _ (omega arith)
      ∙ ap₂ (λ (a d : ℕ). level (cell n g a d)) (omega arith) (omega arith)

  pub level-past : (r c : ℕ) → n ≤ c → c < 16 → level_at n g (r * 16 + c) ≡ 0
  unfolding level_at
  level-past r c b c16 = inside_past _ _ _ (omega arith)

  pub row-past : (r i : ℕ) → r * 16 + n ≤ i → i < r * 16 + 16 → level_at n g i ≡ 0
  row-past r i a b = ap (level_at n g) (omega arith) ∙ level-past r (i - r * 16) (omega arith) (omega arith)

  levels-small : (i : ℕ) → level_at n g i ≤ 15
  unfolding level_at
  levels-small i = go (dec_lt (i % 16) n)
    where
      go : Dec (i % 16 < n) → inside (i % 16) n (level (cell n g (i / 16) (i % 16))) ≤ 15
      go (yes y) = omega (arith, inside-before (i % 16) n (level (cell n g (i / 16) (i % 16))) y, level-most (cell n g (i / 16) (i % 16)))
      go (no y) = omega (arith, inside_past (i % 16) n (level (cell n g (i / 16) (i % 16))) (omega arith))

  pub rows-table : (m : ℕ) (x : List ℕ) → m ≤ 8 → n ≤ 16 → RunTo (level_at n g) (m * 16) x → ByRows m n g x
  rows-table m x m8 n16 h = record {
    size = h.size;
    small = run-most h 15 levels-small;
    holds = λ r c rm cn. h.before (r * 16 + c) (omega arith) (omega arith) ∙ level-cell r c cn n16;
    past = λ r c r8 nc c16. run-zero h (r * 16 + c) (omega arith) (level-past r c nc c16);
  }

pub level-whole : (g : List ℕ) (i : ℕ) → level (get_or g i 0) ≡ level_at 16 g i
unfolding level_at
level-whole g i =
    ap (λ (z : ℕ). level (get_or g z 0)) (omega arith)
    ∙ sym (inside-before (i % 16) 16 (level (cell 16 g (i / 16) (i % 16))) (omega arith))

abbrev pub ReadAs : ℕ → ℕ → List ℕ → ℕ → ℕ → Type 0
ReadAs m n g rows width = ((n ≡ 16) × (rows ≡ 1) × (width ≡ length g)) ⊎ ((rows ≡ m) × (width ≡ n))

module _ (m n : ℕ) (g : List ℕ) (rows width : ℕ) (x : List ℕ) (m8 : m ≤ 8) (n16 : n ≤ 16) (size : length g ≡ m * n) where
  pub read_none : ReadAs m n g rows width → x ≡ replicate 128 0 → 0 ≡ rows → RunTo (level_at n g) (m * 16) x
  read_none (inl h) e z = absurd (omega (arith, h.1))
  read_none (inr h) e z = let m0 : m ≡ 0 = omega (arith, h.0) in rw m0 (run_none _ x e)

  pub read-next : ReadAs m n g rows width → (i j v : ℕ) → i < rows → j < width → v ≡ level (get_or g (i * n + j) 0) → RunTo (level_at n g) (i * 16 + j) x →
      RunTo (level_at n g) (i * 16 + (j + 1)) (set x (i * 16 + j) v)
  read-next (inl h) i j v ir jw e t =
      let i0 : i ≡ 0 = omega (arith, h.1) in
      let long : length g ≡ m * 16 = rw (← h.0) size in
      let here : i * n + j ≡ i * 16 + j = rw i0 (omega arith) in
      let whole : v ≡ level_at n g (i * 16 + j) = e ∙ rw (here, h.0) (level-whole g (i * 16 + j)) in
      run-next t v _ (omega (arith, h.2)) (omega arith) whole
  read-next (inr h) i j v ir jw e t = run-next t v _ (omega (arith, h)) (omega arith) (e ∙ sym (level-cell n g i j (omega (arith, h)) n16))

  pub read-done : ReadAs m n g rows width → (i j : ℕ) → i < rows → j ≡ width → RunTo (level_at n g) (i * 16 + j) x →
      (i + 1 < rows → RunTo (level_at n g) ((i + 1) * 16) x) × (i + 1 ≡ rows → RunTo (level_at n g) (m * 16) x)
  read-done (inl h) i j ir jw t =
      let long : length g ≡ m * 16 = rw (← h.0) size in
      let there : m * 16 ≡ i * 16 + j = omega (arith, h.1, h.2) in
      (λ b. absurd (omega (arith, h.1)), λ e. rw there t)
  read-done (inr h) i j ir jw t =
      let done : RunTo (level_at n g) ((i + 1) * 16) x = run-skip t _ (omega (arith, h.1)) (λ k a b. row-past n g i k (omega (arith, h.1)) (omega arith)) in
      let last : i + 1 ≡ rows → m ≡ i + 1 = λ e. omega (arith, h.0) in
      (λ b. done, λ e. rw (last e) done)

-- ---- by bits

unfoldable pub bit_at : List ℕ → ℕ → ℕ → ℕ
bit_at y v i = bool_byte (not (eqb (entry y (i % 8) (i / 8)) v))

byte-most : (b : Bool) → bool_byte b ≤ 1
byte-most true = omega arith
byte-most false = omega arith

pub bit-cell : (y : List ℕ) (v r c : ℕ) → r < 8 → bool_byte (not (eqb (entry y r c) v)) ≡ bit_at y v (c * 8 + r)
unfolding bit_at
bit-cell y v r c r8 = ap₂ (λ (a b : ℕ). bool_byte (not (eqb (entry y a b) v))) (omega arith) (omega arith)

same_bit : (x low : ℕ) → x ≤ 15 → low ≤ 15 → bool_byte (not (eqb (level x) (level low))) ≡ bit low x
same_bit x low x15 low15 = go (ℕ_discrete x low)
  where
    go : Dec (x ≡ low) → bool_byte (not (eqb (level x) (level low))) ≡ bit low x
    go (yes e) = ap (λ (b : Bool). bool_byte (not b)) (eq-eqb (level x) (level low) (ap level e)) ∙ sym (bit-low low x e)
    go (no ne) = ap (λ (b : Bool). bool_byte (not b)) (ne_eqb (level x) (level low) (λ z. ne (level-same x low x15 low15 z))) ∙ sym (bit_high low x ne)

bits_small : (y : List ℕ) (v i : ℕ) → bit_at y v i ≤ 1
unfolding bit_at
bits_small y v i = byte-most (not (eqb (entry y (i % 8) (i / 8)) v))

pub bits-table : (m n : ℕ) (g : List ℕ) (low : ℕ) (y x : List ℕ) (v : ℕ) → m ≤ 8 → n ≤ 16 → length g ≡ m * n → Small g → low ≤ 15 → ByRows m n g y → v ≡ level low → RunTo (bit_at y v) (n * 8) x → ByBits m n g low x
unfolding Small
bits-table m n g low y x v m8 n16 size small low15 rows e h = record {
  bits = run-most h 1 (bits_small y v);
  holds = λ r c rm cn.
      h.before (c * 8 + r) (omega arith) (omega arith)
      ∙ sym (bit-cell y v r c (omega arith))
      ∙ ap₂ (λ (a b : ℕ). bool_byte (not (eqb a b))) (rows.holds r c rm cn) e
      ∙ same_bit (cell n g r c) low (small (r * n + c) (rw size (digits_lt rm cn))) low15;
  past = λ r c r8 nc c16. h.rest (c * 8 + r) (omega arith) (omega arith);
}

-- ---- by columns

unfoldable pub word_to : List ℕ → ℕ → ℕ → ℕ
word_to y zero c = 0
word_to y (suc k) c = word_to y k c * 256 + entry y (7 - k) c

module _ (y : List ℕ) (small : (i : ℕ) → get_or y i 0 ≤ 15) where
  word_fits : (k c : ℕ) → word_to y k c < 2 ^ (8 * k)
  unfolding word_to
  word_fits zero c = omega arith
  word_fits (suc k) c =
      let b : entry y (7 - k) c < 256 = omega (arith, small ((7 - k) * 16 + c)) in
      rw (mul-suc 8 k, pow-add 2 (8 * k) 8) (digits_lt (word_fits k c) b)

  pub word_next : (k c r w : ℕ) → k < 8 → r ≡ 7 - k → w ≡ word_to y k c → bit_or ((w * 2 ^ 8) % 2 ^ 64) (entry y r c) ≡ word_to y (suc k) c
  unfolding word_to
  word_next k c r w k8 re we =
      ap₂ (λ (z t : ℕ). bit_or ((z * 2 ^ 8) % 2 ^ 64) (entry y t c)) we re
      ∙ ap (λ (z : ℕ). bit_or z (entry y (7 - k) c)) (shl_exact (8 * k) 8 64 (word_fits k c) (omega arith))
      ∙ or_shifted (word_to y k c) 8 (entry y (7 - k) c) (omega (arith, small ((7 - k) * 16 + c)))

  word_lane : (k s c : ℕ) → s < k → k ≤ 8 → lane s (word_to y k c) ≡ entry y ((8 - k) + s) c
  unfolding word_to lane
  word_lane zero s c b k8 = absurd (not-suc-le-zero b)
  word_lane (suc k) zero c b k8 =
      let e : (8 - suc k) + 0 ≡ 7 - k = omega arith in
      rw e (omega (arith, small ((7 - k) * 16 + c)))
  word_lane (suc k) (suc s) c b k8 =
      ap (lane s) (omega (arith, small ((7 - k) * 16 + c)))
      ∙ word_lane k s c (omega arith) (omega arith)
      ∙ ap (λ (z : ℕ). entry y z c) (omega arith)

  pub columns-table : (w : List ℕ) → TurnedTo 16 (word_to y) 8 0 w → ByColumns y w
  columns-table w h = record {
    size = h.size;
    bytes = λ c. fits c (dec_lt c 16);
    holds = λ r c r8 c16. ap (lane r) (h.todo c (omega arith) c16) ∙ word_lane 8 r c r8 (omega arith) ∙ ap (λ (z : ℕ). entry y z c) (omega arith);
  }
    where
      fits : (c : ℕ) → Dec (c < 16) → get_or w c 0 < 2 ^ 64
      fits c (yes b) = omega (arith, h.todo c (omega arith) b, word_fits 8 c)
      fits c (no b) = omega (arith, get_or-eq_default w 0 {n = c} (omega (arith, h.size)))

pub words-none : (y out : List ℕ) → out ≡ replicate 16 0 → TurnedTo 16 (word_to y) 0 0 out
unfolding word_to
words-none y out e = record {
  size = ap length e ∙ length-replicate {A = ℕ} 16 0;
  done = λ x b. absurd (not-suc-le-zero b);
  todo = λ x b xw. ap (λ (l : List ℕ). get_or l x 0) e ∙ get_or-replicate 16 x 0 0 xw;
}
