-- Laws of sets of rows.
--
--   none-set, none_has, has-none, none_from  ==  0 is the set of no rows, so that it has the rows of no positions
--   first-set, first-has      ==  the first m rows
--   only_set, only-has        ==  one row
--   both-set, both-has        ==  the rows of two sets
--   with-set, with-has        ==  a row more
--   without-set, without-has  ==  a row less
--   kept_set, kept-has        ==  the rows of a set with a count above i
--   tells_row       ==  a shift and a mask tell whether a row is of a set
--   first-row       ==  the zeros below the lowest digit tell a row of the set
--   row_within      ==  a row of a set is below 8
--   row-found, none-of-zero  ==  a word that is not 0 has a row, and 0 has none
--   lone_row        ==  a word that has no digit in common with the number before has one row
--   kept-fits       ==  the sum of the counts and what is added to each stays within a word
use Rattle.std.proofs.Common.{◌≡◌, ℕ, zero, suc, ◌+◌, ◌-◌, ◌*◌, ◌/◌, ◌%◌, ◌^◌, ◌<◌, ◌≤◌, eqb, ◌⊎◌, ◌↔◌, List, sym, refl, ap, ◌∙◌, ap₂, inl, inr, not-suc-le-zero, arith, shl_exact, eqb-true}
use native.Mathlib.Decide.{ℕ_discrete, dec_lt}
use borrow.Author.Tests.{eqb-false}
use lib.Count.{count_trailing_zeros}
use lib.Pow.{shr_le}
use lib.Bits.{bit_and, bit_or, and_block, and_mask, and_zero_l, and_zero_r, and_self, or_zero_l, or_zero_r, or_self, or_lt, and_le_l, and_le_r}
use Rattle.search.specs.RowSets.{lane, IsRowSet, HasRow, RowsFrom, Tells}
use Rattle.search.proofs.LaneLaws.{ones, bytes_8, lane-zero, lane-add, lane-sub, lane_and, lane_or, lane-shift, lane-drop, lane_past, lane-at, lane-off, lane-found, lanes-le, spread-lane, first_lane}

-- the byte l is 128 if P, and 0 if not
abbrev Byte : Type 0 → ℕ → Type 0
Byte P l = ((l ≡ 0) × (P → ⊥)) ⊎ ((l ≡ 128) × P)

module _ (r : ℕ) (P : ℕ → Type 0) (byte : (x : ℕ) → x < 8 → Byte (P x) (lane x r)) where
  set-of : r < 2 ^ 64 → IsRowSet r
  set-of b = record { bytes = b; flags = λ x l. go x (byte x l) }
    where
      go : (x : ℕ) → Byte (P x) (lane x r) → (lane x r ≡ 0) ⊎ (lane x r ≡ 128)
      go x (inl a) = inl a.0
      go x (inr a) = inr a.0

  has_of : ((x : ℕ) → P x → x < 8) → (x : ℕ) → HasRow r x ↔ P x
  unfolding HasRow
  has_of within x = (λ a. to a.1 (byte x a.0), λ a. (within x a, from a (byte x (within x a))))
    where
      to : lane x r ≡ 128 → Byte (P x) (lane x r) → P x
      to z (inl a) = absurd (omega (arith, a.0))
      to z (inr a) = a.1

      from : P x → Byte (P x) (lane x r) → lane x r ≡ 128
      from p (inl a) = absurd (a.1 p)
      from p (inr a) = a.0

-- the bytes of a set
row-byte : (s x : ℕ) → IsRowSet s → x < 8 → Byte (HasRow s x) (lane x s)
unfolding HasRow
row-byte s x h l = go (h.flags x l)
  where
    go : (lane x s ≡ 0) ⊎ (lane x s ≡ 128) → Byte ((x < 8) × (lane x s ≡ 128)) (lane x s)
    go (inl z) = inl (z, λ a. omega (arith, a.1))
    go (inr z) = inr (z, (l, z))

pub row_within : (s x : ℕ) → HasRow s x → x < 8
unfolding HasRow
row_within s x a = a.0

byte-iff : (P Q : Type 0) (l : ℕ) → P ↔ Q → Byte P l → Byte Q l
byte-iff P Q l e (inl a) = inl (a.0, λ q. a.1 (e.1 q))
byte-iff P Q l e (inr a) = inr (a.0, e.0 a.1)

byte-same : (P : Type 0) (l k : ℕ) → k ≡ l → Byte P l → Byte P k
byte-same P l k e (inl a) = inl (e ∙ a.0, a.1)
byte-same P l k e (inr a) = inr (e ∙ a.0, a.1)

-- ---- no rows, the first rows, one row

no_rows : (m x : ℕ) → m ≡ 0 → Byte (x < m) (lane x 0)
no_rows m x e = inl (lane-zero x, λ a. omega arith)

first-rows-byte : (m x : ℕ) → m ≤ 8 → x < 8 → Byte (x < m) (lane x (9259542123273814144 / 2 ^ (64 - 8 * m)))
unfolding ones
first-rows-byte m x h l = go (dec_lt x m)
  where
    e : lane x (9259542123273814144 / 2 ^ (64 - 8 * m)) ≡ lane (8 - m + x) 9259542123273814144
    e = let d : 64 - 8 * m ≡ 8 * (8 - m) = omega arith in ap (λ (z : ℕ). lane x (9259542123273814144 / 2 ^ z)) d ∙ lane-drop (8 - m) x 9259542123273814144

    go : Dec (x < m) → Byte (x < m) (lane x (9259542123273814144 / 2 ^ (64 - 8 * m)))
    go (yes a) = inr (e ∙ spread-lane 8 128 (8 - m + x) (omega arith) (omega arith), a)
    go (no a) = inl (e ∙ lane_past 8 9259542123273814144 (8 - m + x) (bytes_8 9259542123273814144 (omega arith)) (omega arith), a)

only-byte : (k x : ℕ) → Byte (x ≡ k) (lane x (128 * 2 ^ (8 * k)))
only-byte k x = go (ℕ_discrete x k)
  where
    go : Dec (x ≡ k) → Byte (x ≡ k) (lane x (128 * 2 ^ (8 * k)))
    go (yes e) = inr (ap (λ (z : ℕ). lane z (128 * 2 ^ (8 * k))) e ∙ lane-at k 128 (omega arith), e)
    go (no ne) = inl (lane-off k x 128 (omega arith) ne, ne)

pub none-set : IsRowSet 0
none-set = set-of 0 (λ x. x < 0) (λ x l. no_rows 0 x refl) (omega arith)

pub none_has : (m x : ℕ) → m ≡ 0 → HasRow 0 x ↔ (x < m)
none_has m x e = has_of 0 (λ x. x < m) (λ x l. no_rows m x e) (λ x l. omega arith) x

pub has-none : (r : ℕ) → HasRow 0 r → ⊥
has-none r h = absurd (not-suc-le-zero ((none_has 0 r refl).0 h))

pub none_from : (k : ℕ) (p : List ℕ) → RowsFrom k k p 0
none_from k p = record { set = none-set; has = λ t kt tk. absurd (omega arith); only = λ r h. absurd (has-none r h) }

module _ (m : ℕ) (h : m ≤ 8) where
  pub first-set : IsRowSet (9259542123273814144 / 2 ^ (64 - 8 * m))
  first-set = set-of _ (λ x. x < m) (λ x l. first-rows-byte m x h l) (omega (arith, shr_le 9259542123273814144 (64 - 8 * m)))

  pub first-has : (x : ℕ) → HasRow (9259542123273814144 / 2 ^ (64 - 8 * m)) x ↔ (x < m)
  first-has = has_of _ (λ x. x < m) (λ x l. first-rows-byte m x h l) (λ x l. omega arith)

module _ (k : ℕ) (h : k < 8) where
  exact : 128 * 2 ^ (8 * k) % 2 ^ 64 ≡ 128 * 2 ^ (8 * k)
  exact = shl_exact 8 (8 * k) 64 (omega arith) (omega arith)

  byte : (x : ℕ) → x < 8 → Byte (x ≡ k) (lane x (128 * 2 ^ (8 * k) % 2 ^ 64))
  byte x l = byte-same (x ≡ k) _ _ (ap (lane x) exact) (only-byte k x)

  pub only_set : IsRowSet (128 * 2 ^ (8 * k) % 2 ^ 64)
  only_set = set-of _ (λ x. x ≡ k) byte (omega arith)

  pub only-has : (x : ℕ) → HasRow (128 * 2 ^ (8 * k) % 2 ^ 64) x ↔ (x ≡ k)
  only-has = has_of _ (λ x. x ≡ k) byte (λ x e. omega arith)

-- ---- of two sets

union-byte : (P Q : Type 0) (a b : ℕ) → Byte P a → Byte Q b → Byte (P ⊎ Q) (bit_or a b)
union-byte P Q a b (inl p) (inl q) = inl (ap₂ bit_or p.0 q.0, none)
  where
    none : P ⊎ Q → ⊥
    none (inl x) = p.1 x
    none (inr x) = q.1 x
union-byte P Q a b (inl p) (inr q) = inr (ap₂ bit_or p.0 q.0 ∙ or_zero_l 128, inr q.1)
union-byte P Q a b (inr p) (inl q) = inr (ap₂ bit_or p.0 q.0 ∙ or_zero_r 128, inl p.1)
union-byte P Q a b (inr p) (inr q) = inr (ap₂ bit_or p.0 q.0 ∙ or_self 128, inl p.1)

common-byte : (P Q : Type 0) (a b : ℕ) → Byte P a → Byte Q b → Byte (P × Q) (bit_and a b)
common-byte P Q a b (inl p) q = inl (ap (λ (z : ℕ). bit_and z b) p.0 ∙ and_zero_l b, λ x. p.1 x.0)
common-byte P Q a b (inr p) (inl q) = inl (ap (bit_and a) q.0 ∙ and_zero_r a, λ x. q.1 x.1)
common-byte P Q a b (inr p) (inr q) = inr (ap₂ bit_and p.0 q.0 ∙ and_self 128, (p.1, q.1))

less-byte : (P Q : Type 0) (a b : ℕ) → Byte P a → Byte Q b → Byte (P × (Q → ⊥)) (a - bit_and a b)
less-byte P Q a b (inl p) q = inl (omega (arith, p.0), λ x. p.1 x.0)
less-byte P Q a b (inr p) (inl q) =
    let e : bit_and a b ≡ 0 = ap (bit_and a) q.0 ∙ and_zero_r a in inr (omega (arith, p.0), (p.1, q.1))
less-byte P Q a b (inr p) (inr q) =
    let e : bit_and a b ≡ 128 = ap₂ bit_and p.0 q.0 ∙ and_self 128 in inl (omega (arith, p.0), λ x. x.1 q.1)

both-byte : (a b x : ℕ) → IsRowSet a → IsRowSet b → x < 8 → Byte (HasRow a x × HasRow b x) (lane x (bit_and a b))
both-byte a b x f g l = byte-same _ _ _ (lane_and x a b) (common-byte (HasRow a x) (HasRow b x) (lane x a) (lane x b) (row-byte a x f l) (row-byte b x g l))

module _ (a b : ℕ) (f : IsRowSet a) (g : IsRowSet b) where
  pub both-set : IsRowSet (bit_and a b)
  both-set = set-of _ (λ x. HasRow a x × HasRow b x) (λ x l. both-byte a b x f g l) (omega (arith, and_le_l a b, f.bytes))

  pub both-has : (x : ℕ) → HasRow (bit_and a b) x ↔ (HasRow a x × HasRow b x)
  both-has = has_of _ (λ x. HasRow a x × HasRow b x) (λ x l. both-byte a b x f g l) (λ x h. row_within a x h.0)

module _ (a o k x : ℕ) (f : IsRowSet a) (g : IsRowSet o) (e : HasRow o x ↔ (x ≡ k)) (l : x < 8) where
  one : Byte (x ≡ k) (lane x o)
  one = byte-iff (HasRow o x) (x ≡ k) (lane x o) e (row-byte o x g l)

  with_byte : Byte (HasRow a x ⊎ (x ≡ k)) (lane x (bit_or a o))
  with_byte = byte-same _ _ _ (lane_or x a o) (union-byte (HasRow a x) (x ≡ k) (lane x a) (lane x o) (row-byte a x f l) one)

  without-byte : Byte (HasRow a x × (x ≡ k → ⊥)) (lane x (a - bit_and a o))
  without-byte =
      byte-same _ _ _
      (lane-sub x a (bit_and a o) (and_le_l a o) (λ j b. rw (lane_and j a o) (and_le_l (lane j a) (lane j o))) ∙ ap (λ (z : ℕ). lane x a - z) (lane_and x a o))
      (less-byte (HasRow a x) (x ≡ k) (lane x a) (lane x o) (row-byte a x f l) one)

module _ (a o k : ℕ) (kl : k < 8) (f : IsRowSet a) (g : IsRowSet o) (e : (x : ℕ) → HasRow o x ↔ (x ≡ k)) where
  pub with-set : IsRowSet (bit_or a o)
  with-set = set-of _ (λ x. HasRow a x ⊎ (x ≡ k)) (λ x l. with_byte a o k x f g (e x) l) (or_lt 64 a o f.bytes g.bytes)

  pub with-has : (x : ℕ) → HasRow (bit_or a o) x ↔ (HasRow a x ⊎ (x ≡ k))
  with-has = has_of _ (λ x. HasRow a x ⊎ (x ≡ k)) (λ x l. with_byte a o k x f g (e x) l) within
    where
      within : (x : ℕ) → HasRow a x ⊎ (x ≡ k) → x < 8
      within x (inl h) = row_within a x h
      within x (inr h) = omega arith

  pub without-set : IsRowSet (a - bit_and a o)
  without-set = set-of _ (λ x. HasRow a x × (x ≡ k → ⊥)) (λ x l. without-byte a o k x f g (e x) l) (omega (arith, f.bytes))

  pub without-has : (x : ℕ) → HasRow (a - bit_and a o) x ↔ (HasRow a x × (x ≡ k → ⊥))
  without-has = has_of _ (λ x. HasRow a x × (x ≡ k → ⊥)) (λ x l. without-byte a o k x f g (e x) l) (λ x h. row_within a x h.0)

-- ---- rows told

pub tells_row : (s k : ℕ) → k < 8 → Tells (eqb (bit_and (s / 2 ^ (8 * k)) 255) 128) (HasRow s k)
unfolding HasRow
tells_row s k l = record {
  yes = λ e. (l, same ∙ eqb-true _ _ e);
  no = λ e a. eqb-false _ _ e (sym same ∙ a.1);
}
  where
    same : lane k s ≡ bit_and (s / 2 ^ (8 * k)) 255
    same = lane-shift k s ∙ sym (and_mask (s / 2 ^ (8 * k)) 8)

pub first-row : (w : ℕ) → IsRowSet w → (w ≡ 0 → ⊥) → HasRow w (count_trailing_zeros 64 w / 8)
unfolding HasRow
first-row w f ne =
    let r = first_lane w f.bytes f.flags ne in
    (omega (arith, r.1, r.2), ap (λ (z : ℕ). lane z w) r.1 ∙ r.3)

pub row-found : (w : ℕ) → IsRowSet w → (w ≡ 0 → ⊥) → (x : ℕ) × HasRow w x
unfolding HasRow
row-found w f ne = let r = lane-found 8 w (bytes_8 w f.bytes) ne in (r.0, (r.1, go r.0 r.2 (f.flags r.0 r.1)))
  where
    go : (x : ℕ) → (lane x w ≡ 0 → ⊥) → (lane x w ≡ 0) ⊎ (lane x w ≡ 128) → lane x w ≡ 128
    go x a (inl z) = absurd (a z)
    go x a (inr z) = z

pub none-of-zero : (w x : ℕ) → w ≡ 0 → HasRow w x → ⊥
unfolding HasRow
none-of-zero w x e m = let z : lane x w ≡ 0 = ap (lane x) e ∙ lane-zero x in omega (arith, m.1)

-- ---- one row alone

lone-byte : (w : ℕ) → (w % 256 ≡ 0) ⊎ (w % 256 ≡ 128) → (w ≡ 0 → ⊥) → bit_and w (w - 1) ≡ 0 →
    ((w % 256 ≡ 0) × (w / 256 ≡ 0 → ⊥) × (bit_and (w / 256) (w / 256 - 1) ≡ 0)) ⊎ ((w % 256 ≡ 128) × (w / 256 ≡ 0))
lone-byte w (inl z) ne e =
    let a : w ≡ w / 256 * 2 ^ 8 + 0 = omega (arith, z) in
    let b : w - 1 ≡ (w / 256 - 1) * 2 ^ 8 + 255 = omega (arith, z, ne) in
    let f : bit_and w (w - 1) ≡ bit_and (w / 256) (w / 256 - 1) * 2 ^ 8 + bit_and 0 255 = ap₂ bit_and a b ∙ and_block 8 (w / 256) (w / 256 - 1) 0 255 (omega arith) (omega arith) in
    inl (z, (λ y. ne (omega (arith, z))), omega (arith, f, e))
lone-byte w (inr z) ne e =
    let a : w ≡ w / 256 * 2 ^ 8 + 128 = omega (arith, z) in
    let b : w - 1 ≡ w / 256 * 2 ^ 8 + 127 = omega (arith, z) in
    let f : bit_and w (w - 1) ≡ bit_and (w / 256) (w / 256) * 2 ^ 8 + bit_and 128 127 = ap₂ bit_and a b ∙ and_block 8 (w / 256) (w / 256) 128 127 (omega arith) (omega arith) in
    inr (z, omega (arith, f, e, and_self (w / 256)))

abbrev Lanes : ℕ → ℕ → Type 0
Lanes n w = (x : ℕ) → x < n → (lane x w ≡ 0) ⊎ (lane x w ≡ 128)

lone-lane : (n w : ℕ) → Lanes n w → (w ≡ 0 → ⊥) → bit_and w (w - 1) ≡ 0 → (x y : ℕ) → x < n → y < n → lane x w ≡ 128 → lane y w ≡ 128 → x ≡ y
unfolding lane
lone-lane zero w f ne e x y xn yn a b = absurd (not-suc-le-zero xn)
lone-lane (suc n) w f ne e x y xn yn a b = go (lone-lane n (w / 256) (λ j l. f (suc j) (omega arith))) (lone-byte w (f 0 (omega arith)) ne e) x y xn yn a b
  where
    none : (j : ℕ) → w / 256 ≡ 0 → lane j (w / 256) ≡ 128 → ⊥
    none j z h = let k : lane j (w / 256) ≡ 0 = ap (lane j) z ∙ lane-zero j in omega (arith, k, h)

    go : ((w / 256 ≡ 0 → ⊥) → bit_and (w / 256) (w / 256 - 1) ≡ 0 → (x y : ℕ) → x < n → y < n → lane x (w / 256) ≡ 128 → lane y (w / 256) ≡ 128 → x ≡ y) →
        ((w % 256 ≡ 0) × (w / 256 ≡ 0 → ⊥) × (bit_and (w / 256) (w / 256 - 1) ≡ 0)) ⊎ ((w % 256 ≡ 128) × (w / 256 ≡ 0)) →
        (x y : ℕ) → x < suc n → y < suc n → lane x w ≡ 128 → lane y w ≡ 128 → x ≡ y
    go ih s zero zero xn yn a b = refl
    go ih (inl s) zero (suc y) xn yn a b = absurd (omega (arith, s.0, a))
    go ih (inl s) (suc x) zero xn yn a b = absurd (omega (arith, s.0, b))
    go ih (inl s) (suc x) (suc y) xn yn a b = ap suc (ih s.1 s.2 x y (omega arith) (omega arith) a b)
    go ih (inr s) zero (suc y) xn yn a b = absurd (none y s.1 b)
    go ih (inr s) (suc x) y xn yn a b = absurd (none x s.1 a)

pub lone_row : (w : ℕ) → IsRowSet w → (w ≡ 0 → ⊥) → bit_and w (w - 1) ≡ 0 → (x y : ℕ) → HasRow w x → HasRow w y → x ≡ y
unfolding HasRow
lone_row w f ne e x y a b = lone-lane 8 w f.flags ne e x y a.0 b.0 a.1 b.1

-- ---- rows kept by their counts

pub kept-fits : (count i : ℕ) → count < 2 ^ 64 → ((x : ℕ) → x < 8 → lane x count ≤ 16) → count + 72340172838076673 * (127 - i) < 2 ^ 64
unfolding ones
kept-fits count i b h = omega (arith, lanes-le 8 16 count (bytes_8 count b) h)

high : (y : ℕ) → bit_and y 128 ≡ (y / 128) % 2 * 128
high y =
    let e : y ≡ y / 128 * 2 ^ 7 + y % 128 = omega arith in
    ap (λ (z : ℕ). bit_and z 128) e ∙ and_block 7 (y / 128) 1 (y % 128) 0 (omega arith) (omega arith)
    ∙ ap₂ (λ (p q : ℕ). p * 128 + q) (and_mask (y / 128) 1) (and_zero_r (y % 128)) ∙ last
  where
    last : (y / 128) % 2 * 128 + 0 ≡ (y / 128) % 2 * 128
    last = omega arith

above-byte : (P : Type 0) (i n l : ℕ) → i < 16 → n ≤ 16 → Byte P l → Byte (P × (i < n)) (bit_and (n + (127 - i)) l)
above-byte P i n l hi hn (inl p) = inl (ap (bit_and (n + (127 - i))) p.0 ∙ and_zero_r (n + (127 - i)), λ a. p.1 a.0)
above-byte P i n l hi hn (inr p) = go (dec_lt i n)
  where
    f : bit_and (n + (127 - i)) l ≡ (n + (127 - i)) / 128 % 2 * 128
    f = ap (bit_and (n + (127 - i))) p.0 ∙ high (n + (127 - i))

    go : Dec (i < n) → Byte (P × (i < n)) (bit_and (n + (127 - i)) l)
    go (yes a) = inr (omega (arith, f), (p.1, a))
    go (no a) = inl (omega (arith, f), λ b. a b.1)

kept_byte : (count i left x : ℕ) → i < 16 → ((j : ℕ) → j < 8 → lane j count ≤ 16) → IsRowSet left → x < 8 →
    Byte (HasRow left x × (i < lane x count)) (lane x (bit_and (count + 72340172838076673 * (127 - i)) left))
unfolding ones
kept_byte count i left x hi hn f l =
    byte-same _ _ _
    (lane_and x (count + 72340172838076673 * (127 - i)) left
    ∙ ap (λ (z : ℕ). bit_and z (lane x left))
    (lane-add x count (72340172838076673 * (127 - i))
    (λ j b. omega (arith, hn j (omega arith), spread-lane 8 (127 - i) j (omega arith) (omega arith)))
    ∙ ap (λ (z : ℕ). lane x count + z) (spread-lane 8 (127 - i) x (omega arith) l)))
    (above-byte (HasRow left x) i (lane x count) (lane x left) hi (hn x l) (row-byte left x f l))

module _ (count i left : ℕ) (hi : i < 16) (hn : (j : ℕ) → j < 8 → lane j count ≤ 16) (f : IsRowSet left) where
  pub kept_set : IsRowSet (bit_and (count + 72340172838076673 * (127 - i)) left)
  kept_set =
      set-of _ (λ x. HasRow left x × (i < lane x count)) (λ x l. kept_byte count i left x hi hn f l)
      (omega (arith, and_le_r (count + 72340172838076673 * (127 - i)) left, f.bytes))

  pub kept-has : (x : ℕ) → HasRow (bit_and (count + 72340172838076673 * (127 - i)) left) x ↔ (HasRow left x × (i < lane x count))
  kept-has = has_of _ (λ x. HasRow left x × (i < lane x count)) (λ x l. kept_byte count i left x hi hn f l) (λ x h. row_within left x h.0)
