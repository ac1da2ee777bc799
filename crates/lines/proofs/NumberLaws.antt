-- Numbers read and written byte by byte.
--
--   digit-space, digit-other  ==  what a space, and any other byte, does to the number before it
--   ReadTo s k x              ==  x is the number that the first k bytes of s state
--   read-none, read-room, read-next, read-all  ==  no byte; a digit more has room; a byte more; all of them
--   lent w at b, length-lent  ==  the w bytes from a place on; how many they are
--   number-lent               ==  the number that they state, as read from them
--   no_field                  ==  a field without a place
--   lead-none, lead-some      ==  the last place of a number of which nothing is left, and of another
--   Written x w k y o         ==  the field of x, w wide, is written into o from place k on; y is what is left of x before k
--   written_last, written_next, written_all  ==  its last digit is written; one digit more; all of them
use Rattle.std.proofs.Common.{◌≡◌, ℕ, zero, suc, ◌+◌, ◌-◌, ◌*◌, ◌/◌, ◌%◌, ◌^◌, ◌<◌, ◌≤◌, List, [], ◌∷◌, ◌++◌, length, get_or, take, drop, set, sym, refl, ap, ◌∙◌, append_assoc, arith, length-set, drop_of_length-le, drop-cons, get_or-set_same, drop-set-lt, take-suc, take_all, add-one, ne_eqb, length-drop, length-take-le}
use Rattle.std.proofs.Math.Nat.{pow-suc, pow-le-pow_right, mul-le-mul_left}
use Rattle.std.proofs.lemmas.Nat.{pow-add}
use Rattle.layout.specs.Decimal.{lead, field, digit, value_from, value}
use Rattle.layout.specs.Layout.{number_at}
use Rattle.layout.proofs.DecimalLaws.{value-append}

pub digit-space : (acc b : ℕ) → b ≡ 32 → acc ≡ digit acc b
unfolding digit
digit-space acc b e = rw e

pub digit-other : (acc b x : ℕ) → (b ≡ 32 → ⊥) → x ≡ acc * 10 + (b - 48) → x ≡ digit acc b
unfolding digit
digit-other acc b x n e = rw (ne_eqb b 32 n, digit) e

pub record ReadTo (s : List ℕ) (k x : ℕ) : Type 0 where
  pub value-is : x ≡ value (take k s)
  pub small : x + 23 ≤ 23 * 10 ^ k

pub read-none : (s : List ℕ) → ReadTo s 0 0
unfolding value value_from
read-none s = record { value-is = refl; small = omega arith }

pub read-room : {s : List ℕ} {k x : ℕ} → ReadTo s k x → k < length s → length s ≤ 6 → x ≤ 10000000
read-room {s} {k} {x} r h b =
    let p : 10 ^ k ≤ 10 ^ 5 = pow-le-pow_right (omega arith) {i = k} {j = 5} (omega arith) in
    omega (arith, r.small, mul-le-mul_left 23 p)

pub read-next : {s : List ℕ} {k x : ℕ} (y : ℕ) → ReadTo s k x → k < length s → y ≡ digit x (get_or s k 0) → y ≤ x * 10 + 207 → ReadTo s (k + 1) y
unfolding value value_from
read-next {s} {k} {x} y r h e b = record {
  value-is = e ∙ ap (λ (z : ℕ). digit z (get_or s k 0)) r.value-is ∙ rw (add-one, take-suc s k 0 h) (sym (value-append 0 (take k s) (get_or s k 0 ∷ [])));
  small = let p = pow-suc 10 k in rw add-one (omega (arith, r.small));
}

pub read-all : {s : List ℕ} {k x : ℕ} → ReadTo s k x → k ≡ length s → (x ≡ value s) × (x < 10 ^ (length s + 2))
read-all {s} {k} {x} r h =
    (r.value-is ∙ rw (take_all k s (omega arith)), let e : 10 ^ (k + 2) ≡ 10 ^ k * 100 = pow-add 10 k 2 in rw (← h) (omega (arith, r.small)))

-- the bytes of a field, lent
abbrev pub lent : ℕ → ℕ → List ℕ → List ℕ
lent w at b = take (at + w - at) (drop at b)

pub length-lent : (w at : ℕ) (b : List ℕ) → at + w ≤ length b → length (lent w at b) ≡ w
length-lent w at b h =
    let z : at + w - at ≡ w = omega arith in
    rw z (length-take-le w (drop at b) (omega (arith, length-drop at b)))

pub number-lent : (w at : ℕ) (b : List ℕ) {x : ℕ} → at + w ≤ length b → (x ≡ value (lent w at b)) × (x < 10 ^ (length (lent w at b) + 2)) → (x ≡ number_at w at b) × (x < 10 ^ (w + 2))
unfolding number_at
number-lent w at b h r =
    let z : at + w - at ≡ w = omega arith in
    (r.0 ∙ ap (λ (n : ℕ). value (take n (drop at b))) z, rw (length-lent w at b h) at r.1)

pub no_field : (l : List ℕ) (x : ℕ) → length l ≡ 0 → l ≡ field (length l) x
unfolding field
no_field [] x h = refl
no_field (y ∷ l) x h = absurd (omega arith)

-- ---- a number is written

pub lead-none : (x : ℕ) → x ≡ 0 → lead 1 x ≡ 32 ∷ []
unfolding lead
lead-none x e = rw e

pub lead-some : (x : ℕ) → (x ≡ 0 → ⊥) → lead 1 x ≡ (48 + x % 10) ∷ []
unfolding lead
lead-some zero n = absurd (n refl)
lead-some (suc x) n = refl

-- one place more, by its last byte
lead-next : (w x b : ℕ) → lead 1 x ≡ b ∷ [] → lead (suc w) x ≡ lead w (x / 10) ++ (b ∷ [])
unfolding lead
lead-next w zero b e = ap (λ (s : List ℕ). lead w zero ++ s) e
lead-next w (suc x) b e = ap (λ (s : List ℕ). lead w (suc x / 10) ++ s) e

pub record Written (x w k y : ℕ) (o : List ℕ) : Type 0 where
  pub size : length o ≡ w
  pub within : k ≤ w
  pub digits : lead k y ++ drop k o ≡ field w x

-- a byte is stored where a list is dropped to
stored : (l : List ℕ) (k b : ℕ) → k < length l → drop k (set l k b) ≡ b ∷ drop (suc k) l
stored l k b h =
    drop-cons (set l k b) k 0 (omega (arith, length-set l k b))
    ∙ rw (get_or-set_same l k b 0 h, drop-set-lt (suc k) l k b (omega arith))

pub written_last : (x w : ℕ) (l : List ℕ) (k : ℕ) → length l ≡ k + 1 → w ≡ k + 1 → Written x w k (x / 10) (set l k (48 + x % 10))
unfolding field
written_last x w l k h e = record {
  size = omega (arith, length-set l k (48 + x % 10));
  within = omega arith;
  digits =
      let q : w ≡ suc k = omega arith in
      rw (stored l k (48 + x % 10) (omega arith), drop_of_length-le l {i = suc k} (omega arith), q, field);
}

pub written_next : {x w k y : ℕ} {o : List ℕ} (j b : ℕ) → Written x w k y o → k ≡ j + 1 → lead 1 y ≡ b ∷ [] → Written x w j (y / 10) (set o j b)
written_next {x} {w} {k} {y} {o} j b f h e = record {
  size = length-set o j b ∙ f.size;
  within = omega (arith, f.within);
  digits =
      let q : k ≡ suc j = omega arith in
      let r : lead (suc j) y ++ drop (suc j) o ≡ field w x = rw q at f.digits in
      rw (stored o j b (omega (arith, f.within, f.size)))
      (sym (append_assoc (lead j (y / 10)) (b ∷ []) (drop (suc j) o)) ∙ ap (λ (s : List ℕ). s ++ drop (suc j) o) (sym (lead-next j y b e)) ∙ r);
}

pub written_all : {x w k y : ℕ} {o : List ℕ} (v : ℕ) → Written x w k y o → k ≡ 0 → w ≡ v → o ≡ field v x
unfolding lead
written_all {x} {w} {k} {y} {o} v f h e = rw e at (rw h at f.digits)
